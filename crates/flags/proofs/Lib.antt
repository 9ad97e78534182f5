-- What belongs to no one function: the bits of a number, and marks collected element by element; the boundary rule; the flags' sentences; tests over an
-- object's elements; where the midpoint of a segment lies by the other object; and the elements of an object beside another; and the flags that two
-- objects share, asked of either first.
pub mod Bits
pub mod Marks
pub mod Boundary
pub mod Sentences
pub mod Elements
pub mod Inside
pub mod Clear
pub mod SideBySide
pub mod Exchanged
