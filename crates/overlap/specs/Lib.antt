-- The overlap list of two regions: its bytes from their edges alone, the walk over their different segments, the scenes that have a list which fits a
-- buffer, what is answered, and the class flags in the list.
pub mod Bytes
pub mod Walked
pub mod Rules
pub mod Overlap
pub mod Classes
