-- The laws of the walk over the left halfsegments of two objects, of the order that it follows, and of the classes that it collects.
pub mod Comparable
pub mod Merging
pub mod Behind
pub mod Standing
pub mod Walking
pub mod AsRead
