-- The class of a segment beside the other object, and the walk over the left halfsegments of both.
pub mod Classed
pub mod Marked
pub mod Walked
