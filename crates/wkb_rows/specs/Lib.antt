-- The different elements of what was read, in order, and the keys of segments.
pub mod Rows
pub mod Examples
