-- The laws of crossings: where a line parts a segment, what a crossing is in points, what the cuts are, and what two objects become that are split by each other.
pub mod Proportion
pub mod Crossings
pub mod Divided
pub mod Stepping
pub mod Reached
pub mod Cutting
pub mod Range
pub mod SplitWell
-- and the numbers on the way: how large a side value is
pub mod Sides
pub mod BySides
pub mod Putting
pub mod Inside
pub mod Sizes
