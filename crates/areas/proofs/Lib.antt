-- The laws of the areas.
-- what a segment is worth by its sides, a region by itself, the two the other way round, and the parts that make up a region
pub mod Weighed
pub mod Own
pub mod Exchanged
pub mod Whole
-- how large the terms are, a segment more, the walk over all, and what is answered
pub mod Bounds
pub mod Adding
pub mod Walking
pub mod Answered
pub mod Examples
