-- The nine-intersection matrix, and what it means.
pub mod Matrix
