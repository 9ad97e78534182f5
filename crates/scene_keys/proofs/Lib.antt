-- The keys of points in range, and the points of elements.
pub mod Keys
pub mod Elements
