-- Where midpoints are.
pub mod Interiors
pub mod Examples
