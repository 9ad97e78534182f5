-- Segments and triangles that keep clear of what they need not meet, and the laws of the four values.
pub mod Means
pub mod Avoided
pub mod Triangles
pub mod Spans
pub mod Border
pub mod Values
pub mod Around
pub mod Inner
