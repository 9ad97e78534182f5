-- What the four values say of a set of points.
pub mod Dimensions
