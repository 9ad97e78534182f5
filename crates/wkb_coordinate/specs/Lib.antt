-- Which floats are coordinates.
pub mod Coordinate
