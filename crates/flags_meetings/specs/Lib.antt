-- How elements of two objects meet at points.
pub mod Met
pub mod Keyed
