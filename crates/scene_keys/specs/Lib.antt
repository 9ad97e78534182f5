-- The points of an object's elements as numbers.
pub mod Keyed
