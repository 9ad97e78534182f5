-- What the searches over an object's elements promise.
pub mod Walked
