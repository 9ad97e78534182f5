-- What the value of a float is.
pub mod Value
