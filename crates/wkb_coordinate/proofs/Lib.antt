-- What a float is when it is cut, what `coordinate_of` says in other words, and examples.
pub mod Cut
pub mod Meaning
pub mod Examples
