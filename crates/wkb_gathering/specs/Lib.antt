-- What the second pass reads and gathers.
pub mod Keys
pub mod Gathers
