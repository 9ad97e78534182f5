-- An object's bytes from its points or its segments.
pub mod Rows
pub mod Settled
pub mod Named
pub mod Examples
