-- How far the estimate lies from the side value.
pub mod Bound
pub mod Examples
