-- What the ground of a walk is, what its state is, and what a portion of it gives.
pub mod Ground
pub mod Laying
pub mod Walked
pub mod Theorems
