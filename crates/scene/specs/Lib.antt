-- The specification of reading a scene, or turning it away.
pub mod Read
pub mod Inner
pub mod Conditions
