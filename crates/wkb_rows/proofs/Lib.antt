-- The laws of rows.
pub mod Placing
pub mod Orders
pub mod Gathered
pub mod Keyed
