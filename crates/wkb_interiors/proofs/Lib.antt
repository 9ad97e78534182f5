-- The laws of interiors.
pub mod Columns
pub mod Entries
