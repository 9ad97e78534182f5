-- The empty object that stands beside the one that is checked.
pub mod Beside
