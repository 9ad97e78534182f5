-- What is written is read back as the same bytes.
pub mod Wrote
pub mod Again
