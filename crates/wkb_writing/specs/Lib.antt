-- What is written as well-known binary, what a call to write answers, and that it is read back.
pub mod Wkb
pub mod Parts
pub mod Writing
pub mod ReadBack
