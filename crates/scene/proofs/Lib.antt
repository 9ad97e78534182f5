-- Laws of reading, of elements and of conditions that the proofs of the functions and of other crates cite.
pub mod Outcomes
pub mod Passed
pub mod Shapes
pub mod Taken
pub mod Given
pub mod Indices
pub mod Moved
pub mod Prefix
pub mod Standing
pub mod SideBySide
pub mod Examples
