-- What the exported functions answer.
pub mod Answer
pub mod Walks
