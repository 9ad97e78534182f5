-- What the topological feature vectors are.
pub mod Vectors
