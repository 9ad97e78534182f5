-- What is made of an object's bytes, and what two summaries say of the objects that they were made from.
pub mod Objects
