-- The pieces of an object's segments, and 19.
pub mod Listed
pub mod Split
