-- What the answer of an event says.
pub mod Steps
