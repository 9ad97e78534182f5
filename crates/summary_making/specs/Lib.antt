-- What the call on one object answers.
pub mod Making
