-- What an accepted object's bytes give the theorems of summaries, and those theorems over bytes.
pub mod Accepted
pub mod Told
pub mod Found
