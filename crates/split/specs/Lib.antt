-- The splitter: what it answers and writes, what it promises, and examples.
pub mod Split
pub mod Cut
pub mod Promised
pub mod OffGrid
pub mod Examples
pub mod Joined
