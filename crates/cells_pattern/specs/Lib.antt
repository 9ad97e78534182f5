-- What it means that a pattern holds.
pub mod Pattern
pub mod Related
pub mod Asked
