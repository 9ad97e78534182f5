-- What a row is after a move.
pub mod Closed
pub mod Laid
