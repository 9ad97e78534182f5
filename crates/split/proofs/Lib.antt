-- The laws of the splitter: what a taken pair gives, that what is written is an accepted scene, what is promised, that what was split is not cut again, and the checks one after the other.
pub mod Given
pub mod Accepted
pub mod Kept
pub mod Again
pub mod Judged
pub mod Cutting
pub mod Pieces
pub mod Answered
pub mod Joined
pub mod CrossedRecords
pub mod Nineteen
