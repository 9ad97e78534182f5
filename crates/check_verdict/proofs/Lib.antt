-- Laws of the conditions that the proofs of the functions and of other crates cite.
pub mod Verdicts
pub mod Laws
pub mod Numbers
pub mod SharedPoints
pub mod CheckedMeans
pub mod EitherOrder
