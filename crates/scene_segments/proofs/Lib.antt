-- Laws of the elements of an object and of the walks over them, that the proofs of the functions and of other crates cite.
pub mod Parted
pub mod Elements
pub mod Indices
pub mod Partners
pub mod Walk
pub mod Until
pub mod Beyond
