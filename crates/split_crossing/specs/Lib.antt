-- Where two segments cross, and the points at which they are cut.
pub mod Crossing
pub mod Steps
pub mod Cuts
pub mod Examples
