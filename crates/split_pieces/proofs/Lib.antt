-- The laws of a cut.
pub mod TwoPieces
pub mod Chain
pub mod CommonEnds
pub mod Unchanged
pub mod Pair
pub mod Area
pub mod Counted
pub mod Exact
pub mod Different
