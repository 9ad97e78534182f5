-- The laws of ℤ that the logic lacks, and of tests and counts over lists.
pub mod Ring
pub mod Solver
pub mod Balance
pub mod Sign
pub mod Logic
pub mod Sorted
pub mod Deciding
pub mod Counted
pub mod Parity
pub mod Totals
