-- The estimate of a side value.
pub mod Estimate
