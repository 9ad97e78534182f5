-- What the tests of one element promise, and the earliest fault under each condition.
pub mod Partners
pub mod Odd
pub mod Ordered
pub mod Faults
