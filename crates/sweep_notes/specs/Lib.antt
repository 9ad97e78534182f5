-- The notes of the sweep as numbers, and in lent bytes.
pub mod Numbers
pub mod Lent
