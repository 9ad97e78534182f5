-- The search for a place in the order; how many segments end where halfsegments stand together; that the earliest record at fault by the tests of one element is that of the definitions; and what the loops over
-- points and over halfsegments have in common.
pub mod Halving
pub mod Counting
pub mod Halves
pub mod Together
pub mod Earliest
pub mod Numbered
pub mod Pass
