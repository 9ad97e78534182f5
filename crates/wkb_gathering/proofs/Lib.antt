-- Accepted bytes: their values, what they hold, what goes into rows, and that this is the row of the keys.
pub mod Numbers
pub mod Walking
pub mod Parts
pub mod Ranged
pub mod AsKeys
