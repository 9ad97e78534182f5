-- What the functions over a read scene promise.
pub mod Refusals
pub mod SharedPoints
