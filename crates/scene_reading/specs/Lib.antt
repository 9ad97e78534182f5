-- What the tight loop over elements without fault promises.
pub mod Faultless
