-- The cells question over a scene's bytes.
pub mod Explored
pub mod AskedTwice
