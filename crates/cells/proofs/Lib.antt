-- Demand 3 over the bytes of a scene.
pub mod Taken
pub mod AskedTwice
