-- Shared and separate ground: the three parts of two regions from their edges alone, and what is answered for a scene's bytes.
pub mod Parts
pub mod Areas
