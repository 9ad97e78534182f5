-- What belongs to no one function: numbers as the definitions read them, and lists of notes that say the same of a scene.
pub mod AsRead
pub mod Kept
