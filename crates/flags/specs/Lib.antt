-- What the topological flags are; and how many boundary points a line has.
pub mod Flags
pub mod Sentences
pub mod Boundary
pub mod Elements
