-- What belongs to no one function: keys of points, runs of equal keys, and what the walk from run to run keeps.
pub mod PointKinds
pub mod Runs
pub mod Elements
pub mod Walking
-- notes that bytes hold
pub mod AsRead
