-- The flags follow from the meetings, the classes and the notes of the sweep.
pub mod Degrees
pub mod Ends
pub mod Noting
pub mod Sizes
pub mod Meeting
pub mod Classing
pub mod RegionRegion
pub mod LineLine
pub mod LineRegion
pub mod PointsPoints
pub mod PointsLine
pub mod PointsRegion
pub mod Theorem
pub mod ReadOff
