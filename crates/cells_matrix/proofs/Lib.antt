-- Demand 3, pair by pair, and over the elements of any two objects.
pub mod Common
pub mod PointsPoints
pub mod PointsLine
pub mod Beside
pub mod PointsRegion
pub mod LineLine
pub mod LineRegion
pub mod RegionRegion
pub mod Theorem
pub mod Made
pub mod Parts
pub mod Dimensions
