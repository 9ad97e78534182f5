-- What taking one element sets, off the table of flags.
pub mod OfClass
pub mod OfPoints
pub mod LineLine
pub mod LineRegion
pub mod RegionRegion
pub mod OneTaken
pub mod Stepping
pub mod Additive
