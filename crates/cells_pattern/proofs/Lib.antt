-- What belongs to no one function: the check of a scene and a pattern, the cells that are read off some flags alone, and the answer in points.
pub mod Checked
pub mod ReadOff
pub mod Related
pub mod Examples
