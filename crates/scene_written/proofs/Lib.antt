-- Laws of what is written.
pub mod Coordinates
pub mod AreBytes
pub mod Stands
pub mod ReadBack
pub mod Compared
pub mod Arranging
pub mod Judged
pub mod Taken
pub mod Again
pub mod Examples
