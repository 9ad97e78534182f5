-- What is written of points and of segments.
pub mod Rows
pub mod Sinking
pub mod Rising
pub mod Settling
pub mod Earlier
pub mod Items
pub mod Wrote
pub mod SettledBack
pub mod InOrder
pub mod Strict
