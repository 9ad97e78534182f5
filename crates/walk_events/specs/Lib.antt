-- What the events of a scene are, what taking one sets, and what a walk in portions has taken.
pub mod Events
pub mod Rising
pub mod Taking
pub mod Portions
pub mod Stepping
pub mod Windows
pub mod Scenes
