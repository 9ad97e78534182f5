-- The twelve scenes, and the statement over all of them.
pub mod Scenes
