-- What holds of the events and of a walk in portions.
pub mod Merged
pub mod AllTaken
pub mod Portioned
pub mod Stepped
pub mod Standing
pub mod Windows
pub mod Ordering
pub mod Alone
