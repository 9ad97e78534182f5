-- The window over summaries.
pub mod Window
