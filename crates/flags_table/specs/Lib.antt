-- The flags by meetings and classes.
pub mod Table
pub mod Walks
