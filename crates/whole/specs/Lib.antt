-- What the other crates' definitions are written with.
pub mod Count
pub mod Decides
