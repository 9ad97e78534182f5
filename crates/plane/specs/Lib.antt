-- The plane's specification.
pub mod Plane
pub mod Shoelace
