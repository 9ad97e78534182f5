-- The walks of a sweep over its two objects.
pub mod Walk
