-- The specification of the line that answers a scene.
pub mod Line
