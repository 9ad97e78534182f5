-- The box by the elements one after the other; and the summary by the scene that an object and an empty one form.
pub mod Corners
pub mod Summarized
