-- What one element amounts to beside the other object.
pub mod OneTaken
