-- What reading a well-known binary file answers.
pub mod Reading
