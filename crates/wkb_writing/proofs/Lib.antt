-- Laws of what is written as well-known binary.
pub mod Lengths
pub mod Pattern
pub mod OneByOne
pub mod Halved
pub mod Answered
pub mod FieldsBack
pub mod FileBack
pub mod Examples
pub mod SameObject
