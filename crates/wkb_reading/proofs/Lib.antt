-- The answer by its cases, the object that is made of a row, that what is accepted has the bytes of the object as it is written, and examples.
pub mod Objects
pub mod Answered
pub mod AsWritten
pub mod Examples
