-- What follows from the answer of an event, of odd numbers, and from the tests of what was read.
pub mod Answers
pub mod Odd
pub mod Read
