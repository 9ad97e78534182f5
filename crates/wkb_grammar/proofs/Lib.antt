-- What the fields and the grammar come to where a test is known, what follows where bytes were taken, and examples.
pub mod Laws
pub mod Taken
pub mod Examples
