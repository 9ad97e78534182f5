-- The first bad summary, one summary among others, tests in a row as a word, one turn over the summaries, a hit in points, and what an answer says.
pub mod First
pub mod Records
pub mod Rows
pub mod Finite
pub mod Turns
pub mod Points
pub mod Told
pub mod Examples
