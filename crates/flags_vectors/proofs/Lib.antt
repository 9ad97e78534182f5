-- What belongs to no one function: the vectors from the flags, the answer, and that no flag of it is wrong.
pub mod Answered
pub mod NoFlagWrong
