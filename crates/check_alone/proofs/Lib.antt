-- An object beside an empty one, the check of one object by the scene of the two, what an accepted object gives, and that the ia of one that is accepted are right.
pub mod EmptyBeside
pub mod Alone
pub mod Accepted
pub mod RightIa
