-- What crosses to C and comes back.
pub mod Walks
