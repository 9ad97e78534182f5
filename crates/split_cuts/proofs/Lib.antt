-- That segments which do not touch cut nothing; the elements of an object as a list; lists, one element after the other.
pub mod Clear
pub mod Listing
pub mod Steps
