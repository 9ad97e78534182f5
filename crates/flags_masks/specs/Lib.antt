-- What the wanted masks are.
pub mod Wanted
