-- What the proofs of the line share.
pub mod Decimal
pub mod Numbered
pub mod FirstBytes
pub mod Examples
