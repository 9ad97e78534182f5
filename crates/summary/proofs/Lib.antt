-- Far objects: what two summaries tell is the full answer; every summary made is good.
pub mod Hull
pub mod Clear
pub mod Edges
pub mod Far
pub mod Boxes
pub mod Flat
pub mod Made
pub mod Found
pub mod Theorem
pub mod Bytes
pub mod Near
pub mod Examples
