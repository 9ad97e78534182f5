-- The laws of the overlap list.
-- the merged segments of two regions, and the sides and the byte of a segment
pub mod Members
pub mod Sorted
pub mod Adjoins
pub mod BySides
pub mod Beside
-- the walk over the different segments, and their bytes by what the sweep noted
pub mod Merging
pub mod Steps
pub mod Listing
pub mod Clear
pub mod Noted
-- the check before the list, the buffer that it is written into, and the class flags in it
pub mod Checked
pub mod Filled
pub mod Classes
pub mod Examples
