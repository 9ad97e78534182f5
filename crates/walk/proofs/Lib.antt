-- How the events are laid, what a portion makes of them, and what holds of a whole walk.
pub mod ByKeys
pub mod Laid
pub mod Points
pub mod Beginning
pub mod Gathered
pub mod Settled
pub mod Portioning
pub mod Theorems
