-- What the sweep tests of two segments, what one event does to the status, what the sweep keeps from event to event, and what it notes.

-- the order of two segments, from low to high
pub mod Lower
-- places among the entries of the status
pub mod Status
-- what is kept from event to event
pub mod Kept
-- the events of a scene, and the conditions
pub mod Swept
-- one event
pub mod Event
-- 13 by pairs of halfsegments
pub mod Evenly
-- what the code of an event asks for
pub mod Held
-- the notes, by definition
pub mod Noted
-- the notes of points, as they are found
pub mod Located
