-- The laws of the sweep. They say two things: a run that ends well has found that the conditions 11 to 15 find no fault, and that the notes are those that
-- are defined; and where these find no fault, the run goes on to its end. Both are by events, from what is tested of neighbours in the status.

-- ---- two segments, and a point

-- in one order at both ends they do not touch
pub mod NoTouch
-- the test `under`, and the order of points by coordinates
pub mod Under
-- where one is the lower at both ends, it passes under the other between
pub mod Between
-- and the other way round: where one passes under the other and they do not touch, it is the lower at the right
pub mod Crossing
-- what passes under a segment's beginning counts below its midpoint
pub mod Start
-- ---- lists

-- what goes on from neighbour to neighbour
pub mod Linked
-- one entry more or less
pub mod Shifted
-- ---- a scene's bytes

-- the records of its elements
pub mod Objects
-- the entries of the status
pub mod Entries
-- what the conditions 10 to 14 give of an object
pub mod SoundObject
-- 13 by pairs of halfsegments
pub mod Evenly
-- ---- a run, event by event

-- an event keeps what the sweep keeps
pub mod Events
-- what is tested of the neighbours holds of all
pub mod Neighbours
-- the strands begun and ended so far
pub mod Begun
-- what holds after so many events
pub mod Run
-- what the run starts from, by 10
pub mod Ordered
-- the event that is next
pub mod Chosen
-- the notes so far
pub mod Notes
-- ---- a run that ends well: 11 to 15 find no fault

pub mod Counts
pub mod Final
-- the points of F, noted by the entries
pub mod Located
pub mod PointRun
-- ---- where 11 to 15 find no fault, a run ends well

-- the order of events at one point
pub mod EventOrder
-- a segment that begins fits between its neighbours
pub mod Fits
-- the tests of each event hold
pub mod Complete
-- what the conditions give for that
pub mod Fairness
-- each active segment ends later
pub mod Lasting
-- there is room in the status
pub mod Room
-- all of it, at an event
pub mod GoesOn
