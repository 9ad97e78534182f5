-- The conditions 12 and 15 in points of the plane: what the verdict on bytes says of the points that segments share. `SharePoint` is the document's
-- sentence, of any point with fraction coordinates; the numbers and places are those of its table and of the paragraph below the table.
use Rattle.std.specs.Prelude.{Err, None, Ok, Some}
use Rattle.scene.specs.Read.{number_of, CheckedObject, CheckedScene, Fault}
use Rattle.std.specs.Prelude.{ℕ, ◌<◌, ◌≡◌, ◌⊎◌, List, T}
use Rattle.whole.specs.Count.{◌∈◌}
use Rattle.plane.specs.declared.Segment.{Segment}
use Rattle.plane.specs.Plane.{SharePoint}
use Rattle.scene.specs.declared.Layout.{Layout}
use Rattle.scene.specs.declared.Scene.{Scene}
use Rattle.scene.specs.Read.{place, given_first, given_second, read_alone, IsScene}
use Rattle.scene.specs.Conditions.{has_segments, half, segments}

-- ---- segments

-- no two "unequal segments", one of each list, "share a point that is not an end of both"
abbrev pub OnlyEndsShared : List Segment → List Segment → Type 0
OnlyEndsShared these others = (t u : Segment) → t ∈ these → u ∈ others → ¬ (t ≡ u) → ¬ SharePoint t u

-- a segment and an unequal one of the others do
pub record SharesWith (others : List Segment) (t : Segment) : Type 0 where
  pub other : Segment
  pub among : other ∈ others
  pub unequal : ¬ (t ≡ other)
  pub point : SharePoint t other

-- ---- the records of an object

module _ (s : List ℕ) (l : Layout) (others : List Segment) where
  -- "the record at fault", by its index: its segment shares such a point with one of the others. Points have no segments.
  pub record AtFault (i : ℕ) : Type 0 where
    pub within : i < l.count
    pub has_segment_lem : T (has_segments l.shape)
    pub shares : SharesWith others (half s l i).segment

  -- its place, "the earliest if several". Of a pair in one object both are at fault, so that the earliest is "the earlier record of the pair".
  pub record EarliestAtFault (p : ℕ) : Type 0 where
    pub index : ℕ
    pub at_fault : AtFault index
    pub none_earlier : (j : ℕ) → j < index → ¬ AtFault j
    pub its_place : place l index ≡ p

  -- "the earliest place at fault, if any"
  abbrev pub FaultMeans : Fault → Type 0
  FaultMeans None = OnlyEndsShared (segments s l) others
  FaultMeans (Some p) = EarliestAtFault p

-- ---- 12: "two segments of one object share a point that is not an end of both"

module _ (s : List ℕ) (l : Layout) where
  abbrev pub OnlyEndsIn : Type 0
  OnlyEndsIn = OnlyEndsShared (segments s l) (segments s l)

  abbrev pub EarliestIn : ℕ → Type 0
  EarliestIn = EarliestAtFault s l (segments s l)

-- over a scene, the records of the object given first come before the other's
module _ (s : List ℕ) (sc : Scene) where
  abbrev pub OnlyEndsInEach : Type 0
  OnlyEndsInEach = OnlyEndsIn s (given_first sc) × OnlyEndsIn s (given_second sc)

  abbrev pub EarliestInEither : ℕ → Type 0
  EarliestInEither p = EarliestIn s (given_first sc) p ⊎ (OnlyEndsIn s (given_first sc) × EarliestIn s (given_second sc) p)

-- ---- 15: "unequal segments of F and G share a point that is not an end of both"; 02, Paper 1: "for 15 the record is the caller's first object's"

module _ (s : List ℕ) (sc : Scene) where
  abbrev pub OnlyEndsAcross : Type 0
  OnlyEndsAcross = OnlyEndsShared (segments s (given_first sc)) (segments s (given_second sc))

  abbrev pub EarliestAcross : ℕ → Type 0
  EarliestAcross = EarliestAtFault s (given_first sc) (segments s (given_second sc))

-- ---- the verdict

-- What a refusal with a number and a place says of one condition: "8 to 17 in order", so under its own number it has its earliest fault there, and
-- under a later one it has none. An earlier number says nothing of it.
pub record RefusalSays (condition : ℕ) (Earliest : ℕ → Type 0) (None : Type 0) (number p : ℕ) : Type 0 where
  pub at_fault : number ≡ condition → Earliest p
  pub no_fault : condition < number → None

-- Of a scene's bytes. "Numbers 1 to 7 are found record by record", and under any other number both objects were read.
abbrev pub CheckedMeans : List ℕ → CheckedScene → Type 0
CheckedMeans s (Ok sc) = IsScene s sc × OnlyEndsInEach s sc × OnlyEndsAcross s sc
CheckedMeans s (Err r) =
    7 < number_of r.reason
    → (sc : Scene) × IsScene s sc
    × RefusalSays 12 (EarliestInEither s sc) (OnlyEndsInEach s sc) (number_of r.reason) r.place
    × RefusalSays 15 (EarliestAcross s sc) (OnlyEndsAcross s sc) (number_of r.reason) r.place

-- Of one object's bytes: "A call on one object takes 1 to 7 and 10 to 14 over its bytes alone"
abbrev pub CheckedObjectMeans : List ℕ → CheckedObject → Type 0
CheckedObjectMeans s (Ok l) = (read_alone s ≡ Ok l) × OnlyEndsIn s l
CheckedObjectMeans s (Err r) =
    7 < number_of r.reason
    → (l : Layout) × (read_alone s ≡ Ok l) × RefusalSays 12 (EarliestIn s l) (OnlyEndsIn s l) (number_of r.reason) r.place
