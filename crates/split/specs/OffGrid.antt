-- 19 in points: "19 at the earliest record of F that crosses at a point off the grid" (02, Paper 3), of any point with fraction coordinates.
use Rattle.std.specs.Prelude.{ℕ, ◌<◌, ◌≡◌, not, List, T, Ok, Err}
use Rattle.whole.specs.Count.{◌∈◌}
use Rattle.plane.specs.declared.Point.{Point}
use Rattle.plane.specs.declared.Segment.{Segment}
use Rattle.plane.specs.Plane.{FractionPoint, fractions, on, is_at, is_end, cross}
use Rattle.scene.specs.declared.Layout.{Layout}
use Rattle.scene.specs.declared.Scene.{Scene}
use Rattle.scene.specs.Read.{CheckedScene, place, number_of, given_first, given_second}
use Rattle.scene.specs.Conditions.{has_segments, half, segments}
use Rattle.check_verdict.specs.SharedPoints.{RefusalSays}
use Rattle.split.specs.Split.{check_raw, check_split}

-- they cross, each with its ends strictly on both sides of the other's line, at a point strictly inside both that is no grid point
pub record CrossAtFraction (s t : Segment) : Type 0 where
  pub crossed : T (cross s t)
  pub point : FractionPoint
  pub on_one : T (on s (fractions point))
  pub on_other : T (on t (fractions point))
  pub inside_one : T (not (is_end s (fractions point)))
  pub inside_other : T (not (is_end t (fractions point)))
  pub off : (c : Point) → ¬ T (is_at c (fractions point))

-- a segment and one of the others do
pub record CrossedAtFraction (others : List Segment) (t : Segment) : Type 0 where
  pub other : Segment
  pub among : other ∈ others
  pub crosses : CrossAtFraction t other

module _ (s : List ℕ) (l : Layout) (others : List Segment) where
  -- "the record at fault", by its index: its segment is so crossed
  pub record CrossedRecord (i : ℕ) : Type 0 where
    pub within : i < l.count
    pub has_segment_lem : T (has_segments l.shape)
    pub crossed : CrossedAtFraction others (half s l i).segment

  -- its place, the earliest of those
  pub record EarliestCrossed (p : ℕ) : Type 0 where
    pub index : ℕ
    pub at_fault : CrossedRecord index
    pub none_earlier : (j : ℕ) → j < index → ¬ CrossedRecord j
    pub its_place : place l index ≡ p

  abbrev pub NoneCrossed : Type 0
  NoneCrossed = (i : ℕ) → ¬ CrossedRecord i

-- of the object that the bytes have first
module _ (s : List ℕ) (sc : Scene) where
  abbrev pub EarliestOff : ℕ → Type 0
  EarliestOff = EarliestCrossed s (given_first sc) (segments s (given_second sc))

  abbrev pub NoneOff : Type 0
  NoneOff = NoneCrossed s (given_first sc) (segments s (given_second sc))

-- what an answer says of it, of a pair that 1 to 14 do not refuse: refused under 19 it has such a record, the earliest at that place, and with any other answer none
abbrev pub OffGridSays : List ℕ → Scene → CheckedScene → Type 0
OffGridSays s sc (Ok taken) = NoneOff s sc
OffGridSays s sc (Err r) = RefusalSays 19 (EarliestOff s sc) (NoneOff s sc) (number_of r.reason) r.place

abbrev pub OffGridMeans : List ℕ → ℕ → Type 0
OffGridMeans s room = (sc : Scene) → check_raw s ≡ Ok sc → OffGridSays s sc (check_split s room)
