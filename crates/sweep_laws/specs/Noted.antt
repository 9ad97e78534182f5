-- What the sweep notes down of each element while it runs, for the flags: a number for each element of F, and 1,024 further on for each of G.
use Rattle.std.specs.Prelude.{ℕ, ◌<◌, ◌≡◌, Bool, false, not, cond, List, T, get_or}
use Rattle.whole.specs.Count.{bit, odd, some, count}
use Rattle.plane.specs.declared.Point.{Point}
use Rattle.plane.specs.declared.Segment.{Segment}
use Rattle.plane.specs.Plane.{grid, is_same_segment, counts_below, is_on_some, ends_at}
use Rattle.scene.specs.declared.Shape.TheVariants.{Points}
use Rattle.scene.specs.declared.Scene.{Scene}
use Rattle.scene.specs.Read.{point_at, segment_at, place}
use Rattle.scene.specs.Conditions.{has_segments, segments}
use Rattle.sweep_laws.specs.Lower.{under}
use Rattle.sweep_laws.specs.Swept.{object_of, total}
pub use Rattle.sweep_laws.specs.Swept.{slot}

-- of a segment that is none of the other object's: 1 where an odd number of the other's segments pass under its beginning
abbrev pub segment_note : List Segment → Segment → ℕ
segment_note others t = bit (odd (count (under t) others))

-- of a point that is no end of the segments: 2 on one of them, else 1 where an odd number count below it
abbrev pub point_note : List Segment → Point → ℕ
point_note others v = cond (is_on_some others (grid v)) 2 (bit (odd (count (counts_below (grid v)) others)))

-- each element of an object with segments, left halfsegment or right
abbrev pub SegmentsNoted : List ℕ → Scene → List ℕ → Type 0
SegmentsNoted s sc notes =
    (first : Bool) (k : ℕ) → k < total s sc first
    → some (is_same_segment (segment_at s (place (object_of s sc first) k))) (segments s (object_of s sc (not first))) ≡ false
    → get_or notes (slot first k) 0 ≡ segment_note (segments s (object_of s sc (not first))) (segment_at s (place (object_of s sc first) k))

-- each point of a points object beside an object with segments
abbrev pub PointsNoted : List ℕ → Scene → List ℕ → Type 0
PointsNoted s sc notes =
    sc.f.shape ≡ Points → T (has_segments sc.g.shape) → (k : ℕ) → k < sc.f.count
    → ends_at (segments s sc.g) (grid (point_at s (place sc.f k))) ≡ 0
    → get_or notes k 0 ≡ point_note (segments s sc.g) (point_at s (place sc.f k))

pub record Noted (s : List ℕ) (sc : Scene) (notes : List ℕ) : Type 0 where
  pub of_segments : SegmentsNoted s sc notes
  pub of_points : PointsNoted s sc notes
