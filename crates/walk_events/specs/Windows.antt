-- "A wanted flag is clear until an event of some witness or witness pair is taken, and set once all of one's events are: a point's own, both halfsegments
-- of a segment, and for a boundary point or shared end the halfsegments it dominates." A witness is a point, a segment u, or an end v of one that passes the
-- test of the flag; `has i` says that the element i is taken. Only events of the object whose flag it is are counted as a witness's: with the other
-- object's counted too, or those of a pair's other member, "clear" and "set" ask less.
use Rattle.std.specs.Prelude.{ℕ, ◌<◌, ◌≡◌, Bool, false, List, T, get_or}
use Rattle.whole.specs.Count.{◌∈◌}
use Rattle.plane.specs.declared.Point.{Point}
use Rattle.plane.specs.declared.Segment.{Segment}
use Rattle.plane.specs.Plane.{dominating}
use Rattle.scene.specs.declared.Layout.{Layout}
use Rattle.scene.specs.Conditions.{half, segments}
use Rattle.flags.specs.Flags.{Edge}
use Rattle.flags.specs.Elements.{point_of, points_of, edges}
use Rattle.flags.specs.Sentences.{EndOf}
use Rattle.walk_events.specs.Taking.{Test, at, whole, end}

module _ (s : List ℕ) (l : Layout) where
  -- what can be a witness: one of the points; one of the segments, with its ia; an end of a segment
  pub record EndWitness (f : Segment → Point → Bool) (v : Point) : Type 0 where
    pub segment : Segment
    pub own : segment ∈ segments s l
    pub is_end_lem : EndOf v segment
    pub passes : T (f segment v)

  -- the events of a witness
  abbrev pub OfPoint : Point → ℕ → Type 0
  OfPoint v i = (i < l.count) × (point_of s l i ≡ v)

  abbrev pub OfSegment : Segment → ℕ → Type 0
  OfSegment u i = (i < l.count) × ((half s l i).segment ≡ u)

  abbrev pub AtPoint : Point → ℕ → Type 0
  AtPoint v i = (i < l.count) × (dominating (half s l i) ≡ v)

  -- b is the flag, with these elements taken
  pub record PointWindow (has : ℕ → Type 0) (f : Point → Bool) (b : Bool) : Type 0 where
    pub clear : T b → (v : Point) × (v ∈ points_of s l) × T (f v) × ((i : ℕ) × OfPoint v i × has i)
    pub set : (v : Point) → v ∈ points_of s l → T (f v) → ((i : ℕ) → OfPoint v i → has i) → T b

  pub record SegmentWindow (has : ℕ → Type 0) (f : Edge → Bool) (b : Bool) : Type 0 where
    pub clear : T b → (u : Edge) × (u ∈ edges s l) × T (f u) × ((i : ℕ) × OfSegment u.segment i × has i)
    pub set : (u : Edge) → u ∈ edges s l → T (f u) → ((i : ℕ) → OfSegment u.segment i → has i) → T b

  pub record EndWindow (has : ℕ → Type 0) (f : Segment → Point → Bool) (b : Bool) : Type 0 where
    pub clear : T b → (v : Point) × EndWitness f v × ((i : ℕ) × AtPoint v i × has i)
    pub set : (v : Point) → EndWitness f v → ((i : ℕ) → AtPoint v i → has i) → T b

  abbrev pub Window : (ℕ → Type 0) → Test → Bool → Type 0
  Window has (at f) b = PointWindow has f b
  Window has (whole f) b = SegmentWindow has f b
  Window has (end f) b = EndWindow has f b

-- the test of flag k; past the last there is none, and nothing passes it
abbrev pub test_at : List Test → ℕ → Test
test_at ts k = get_or ts k (at (λ v. false))
