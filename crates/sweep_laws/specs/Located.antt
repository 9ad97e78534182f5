-- What the sweep notes of a point of F, by its neighbours among the entries that are active there, and which points it takes before the next halfsegment of G.
use Rattle.std.specs.Prelude.{ℕ, ◌<◌, ◌≤◌, ◌≡◌, ◌⊎◌, Bool, false, not, ◌&&◌, ◌||◌, List, T, ltb, pos, length, get_or}
use Rattle.whole.specs.Count.{eq_z, bit, odd}
use Rattle.plane.specs.declared.Point.{Point}
use Rattle.plane.specs.declared.Segment.{Segment}
use Rattle.plane.specs.Plane.{side, before, dominating}
use Rattle.scene.specs.declared.Scene.{Scene}
use Rattle.scene.specs.Read.{point_at, segment_at, halfsegment_at, place}
use Rattle.sweep_laws.specs.Lower.{passes_under, passes_over}
use Rattle.sweep_laws.specs.Status.{AtPlace, BelowPlace}
use Rattle.sweep_laws.specs.Swept.{total}

-- the line of t passes through v: neither under it nor over it
abbrev pub on_line : Segment → Point → Bool
on_line t v = eq_z (side t.left t.right v) (pos 0)

-- what the sweep finds of v: an entry whose line passes through it, or a place where the entry just below passes under it and the one there over it
pub data NearNote (s entries : List ℕ) (v : Point) (note : ℕ) : Type 0 where
  on_entry : (k : ℕ) → k < length entries → T (on_line (segment_at s (get_or entries k 0)) v) → note ≡ 2 → NearNote s entries v note
  between : (k : ℕ) → k ≤ length entries → BelowPlace entries k (λ e. T (passes_under (segment_at s e) v)) → AtPlace entries k (λ e. T (passes_over (segment_at s e) v))
      → note ≡ bit (odd k) → NearNote s entries v note

module _ (s : List ℕ) (sc : Scene) where
  abbrev pub point_by : ℕ → Point
  point_by i = point_at s (place sc.f i)

  -- F's point i comes before G's halfsegment j: G has none left, or its dominating point does not come before the point
  abbrev pub is_point_next : ℕ → ℕ → Bool
  is_point_next i j =
      ltb i sc.f.count && (not (ltb j (total s sc false)) || not (before (dominating (halfsegment_at s (place sc.g j))) (point_by i)))

  -- the points from i to i', which come before G's halfsegment j, have been noted by the entries, and nothing else has
  pub record PointsTaken (j : ℕ) (entries : List ℕ) (i i' : ℕ) (old new : List ℕ) : Type 0 where
    pub onward : i ≤ i'
    pub same_length : length new ≡ length old
    pub next : (k : ℕ) → i ≤ k → k < i' → T (is_point_next k j)
    pub notes : (k : ℕ) → i ≤ k → k < i' → NearNote s entries (point_by k) (get_or new k 0)
    pub others : (k : ℕ) → (k < i) ⊎ (i' ≤ k) → get_or new k 0 ≡ get_or old k 0
