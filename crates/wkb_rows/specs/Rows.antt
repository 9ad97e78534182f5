-- Document 02, Paper 9: "Equal points and equal segments in the input are taken once, for regions too; equal neighbours in a part or ring make no segment."
-- What was read is a list of parts: each a list of rows of points, one row for a point or a line's part, and the rings for a polygon.
use Rattle.std.specs.Prelude.{T, ℕ, ◌≤◌, ◌≡◌, Bool, cond, ◌&&◌, ◌||◌, List, [], ◌∷◌, ◌++◌, length, insert as put_at}
use Rattle.std.specs.declared.cmp.Ordering.{Ordering}
use Rattle.std.specs.Ordering.{is_lt, nat_cmp, ordering_then}
use Rattle.std.specs.List.{fold, flat_map}
use Rattle.whole.proofs.Logic.{Sorted}
use Rattle.plane.specs.declared.Point.{Point}
use Rattle.plane.specs.declared.Segment.{Segment}
use Rattle.plane.specs.Plane.{before, is_same_point}
use Rattle.scene_keys.specs.declared.Ends.{Ends}
use Rattle.scene_written.specs.Arranged.{insert}

module _ {A : Type 0} (less : A → A → Bool) where
  -- all of a list into a row, one after the other, as they are read
  abbrev pub gathered : List A → List A → List A
  gathered = fold (λ row a. insert less a row)

-- "equal neighbours in a part or ring make no segment"; a segment has its left end first, whichever way it was read
abbrev pub between : Point → Point → List Segment
between p q =
    cond (before p q) (record { left = p; right = q } ∷ [])
    (cond (before q p) (record { left = q; right = p } ∷ []) [])

abbrev pub along : Point → List Point → List Segment
along p [] = []
along p (q ∷ row) = between p q ++ along q row

abbrev pub neighbours : List Point → List Segment
neighbours [] = []
neighbours (p ∷ row) = along p row

-- by left end, then by right end
unfoldable pub segment_before : Segment → Segment → Bool
segment_before s t = before s.left t.left || (is_same_point s.left t.left && before s.right t.right)

-- the points and the segments that were read
abbrev pub all_points : List (List (List Point)) → List Point
all_points = flat_map (flat_map (λ row. row))

abbrev pub all_segments : List (List (List Point)) → List Segment
all_segments = flat_map (flat_map neighbours)

-- the different ones, in 01's order
unfoldable pub points_of : List (List (List Point)) → List Point
points_of parts = gathered before [] (all_points parts)

unfoldable pub segments_of : List (List (List Point)) → List Segment
segments_of parts = gathered segment_before [] (all_segments parts)

-- ---- by keys

-- a key comes before another in an order
abbrev pub is_below : {K : Type 0} → (K → K → Ordering) → K → K → Bool
is_below cmp a b = is_lt (cmp a b)

-- a row of different keys, in order
abbrev pub Rises : {K : Type 0} → (K → K → Ordering) → List K → Type 0
Rises cmp = Sorted (λ a b. T (is_below cmp a b))

-- a key goes into a row at place k
abbrev pub GoesTo : {K : Type 0} → (K → K → Ordering) → K → List K → ℕ → Type 0
GoesTo cmp a row k = (k ≤ length row) × (insert (is_below cmp) a row ≡ put_at row k a)

-- the order of segments, by the keys of their ends
abbrev pub ends_cmp : Ends → Ends → Ordering
ends_cmp d e = ordering_then (nat_cmp d.left e.left) (nat_cmp d.right e.right)
