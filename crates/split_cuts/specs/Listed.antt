-- The segments of an object in a list, each with its ia.
use Rattle.std.specs.Prelude.{ℕ, List, map, T}
use Rattle.whole.specs.Count.{◌∈◌}
use Rattle.plane.specs.declared.Segment.{Segment}
use Rattle.plane.specs.Plane.{segment_in_range, ordered}
use Rattle.scene.specs.declared.Layout.{Layout}
use Rattle.scene.specs.Conditions.{elements, keep, half, ia, left_test}
use Rattle.split_cuts.specs.declared.Piece.{Piece}

abbrev pub segments_of : List Piece → List Segment
segments_of = map (λ p. p.segment)

-- a segment is listed once, by its left halfsegment
module _ (s : List ℕ) (l : Layout) where
  abbrev pub piece_at : ℕ → Piece
  piece_at i = record { segment = (half s l i).segment; ia = ia s l i }

  unfoldable pub listed : List Piece
  listed = map piece_at (keep (left_test s l) (elements l))

-- segments in range, each with its left end before its right
abbrev pub Good : List Segment → Type 0
Good l = (t : Segment) → t ∈ l → T (segment_in_range t) × T (ordered t)
