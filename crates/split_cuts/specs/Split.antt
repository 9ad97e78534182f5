-- The pieces of an object that is split by another, each with the ia of its segment; and the fault of 19.
use Rattle.std.specs.Prelude.{ℕ, ◌+◌, ◌<◌, ◌≡◌, Bool, true, false, ◌&&◌, length, List, [], ◌∷◌, ◌++◌, map, None, Some}
use Rattle.whole.specs.Count.{some}
use Rattle.plane.specs.declared.Segment.{Segment}
use Rattle.scene.specs.declared.Layout.{Layout}
use Rattle.scene.specs.Read.{Fault}
use Rattle.scene.specs.Conditions.{elements, half, left_test, earliest}
use Rattle.split_pieces.specs.Pieces.{pieces}
pub use Rattle.split_crossing.specs.Crossing.{is_off, crosses_off}
use Rattle.split_crossing.specs.Cuts.{cuts}
use Rattle.split_cuts.specs.declared.Piece.{Piece}
use Rattle.split_cuts.specs.declared.first.Unsplit.{Unsplit}
use Rattle.split_cuts.specs.declared.first.Unsplit.TheVariants.{OffGrid, TooMany}

-- ---- the pieces

abbrev pub with_ia : Bool → List Segment → List Piece
with_ia ia = map (λ t. record { segment = t; ia = ia })

abbrev pub split_pieces : List Segment → List Piece → List Piece
split_pieces other [] = []
split_pieces other (p ∷ l) = with_ia p.ia (pieces (cuts other) p.segment) ++ split_pieces other l

-- "would pass 1,024 elements": an object has two for each segment
abbrev pub most_pieces : ℕ
most_pieces = 512

-- ---- 19, "at the earliest record of F that crosses at a point off the grid": of a segment's two records the left one comes first

module _ (s : List ℕ) (l : Layout) (other : List Segment) where
  abbrev pub is_off_grid : ℕ → Bool
  is_off_grid i = left_test s l i && some (crosses_off (half s l i).segment) other

  unfoldable pub off_grid : Fault
  off_grid = earliest l is_off_grid (elements l)

-- with the pieces of one more segment, while there is room
abbrev pub Fits : Bool → Bool → List Piece → List Piece → Bool → List Segment → Type 0
Fits true had before after ia l = (had ≡ true) × (after ≡ before ++ with_ia ia l)
Fits false had before after ia l = had ≡ true → most_pieces < length before + length l

-- why an object is not split, by its fault under 19 and how many pieces it would have
abbrev pub Says : Unsplit → Fault → ℕ → Type 0
Says (OffGrid p) off pieces = off ≡ Some p
Says TooMany off pieces = (off ≡ None) × (most_pieces < pieces)
