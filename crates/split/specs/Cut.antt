-- Two objects cut by each other: what is refused before anything is written, and the pieces of each.
use Rattle.std.specs.Prelude.{ℕ, ◌-◌, ◌≤◌, ◌≡◌, true, false, Bool, Ok, Err, List, [], ◌∷◌, map, length}
use Rattle.whole.specs.Count.{◌∈◌}
use Rattle.plane.specs.declared.Segment.{Segment}
use Rattle.plane.specs.Plane.{interior_above}
use Rattle.plane.proofs.Accepted.{Across, AllOrdered}
use Rattle.scene.specs.declared.Shape.{Shape}
use Rattle.scene.specs.declared.Layout.{Layout}
use Rattle.scene.specs.declared.Reason.TheVariants.{OffGrid, TooManyElements, NoRoom}
use Rattle.scene.specs.Read.{Condition, condition}
use Rattle.scene.specs.Conditions.{has_segments, is_region, segments, or_else}
use Rattle.check_verdict.specs.Refusals.{Verdict, verdict}
use Rattle.scene_written.specs.Bytes.{GoodSegment}
use Rattle.split_pieces.proofs.Different.{AllDiffer}
use Rattle.split_cuts.specs.declared.Piece.{Piece}
use Rattle.split_cuts.specs.Listed.{segments_of, listed}
use Rattle.split_cuts.specs.Split.{off_grid, split_pieces}
use Rattle.split.specs.declared.cut.CutObject.{CutObject}
use Rattle.split.specs.Split.{SplitAnswer, split_of, too_many}

-- 19 and 20, of two objects that have segments
abbrev pub cut_conditions : List ℕ → Layout → Layout → List Condition
cut_conditions s own other =
    condition OffGrid (off_grid s own (segments s other)) ∷ condition TooManyElements (or_else (too_many s own other) (too_many s other own)) ∷ []

abbrev pub cut_verdict : List ℕ → Layout → Layout → Verdict
cut_verdict s own other = verdict (cut_conditions s own other)

-- the pieces of an object, and how many more they are than its segments
pub record CutRight (s : List ℕ) (own other : Layout) (c : CutObject) : Type 0 where
  pub pieces : c.pieces.items ≡ split_pieces (segments s other) (listed s own)
  pub added : c.added ≡ length (split_of s own other) - length (segments s own)

abbrev pub ias_of : List Piece → List Bool
ias_of = map (λ p. p.ia)

-- pieces that can be written: they share only common ends, none occurs twice, and a region's have the ia that 14 asks
pub record Ready (k : Shape) (pieces : List Piece) : Type 0 where
  pub has : has_segments k ≡ true
  pub few : length pieces ≤ 512
  pub good : (t : Segment) → t ∈ segments_of pieces → GoodSegment t
  pub ordered : AllOrdered (segments_of pieces)
  pub apart : Across (segments_of pieces) (segments_of pieces)
  pub differ : AllDiffer (segments_of pieces)
  pub right_ia : is_region k ≡ true → ias_of pieces ≡ map (interior_above (segments_of pieces)) (segments_of pieces)

-- the answer where bytes are handed over, if there is room for them
abbrev pub handed : List ℕ → ℕ → ℕ → Bool → SplitAnswer
handed bytes f g true = Ok (record { added_f = f; added_g = g; length = length bytes })
handed bytes f g false = Err (record { reason = NoRoom; place = 0 })
