-- The halves of the segments in a row by name.
use Rattle.std.specs.Prelude.{ℕ, zero, suc, ◌*◌, ◌<◌, ◌≡◌, T, Bool, true, false, List, [], ◌∷◌, ◌++◌, length, get_or}
use Rattle.whole.specs.Count.{◌∈◌}
use Rattle.whole.proofs.Logic.{Sorted}
use Rattle.plane.specs.declared.Halfsegment.{Halfsegment}
use Rattle.plane.specs.Plane.{comes_before}
use Rattle.scene_keys.specs.declared.Ends.{Ends}
use Rattle.scene_keys.specs.Keyed.{keyed_segment}
use Rattle.scene_written.specs.Bytes.{Edge}
use Rattle.scene_writing.specs.declared.order.Half.{Half}
use Rattle.scene_writing.specs.Settled.{settle}

-- what stands where no segment does
abbrev pub no_ends : Ends
no_ends = record { left = 0; right = 0 }

module _ (row : List Ends) where
  abbrev pub half_in : Half → Halfsegment
  half_in h = record { segment = keyed_segment (get_or row h.index no_ends); is_left = h.is_left }

  -- with its ia
  abbrev pub edge_in : List Bool → Half → Edge
  edge_in ia h = record { half = half_in h; ia = get_or ia h.index false }

  abbrev pub earlier_in : Half → Half → Bool
  earlier_in h j = comes_before (half_in h) (half_in j)

  -- these are halves of its segments
  abbrev pub AreHalves : List Half → Type 0
  AreHalves order = (h : Half) → h ∈ order → h.index < length row

  -- each comes before all later ones
  abbrev pub AreRising : List Half → Type 0
  AreRising = Sorted (λ h j. T (earlier_in h j))

-- what stands where no half does
abbrev pub no_half : Half
no_half = record { index = 0; is_left = false }

-- those of the first n segments, the left half of each before the right one
abbrev pub names_of : ℕ → List Half
names_of zero = []
names_of (suc i) = names_of i ++ (record { index = i; is_left = true } ∷ record { index = i; is_left = false } ∷ [])

-- the halves of all segments of a row, in order
pub record IsSettled (row : List Ends) (order : List Half) : Type 0 where
  pub settled : order ≡ settle (earlier_in row) [] (names_of (length row))
  pub halves : AreHalves row order
  pub many : length order ≡ 2 * length row
