-- How many boundary points a line has. Under the rule of odd counts it is always an even number: each segment has two ends, and a point that is no boundary
-- point takes an even number of them. proofs/Boundary.antt has the theorem, for any segments with the left end before the right.
use Rattle.std.specs.Prelude.{ℕ, ◌≡◌, false, List, [], ◌∷◌}
use Rattle.whole.specs.Count.{◌∈◌, odd, count}
use Rattle.plane.specs.declared.Point.{Point}
use Rattle.plane.specs.declared.Segment.{Segment}
use Rattle.flags.specs.Flags.{is_bound}
use Rattle.flags.specs.Sentences.{EndOfSome}

-- no point stands in the list twice
pub data Different : List Point → Type 0 where
  none : Different []
  another : {v : Point} {m : List Point} → (v ∈ m → ⊥) → Different m → Different (v ∷ m)

-- the list has every end of the line, and each point once; points that are no ends may stand in it too. Every line has such a list (`ends_listed`).
pub record ListsEnds (l : List Segment) (m : List Point) : Type 0 where
  pub different : Different m
  pub every_end : (v : Point) → EndOfSome l v → v ∈ m

-- how many of the points in the list are boundary points of the line
abbrev pub boundary_points : List Segment → List Point → ℕ
boundary_points l m = count (is_bound l) m

-- a line has an even number of boundary points, in whichever of these lists they are counted
abbrev pub EvenlyBounded : List Segment → Type 0
EvenlyBounded l = (m : List Point) → ListsEnds l m → odd (boundary_points l m) ≡ false
