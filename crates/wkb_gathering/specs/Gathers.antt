-- What a function of the second pass does: it puts all of what was read at a place into a row, and comes to the place after it; or the row has no room for all.
use Rattle.std.specs.Prelude.{ℕ, ◌+◌, ◌≤◌, ◌<◌, ◌≡◌, Bool, List, [], T, length, Result, MatchResult}
use Rattle.std.specs.declared.cmp.Ordering.{Ordering}
use Rattle.plane.specs.declared.Point.{Point}
use Rattle.plane.specs.Plane.{in_range}
use Rattle.scene_keys.specs.Keyed.{key}
use Rattle.wkb_grammar.specs.Grammar.{Read, got, bad, Row, point_at, file}
use Rattle.wkb_rows.specs.Rows.{gathered, is_below}

-- the key of the point at a place
pub record KeyRead (s : List ℕ) (little : Bool) (at k : ℕ) : Type 0 where
  pub point : Point
  pub is : point_at s little at ≡ got point (at + 16)
  pub there : at + 16 ≤ length s
  pub in_range_lem : T (in_range point)
  pub keyed : k ≡ key point

-- the parts of a file that was accepted
abbrev pub parts_in : Read (List (List Row)) → List (List Row)
parts_in (got parts end) = parts
parts_in (bad f) = []

abbrev pub parts_of : List ℕ → List (List Row)
parts_of s = parts_in (file s)

-- a row, and a place
pub record Reached (K : Type 0) : Type 0 where
  pub row : List K
  pub place : ℕ

module _ {K : Type 0} (cmp : K → K → Ordering) where
  -- where what was read at a place has keys, a row with all of them, and the place after it; of what was refused nothing is asked
  abbrev pub put_all : {A : Type 0} → (A → List K) → Read A → List K → Reached K
  put_all keys (got a at) row = record { row = gathered (is_below cmp) row (keys a); place = at }
  put_all keys (bad f) row = record { row = row; place = 0 }

abbrev pub Puts : {K E : Type 0} → ℕ → Reached K → Result ℕ E → List K → Type 0
Puts room reached result row = MatchResult result (λ at. (at ≡ reached.place) × (row ≡ reached.row)) (λ _. room < length reached.row)
