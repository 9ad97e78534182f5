-- An OGC relate pattern: document 02's Paper 7, "a scene and an OGC relate pattern of nine characters, row by row: T for a cell that must be yes, F for no, * for
-- either. The answer is yes exactly when all nine cells fit"; and its Paper 8, "In patterns T means any but F, the digits 0, 1 and 2 may stand".
use Rattle.scene.specs.declared.Reason.TheVariants.{NotNine, NoCharacter}
use Rattle.std.specs.Prelude.{None, Some}
use Rattle.scene.specs.Read.{Fault}
use Rattle.std.specs.Prelude.{ℕ, suc, ◌+◌, ◌*◌, ◌≡◌, Bool, ◌||◌, cond, List, [], ◌∷◌, eqb, length, get_or}
use Rattle.whole.specs.Count.{every}
use Rattle.plane.specs.Plane.{FractionPoint}
use Rattle.plane_dimensions.specs.declared.Dimension.{Dimension}
use Rattle.plane_dimensions.specs.declared.Dimension.TheVariants.{Empty, Points, Length, Area}
use Rattle.plane_dimensions.specs.Dimensions.{Value, sign, not_empty}
use Rattle.scene.specs.Read.{Condition, condition, unless}
use Rattle.cells_matrix.specs.Matrix.{Part, index, parts}

-- ---- a character and a cell

-- the bytes "T" and "*"
abbrev pub must_be : ℕ
must_be = 84

abbrev pub either : ℕ
either = 42

-- "F", "0", "1" or "2"
abbrev pub is_sign : ℕ → Bool
is_sign c = eqb c (sign Empty) || eqb c (sign Points) || eqb c (sign Length) || eqb c (sign Area)

-- "T means any but F", a sign its own value, "* for either"; and no cell fits what is none of the six
abbrev pub fits : ℕ → Dimension → Bool
fits c cell = cond (eqb c must_be) (not_empty cell) (cond (is_sign c) (eqb c (sign cell)) (eqb c either))

-- the same of the points of a cell: some point is one of them, or they have the value of the sign
abbrev pub Demands : ℕ → (FractionPoint → Type 0) → Type 0
Demands c A = (c ≡ must_be → (p : FractionPoint) × A p) × ((d : Dimension) → c ≡ sign d → Value d A)

-- one of the six
abbrev pub is_character : ℕ → Bool
is_character c = eqb c must_be || is_sign c || eqb c either

-- ---- a pattern and a matrix

-- "row by row"
abbrev pub position : Part → Part → ℕ
position r c = 3 * index r + index c

abbrev pub character_for : List ℕ → Part → Part → ℕ
character_for p r c = get_or p (position r c) 0

-- "all nine cells fit": those of a row, from a position on, and of all three
abbrev pub fits_row : List ℕ → ℕ → List Dimension → Bool
fits_row p at row = every (λ c. fits (get_or p (at + index c) 0) (get_or row (index c) Empty)) parts

unfoldable pub fits_all : List ℕ → List (List Dimension) → Bool
fits_all p m = every (λ r. fits_row p (3 * index r) (get_or m (index r) [])) parts

-- ---- what is turned away

-- 23 "at the position of the first character", by Paper 8 the first one "outside the six"
abbrev pub first_other : List ℕ → ℕ → Fault
first_other [] at = None
first_other (c ∷ p) at = cond (is_character c) (first_other p (suc at)) (Some at)

-- 22 "at place 0 if the pattern has not nine characters", then 23
abbrev pub not_nine : List ℕ → Fault
not_nine p = unless (eqb (length p) 9) 0

abbrev pub pattern_conditions : List ℕ → List Condition
pattern_conditions p = condition NotNine (not_nine p) ∷ condition NoCharacter (first_other p 0) ∷ []
