-- The cells question over a scene's bytes: what is answered, for every byte string, and what the answer means for a scene that is taken.
use Rattle.std.specs.Prelude.{Result, Ok, Err, ℕ, ◌≡◌, ◌↔◌, Bool, List, T, eqb}
use Rattle.plane.specs.Plane.{FractionPoint}
use Rattle.plane_dimensions.specs.declared.Dimension.{Dimension}
use Rattle.plane_dimensions.specs.Dimensions.{Value, not_empty}
use Rattle.scene.specs.declared.Layout.{Layout}
use Rattle.scene.specs.declared.Scene.{Scene}
use Rattle.scene.specs.declared.Refusal.{Refusal}
use Rattle.scene.specs.Read.{number_of, CheckedScene, shape_number, given_first, given_second}
use Rattle.scene.specs.Conditions.{object, check_scene}
use Rattle.flags_masks.specs.declared.Wanted.{Wanted}
use Rattle.flags_vectors.specs.declared.Vectors.{Vectors}
use Rattle.flags_vectors.specs.Vectors.{vectors_in}
use Rattle.cells.specs.declared.Explored.{Explored}
use Rattle.cells_matrix.specs.Matrix.{Part, InBoth, Meet, matrix_given, no_cells, cell_at}

-- "an object is empty when it has no elements"
abbrev pub is_empty : Layout → Bool
is_empty l = eqb l.count 0

-- a scene with two vectors; "in the caller's order"
abbrev pub explored_by : Scene → Vectors → Explored
explored_by sc both =
    record {
      f = (given_first sc).shape;
      g = (given_second sc).shape;
      v = both.f;
      w = both.g;
      f_empty = is_empty (given_first sc);
      g_empty = is_empty (given_second sc);
    }

-- "its two vectors are those of demand 2 with every flag of the type pair wanted"
module _ (s : List ℕ) (sc : Scene) where
  abbrev pub whole_vectors : Vectors
  whole_vectors = vectors_in s sc Wanted.All

  abbrev pub explored_in : Explored
  explored_in = explored_by sc whole_vectors

-- the matrix of what was explored: from the two vectors, the two types and emptiness alone
abbrev pub matrix_from : Explored → List (List Dimension)
matrix_from e = matrix_given e.f e.g e.v e.w e.f_empty e.g_empty

-- ---- the answer

abbrev pub CellsAnswer : Type 0
CellsAnswer = Result Explored Refusal

abbrev pub answered : List ℕ → CheckedScene → CellsAnswer
answered s (Ok sc) = Ok (explored_in s sc)
answered s (Err r) = Err r

unfoldable pub cells_answer_of : List ℕ → CellsAnswer
cells_answer_of s = answered s (check_scene s)

-- "Where an answer is an enum, a definition states this paper's number and values for every one of its cases." What is taken has number 0;
-- "Every refusal has vectors .. and all other results 0", and by Paper 8 of document 02 "a refusal hands back nine F".
pub record CellsValues : Type 0 where
  pub number : ℕ
  pub place : ℕ
  pub f : ℕ
  pub g : ℕ
  pub v : ℕ
  pub w : ℕ
  pub cells : List (List Dimension)

abbrev pub cells_values : CellsAnswer → CellsValues
cells_values (Ok e) =
    record { number = 0; place = 0; f = shape_number e.f; g = shape_number e.g; v = e.v; w = e.w; cells = matrix_from e }
cells_values (Err r) = record { number = number_of r.reason; place = r.place; f = 0; g = 0; v = 0; w = 0; cells = no_cells }

-- ---- what it means

-- the cell of a row and a column in the caller's order: the points of a scene that is taken that lie in the row's part of the object given first and in the
-- column's part of the object given second
abbrev pub InCell : List ℕ → Scene → Part → Part → FractionPoint → Type 0
InCell s sc r c = InBoth r (object s (given_first sc)) c (object s (given_second sc))

-- Demand 3 with the four values of 02's Paper 8, of the bytes: for a scene that is taken, each cell is given as the value that its points have
abbrev pub NoDimensionWrong : List ℕ → List (List Dimension) → Type 0
NoDimensionWrong s m = (sc : Scene) → check_scene s ≡ Ok sc → (r c : Part) → Value (cell_at m r c) (InCell s sc r c)

-- Demand 3 in yes and no, which follows (`yes_or_no`, proofs/Taken.antt): each cell is not empty if and only if some point with fraction coordinates lies in both parts
abbrev pub NoCellWrong : List ℕ → List (List Dimension) → Type 0
NoCellWrong s m =
    (sc : Scene) → check_scene s ≡ Ok sc → (r c : Part)
    → T (not_empty (cell_at m r c)) ↔ Meet r (object s (given_first sc)) c (object s (given_second sc))
