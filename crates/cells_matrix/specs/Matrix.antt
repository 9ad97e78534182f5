-- The nine-intersection matrix: document 01's question "Cells" with the values of document 02's Paper 8. Three rows (interior, boundary, exterior of F) of three
-- columns (the same of G), from the two types, the two vectors and the two emptiness bits alone; and what a cell means, in points with fraction coordinates.
use Rattle.std.specs.Prelude.{ℕ, Bool, true, false, not, ◌||◌, cond, List, [], ◌∷◌, map, T, get_or}
use Rattle.plane.specs.Plane.{FractionPoint, fractions, HPoint, Object, in_interior, in_boundary, in_exterior}
use Rattle.plane_dimensions.specs.declared.Dimension.{Dimension}
use Rattle.plane_dimensions.specs.declared.Dimension.TheVariants.{Empty, Length, Area}
use Rattle.flags.specs.Flags.{has_bit}
use Rattle.scene.specs.declared.Shape.{Shape}
use Rattle.scene.specs.declared.Shape.TheVariants.{Points, Line, Region}
use Rattle.scene.specs.Read.{descends}

-- ---- the parts of an object

pub data Part : Type 0 where
  interior boundary exterior : Part

abbrev pub lies : Part → Object → HPoint → Bool
lies interior o p = in_interior o p
lies boundary o p = in_boundary o p
lies exterior o p = in_exterior o p

-- the points of a cell: those with fraction coordinates that lie in both parts
abbrev pub InBoth : Part → Object → Part → Object → FractionPoint → Type 0
InBoth r F c G p = T (lies r F (fractions p)) × T (lies c G (fractions p))

-- "Each of the nine cells is yes exactly when some point with fraction coordinates lies in both parts"
pub record Meet (r : Part) (F : Object) (c : Part) (G : Object) : Type 0 where
  pub at : FractionPoint
  pub in_F : T (lies r F (fractions at))
  pub in_G : T (lies c G (fractions at))

-- ---- the matrix

-- "a refusal hands back nine F"
abbrev pub no_cells : List (List Dimension)
no_cells = (Empty ∷ Empty ∷ Empty ∷ []) ∷ (Empty ∷ Empty ∷ Empty ∷ []) ∷ (Empty ∷ Empty ∷ Empty ∷ []) ∷ []

-- a cell that has one value, or none if its flag is not set
abbrev pub value_if : Dimension → Bool → Dimension
value_if d true = d
value_if d false = Empty

abbrev pub points_if : Bool → Dimension
points_if = value_if Dimension.Points

abbrev pub length_if : Bool → Dimension
length_if = value_if Length

abbrev pub area_if : Bool → Dimension
area_if = value_if Area

-- a cell of two curves: a length if a segment is common to both, else points if an end is
abbrev pub length_or_points : Bool → Bool → Dimension
length_or_points true point = Length
length_or_points false point = points_if point

-- The table, over the flags: v and w say whether a bit of F's and of G's vector is set, e and g whether F and G are empty. "EE" always has an area. F's type is
-- never above G's, so that a pair of types that descends has no table of its own.
abbrev pub matrix_by : Shape → Shape → (ℕ → Bool) → (ℕ → Bool) → Bool → Bool → List (List Dimension)
matrix_by Points Points v w e g =
    (points_if (v 1) ∷ Empty ∷ points_if (v 0) ∷ [])
    ∷ (Empty ∷ Empty ∷ Empty ∷ [])
    ∷ (points_if (w 0) ∷ Empty ∷ Area ∷ [])
    ∷ []
matrix_by Points Line v w e g =
    (points_if (v 1) ∷ points_if (v 2) ∷ points_if (v 0) ∷ [])
    ∷ (Empty ∷ Empty ∷ Empty ∷ [])
    ∷ (length_if (not g) ∷ points_if (w 0) ∷ Area ∷ [])
    ∷ []
matrix_by Points Region v w e g =
    (points_if (v 0) ∷ points_if (v 1) ∷ points_if (v 2) ∷ [])
    ∷ (Empty ∷ Empty ∷ Empty ∷ [])
    ∷ (area_if (not g) ∷ length_if (not g) ∷ Area ∷ [])
    ∷ []
matrix_by Line Line v w e g =
    (length_or_points (v 0) (v 1) ∷ points_if (w 1) ∷ length_if (v 2) ∷ [])
    ∷ (points_if (v 3) ∷ points_if (v 4) ∷ points_if (v 5) ∷ [])
    ∷ (length_if (w 0) ∷ points_if (w 2) ∷ Area ∷ [])
    ∷ []
matrix_by Line Region v w e g =
    (length_if (v 0) ∷ length_or_points (v 1) (v 3) ∷ length_if (v 2) ∷ [])
    ∷ (points_if (v 4) ∷ points_if (v 5) ∷ points_if (v 6) ∷ [])
    ∷ (area_if (not g) ∷ length_if (w 0) ∷ Area ∷ [])
    ∷ []
matrix_by Region Region v w e g =
    (area_if (v 2 || v 3 || w 2 || w 3 || v 4 || v 5) ∷ length_if (w 2 || w 3) ∷ area_if (v 0 || v 1 || v 6 || w 2 || w 3) ∷ [])
    ∷ (length_if (v 2 || v 3) ∷ length_or_points (v 4 || v 5 || v 6) (v 7) ∷ length_if (v 0 || v 1) ∷ [])
    ∷ (area_if (w 0 || w 1 || v 6 || v 2 || v 3) ∷ length_if (w 0 || w 1) ∷ Area ∷ [])
    ∷ []
matrix_by Line Points v w e g = no_cells
matrix_by Region Points v w e g = no_cells
matrix_by Region Line v w e g = no_cells

-- from the vectors
unfoldable pub matrix_of : Shape → Shape → ℕ → ℕ → Bool → Bool → List (List Dimension)
matrix_of t u v w e g = matrix_by t u (has_bit v) (has_bit w) e g

-- a cell of it: rows and columns are interior, boundary, exterior
abbrev pub index : Part → ℕ
index interior = 0
index boundary = 1
index exterior = 2

abbrev pub cell_at : List (List Dimension) → Part → Part → Dimension
cell_at m r c = get_or (get_or m (index r) []) (index c) Empty

-- ---- in the caller's order

abbrev pub parts : List Part
parts = interior ∷ boundary ∷ exterior ∷ []

-- 02, Paper 1: "so the cells turned about the diagonal"
abbrev pub transposed : List (List Dimension) → List (List Dimension)
transposed m = map (λ r. map (λ c. cell_at m c r) parts) parts

-- the matrix of two objects, whichever type comes first: where the types descend, that of the objects exchanged, turned about the diagonal
abbrev pub matrix_given : Shape → Shape → ℕ → ℕ → Bool → Bool → List (List Dimension)
matrix_given t u v w e g = cond (descends t u) (transposed (matrix_of u t w v g e)) (matrix_of t u v w e g)
