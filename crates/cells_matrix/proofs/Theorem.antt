-- Demand 3 over the elements of two objects: one statement over all nine cells and all pairs of types.
use Prim.Native.Nat.{ℕ}
use mathlib.Core.Path.{◌≡◌, refl, sym, ap₂, subst, fun_ext}
use mathlib.Core.Logic.{◌↔◌}
use mathlib.Core.Bool.{Bool, true, false, not, ◌||◌}
use mathlib.Core.List.{List, [], ◌∷◌}
use lib.Dec.{T, leb}
use lib.ListN.{get_or}
use Rattle.plane.specs.Plane.{fractions, HPoint, Object, in_interior, in_boundary, in_exterior}
use Rattle.plane.proofs.Scale.{ScaleFree, in_interior_scale, in_boundary_scale, in_exterior_scale, fractions_pos, as_fractions, at_fractions}
use Rattle.plane.proofs.Accepted.{Split, Across}
use Rattle.plane_dimensions.specs.declared.Dimension.{Dimension}
use Rattle.plane_dimensions.specs.Dimensions.{not_empty}
use Rattle.scene.specs.declared.Shape.{Shape}
use Rattle.scene.specs.declared.Shape.TheVariants.{Points, Line, Region}
use Rattle.scene.specs.Read.{shape_number}
use Rattle.flags.specs.Flags.{Edge, Elements, outline, object, segments_of, flags_of_f, flags_of_g, pack}
use Rattle.flags.proofs.Bits.{pack_bit}
use Rattle.cells_matrix.specs.Matrix.{Part, interior, boundary, exterior, lies, Meet, points_if, length_if, area_if, length_or_points, matrix_by, matrix_of, cell_at, transposed}
use Rattle.cells_matrix.proofs.Common.{Cell, filled}
use Rattle.cells_matrix.proofs.PointsPoints as PP
use Rattle.cells_matrix.proofs.PointsLine as PL
use Rattle.cells_matrix.proofs.PointsRegion as PR
use Rattle.cells_matrix.proofs.LineLine as LL
use Rattle.cells_matrix.proofs.LineRegion as LR
use Rattle.cells_matrix.proofs.RegionRegion as RR
use Rattle.cells_matrix.proofs.RegionRegion.{Sound}

-- ---- accepted objects

abbrev pub shape_of : Elements → Shape
shape_of (Elements.points l) = Points
shape_of (Elements.line l) = Line
shape_of (Elements.region l) = Region

abbrev pub is_empty : Elements → Bool
is_empty (Elements.points l) = not (filled l)
is_empty (Elements.line l) = not (filled l)
is_empty (Elements.region l) = not (filled l)

-- what the conditions 10 to 14 give of one object
abbrev pub Good : Elements → Type 0
Good (Elements.points l) = Unit {0}
Good (Elements.line l) = Split l
Good (Elements.region l) = Sound l

-- and 8 and 15 of the two
pub record Accepted (F G : Elements) : Type 0 where
  pub good_F : Good F
  pub good_G : Good G
  pub across : Across (segments_of F) (segments_of G)
  pub ascending : T (leb (shape_number (shape_of F)) (shape_number (shape_of G)))

-- ---- the nine cells, over the flags

abbrev flags_matrix : Elements → Elements → List (List Dimension)
flags_matrix F G = matrix_by (shape_of F) (shape_of G) (λ k. get_or (flags_of_f F G) k false) (λ k. get_or (flags_of_g F G) k false) (is_empty F) (is_empty G)

-- not empty, of a region by its edges or its segments
filled_outline : (l : List Edge) → filled (outline l) ≡ not (not (filled l))
filled_outline [] = refl
filled_outline (e ∷ l) = refl

filled_twice : {A : Type 0} (l : List A) → filled l ≡ not (not (filled l))
filled_twice [] = refl
filled_twice (a ∷ l) = refl

-- a value that is given where a test says so is empty where it says no
points_if_lem : {b : Bool} {A B : HPoint → Bool} → Cell b A B → Cell (not_empty (points_if b)) A B
points_if_lem {b = true} c = c
points_if_lem {b = false} c = c

length_if_lem : {b : Bool} {A B : HPoint → Bool} → Cell b A B → Cell (not_empty (length_if b)) A B
length_if_lem {b = true} c = c
length_if_lem {b = false} c = c

area_if_lem : {b : Bool} {A B : HPoint → Bool} → Cell b A B → Cell (not_empty (area_if b)) A B
area_if_lem {b = true} c = c
area_if_lem {b = false} c = c

length_or_points_lem : (a b : Bool) {A B : HPoint → Bool} → Cell (a || b) A B → Cell (not_empty (length_or_points a b)) A B
length_or_points_lem true b c = c
length_or_points_lem false b c = points_if_lem c

nine : (F G : Elements) → Accepted F G → (r c : Part) → Cell (not_empty (cell_at (flags_matrix F G) r c)) (lies r (object F)) (lies c (object G))
nine (Elements.points F) (Elements.points G) h interior interior = points_if_lem (PP.ii F G)
nine (Elements.points F) (Elements.points G) h interior boundary = PP.ib F G
nine (Elements.points F) (Elements.points G) h interior exterior = points_if_lem (PP.ie F G)
nine (Elements.points F) (Elements.points G) h boundary interior = PP.bx F G (in_interior (Object.points G))
nine (Elements.points F) (Elements.points G) h boundary boundary = PP.bx F G (in_boundary (Object.points G))
nine (Elements.points F) (Elements.points G) h boundary exterior = PP.bx F G (in_exterior (Object.points G))
nine (Elements.points F) (Elements.points G) h exterior interior = points_if_lem (PP.ei F G)
nine (Elements.points F) (Elements.points G) h exterior boundary = PP.eb F G
nine (Elements.points F) (Elements.points G) h exterior exterior = PP.ee F G
nine (Elements.points F) (Elements.line G) h interior interior = points_if_lem (PL.ii F G h.good_G.ordered)
nine (Elements.points F) (Elements.line G) h interior boundary = points_if_lem (PL.ib F G h.good_G.ordered)
nine (Elements.points F) (Elements.line G) h interior exterior = points_if_lem (PL.ie F G h.good_G.ordered)
nine (Elements.points F) (Elements.line G) h boundary interior = PL.bx F G h.good_G.ordered (in_interior (Object.line G))
nine (Elements.points F) (Elements.line G) h boundary boundary = PL.bx F G h.good_G.ordered (in_boundary (Object.line G))
nine (Elements.points F) (Elements.line G) h boundary exterior = PL.bx F G h.good_G.ordered (in_exterior (Object.line G))
nine (Elements.points F) (Elements.line G) h exterior interior = length_if_lem (subst (λ b. Cell b (in_exterior (Object.points F)) (in_interior (Object.line G))) (filled_twice G) (PL.ei F G h.good_G.ordered))
nine (Elements.points F) (Elements.line G) h exterior boundary = points_if_lem (PL.eb F G h.good_G.ordered)
nine (Elements.points F) (Elements.line G) h exterior exterior = PL.ee F G h.good_G.ordered
nine (Elements.points F) (Elements.region G) h interior interior = points_if_lem (PR.ii F (outline G) h.good_G.regular)
nine (Elements.points F) (Elements.region G) h interior boundary = points_if_lem (PR.ib F (outline G) h.good_G.regular)
nine (Elements.points F) (Elements.region G) h interior exterior = points_if_lem (PR.ie F (outline G) h.good_G.regular)
nine (Elements.points F) (Elements.region G) h boundary interior = PR.bx F (outline G) h.good_G.regular (in_interior (Object.region (outline G)))
nine (Elements.points F) (Elements.region G) h boundary boundary = PR.bx F (outline G) h.good_G.regular (in_boundary (Object.region (outline G)))
nine (Elements.points F) (Elements.region G) h boundary exterior = PR.bx F (outline G) h.good_G.regular (in_exterior (Object.region (outline G)))
nine (Elements.points F) (Elements.region G) h exterior interior = area_if_lem (subst (λ b. Cell b (in_exterior (Object.points F)) (in_interior (Object.region (outline G)))) (filled_outline G) (PR.ei F (outline G) h.good_G.regular))
nine (Elements.points F) (Elements.region G) h exterior boundary = length_if_lem (subst (λ b. Cell b (in_exterior (Object.points F)) (in_boundary (Object.region (outline G)))) (filled_outline G) (PR.eb F (outline G) h.good_G.regular))
nine (Elements.points F) (Elements.region G) h exterior exterior = PR.ee F (outline G) h.good_G.regular
nine (Elements.line F) (Elements.points G) h r c = absurd h.ascending
nine (Elements.line F) (Elements.line G) h interior interior = length_or_points_lem (get_or (flags_of_f (Elements.line F) (Elements.line G)) 0 false) (get_or (flags_of_f (Elements.line F) (Elements.line G)) 1 false) (LL.ii F G h.good_F h.good_G h.across)
nine (Elements.line F) (Elements.line G) h interior boundary = points_if_lem (LL.ib F G h.good_F h.good_G h.across)
nine (Elements.line F) (Elements.line G) h interior exterior = length_if_lem (LL.ie F G h.good_F h.good_G h.across)
nine (Elements.line F) (Elements.line G) h boundary interior = points_if_lem (LL.bi F G h.good_F h.good_G h.across)
nine (Elements.line F) (Elements.line G) h boundary boundary = points_if_lem (LL.bb F G h.good_F h.good_G h.across)
nine (Elements.line F) (Elements.line G) h boundary exterior = points_if_lem (LL.be F G h.good_F h.good_G h.across)
nine (Elements.line F) (Elements.line G) h exterior interior = length_if_lem (LL.ei F G h.good_F h.good_G h.across)
nine (Elements.line F) (Elements.line G) h exterior boundary = points_if_lem (LL.eb F G h.good_F h.good_G h.across)
nine (Elements.line F) (Elements.line G) h exterior exterior = LL.ee F G h.good_F h.good_G h.across
nine (Elements.line F) (Elements.region G) h interior interior = length_if_lem (LR.ii F (outline G) h.good_F h.good_G.regular h.across)
nine (Elements.line F) (Elements.region G) h interior boundary = length_or_points_lem (get_or (flags_of_f (Elements.line F) (Elements.region G)) 1 false) (get_or (flags_of_f (Elements.line F) (Elements.region G)) 3 false) (LR.ib F (outline G) h.good_F h.good_G.regular h.across)
nine (Elements.line F) (Elements.region G) h interior exterior = length_if_lem (LR.ie F (outline G) h.good_F h.good_G.regular h.across)
nine (Elements.line F) (Elements.region G) h boundary interior = points_if_lem (LR.bi F (outline G) h.good_F h.good_G.regular h.across)
nine (Elements.line F) (Elements.region G) h boundary boundary = points_if_lem (LR.bb F (outline G) h.good_F h.good_G.regular h.across)
nine (Elements.line F) (Elements.region G) h boundary exterior = points_if_lem (LR.be F (outline G) h.good_F h.good_G.regular h.across)
nine (Elements.line F) (Elements.region G) h exterior interior = area_if_lem (subst (λ b. Cell b (in_exterior (Object.line F)) (in_interior (Object.region (outline G)))) (filled_outline G) (LR.ei F (outline G) h.good_F h.good_G.regular h.across))
nine (Elements.line F) (Elements.region G) h exterior boundary = length_if_lem (LR.eb F (outline G) h.good_F h.good_G.regular h.across)
nine (Elements.line F) (Elements.region G) h exterior exterior = LR.ee F (outline G) h.good_F h.good_G.regular h.across
nine (Elements.region F) (Elements.points G) h r c = absurd h.ascending
nine (Elements.region F) (Elements.line G) h r c = absurd h.ascending
nine (Elements.region F) (Elements.region G) h interior interior = area_if_lem (RR.ii F G h.good_F h.good_G h.across)
nine (Elements.region F) (Elements.region G) h interior boundary = length_if_lem (RR.ib F G h.good_F h.good_G h.across)
nine (Elements.region F) (Elements.region G) h interior exterior = area_if_lem (RR.ie F G h.good_F h.good_G h.across)
nine (Elements.region F) (Elements.region G) h boundary interior = length_if_lem (RR.bi F G h.good_F h.good_G h.across)
nine (Elements.region F) (Elements.region G) h boundary boundary = length_or_points_lem (get_or (flags_of_f (Elements.region F) (Elements.region G)) 4 false || get_or (flags_of_f (Elements.region F) (Elements.region G)) 5 false || get_or (flags_of_f (Elements.region F) (Elements.region G)) 6 false) (get_or (flags_of_f (Elements.region F) (Elements.region G)) 7 false) (RR.bb F G h.good_F h.good_G h.across)
nine (Elements.region F) (Elements.region G) h boundary exterior = length_if_lem (RR.be F G h.good_F h.good_G h.across)
nine (Elements.region F) (Elements.region G) h exterior interior = area_if_lem (RR.ei F G h.good_F h.good_G h.across)
nine (Elements.region F) (Elements.region G) h exterior boundary = length_if_lem (RR.eb F G h.good_F h.good_G h.across)
nine (Elements.region F) (Elements.region G) h exterior exterior = RR.ee F G h.good_F h.good_G h.across

-- ---- from the vectors, in fraction points

-- the matrix of the two vectors is that of the flags
vectors_matrix : (F G : Elements) → matrix_of (shape_of F) (shape_of G) (pack (flags_of_f F G)) (pack (flags_of_g F G)) (is_empty F) (is_empty G) ≡ flags_matrix F G
unfolding matrix_of
vectors_matrix F G =
    ap₂ (λ (v w : ℕ → Bool). matrix_by (shape_of F) (shape_of G) v w (is_empty F) (is_empty G)) (fun_ext (pack_bit (flags_of_f F G))) (fun_ext (pack_bit (flags_of_g F G)))

pub lies_scale : (r : Part) (o : Object) → ScaleFree (lies r o)
lies_scale interior o = in_interior_scale o
lies_scale boundary o = in_boundary_scale o
lies_scale exterior o = in_exterior_scale o

-- a cell speaks of fraction points
pub cell_meets : (r c : Part) (F G : Object) {b : Bool} → Cell b (lies r F) (lies c G) → T b ↔ Meet r F c G
cell_meets r c F G cell = (
  λ t. let w = cell.found t in record { at = (as_fractions w.0 w.1).0; in_F = subst T (sym (at_fractions (lies r F) (lies_scale r F) w.0 w.1)) w.2; in_G = subst T (sym (at_fractions (lies c G) (lies_scale c G) w.0 w.1)) w.3 },
  λ m. cell.told (fractions m.at) (fractions_pos m.at) m.in_F m.in_G,
)

-- Demand 3 in yes and no: for accepted objects, each cell computed from types, vectors and emptiness is not empty if and only if some fraction point lies in both parts
pub no_cell_wrong : (F G : Elements) → Accepted F G → (r c : Part)
    → T (not_empty (cell_at (matrix_of (shape_of F) (shape_of G) (pack (flags_of_f F G)) (pack (flags_of_g F G)) (is_empty F) (is_empty G)) r c)) ↔ Meet r (object F) c (object G)
no_cell_wrong F G h r c =
    cell_meets r c (object F) (object G) (subst (λ (m : List (List Dimension)). Cell (not_empty (cell_at m r c)) (lies r (object F)) (lies c (object G))) (sym (vectors_matrix F G)) (nine F G h r c))

-- ---- in the caller's order

-- rows and columns exchanged
pub cell_transposed : (m : List (List Dimension)) (r c : Part) → cell_at (transposed m) r c ≡ cell_at m c r
cell_transposed m interior interior = refl
cell_transposed m interior boundary = refl
cell_transposed m interior exterior = refl
cell_transposed m boundary interior = refl
cell_transposed m boundary boundary = refl
cell_transposed m boundary exterior = refl
cell_transposed m exterior interior = refl
cell_transposed m exterior boundary = refl
cell_transposed m exterior exterior = refl
