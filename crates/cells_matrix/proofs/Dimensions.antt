-- Document 02's Paper 8 over the elements of two objects: one statement over all nine cells and all pairs of types.
use Prim.Native.Nat.{ℕ}
use mathlib.Core.Path.{◌≡◌, refl, sym, ap, ◌∙◌, subst, fun_ext}
use mathlib.Core.Logic.{◌⊎◌, inl, inr, ⊎_elim, ◌↔◌}
use mathlib.Core.Bool.{Bool, true, false, not, ◌&&◌, ◌||◌}
use mathlib.Core.List.{List}
use lib.Dec.{T, T_not, leb}
use lib.ListN.{get_or}
use Rattle.whole.specs.Count.{◌∈◌, some}
use Rattle.whole.proofs.Logic.{in_nil, and_left, and_make, or_cases, or_left, or_right, some_find, some_make, decide}
use Rattle.plane.specs.declared.Segment.{Segment}
use Rattle.plane.specs.Plane.{FractionPoint, fractions, is_same_segment}
use Rattle.plane.proofs.Equal.{same_segment_read, same_segment_refl}
use Rattle.plane.proofs.Scale.{fractions_pos}
use Rattle.scene.specs.declared.Shape.{Shape}
use Rattle.scene.specs.declared.Shape.TheVariants.{Points, Line, Region}
use Rattle.scene.specs.Read.{shape_number}
use Rattle.flags.specs.Flags.{Edge, Elements, outline, object, segments_of, flags_of_f, flags_of_g, pack, has_bit, has_segment, seg_shared, class02, class20, class11}
use Rattle.flags.proofs.Bits.{pack_bit}
use Rattle.cells_matrix.specs.Matrix.{Part, interior, boundary, exterior, lies, InBoth, Meet, value_if, length_or_points, matrix_by, matrix_of, cell_at}
use Rattle.cells_matrix.proofs.Common.{is_in, in_has}
use Rattle.cells_matrix.proofs.RegionRegion.{edge_of, edge_in}
use Rattle.cells_matrix.proofs.Theorem.{shape_of, is_empty, Good, Accepted, lies_scale, no_cell_wrong}
use Rattle.plane_dimensions.specs.declared.Dimension.{Dimension}
use Rattle.plane_dimensions.specs.declared.Dimension.TheVariants.{Empty, Length, Area}
use Rattle.plane_dimensions.specs.Dimensions.{Value, not_empty}
use Rattle.cells_matrix.proofs.Made.{Kind, dots, curves, areas, in_common, Has, by_kinds}
use Rattle.cells_matrix.proofs.Parts.{points_interior, points_boundary, points_exterior, line_interior, line_boundary, line_exterior, region_interior, region_boundary, region_exterior}

-- ---- the parts

-- what a part of an object is made of
abbrev kind : Shape → Part → Kind
kind Points interior = dots
kind Points boundary = dots
kind Points exterior = areas
kind Line interior = curves
kind Line boundary = dots
kind Line exterior = areas
kind Region interior = areas
kind Region boundary = curves
kind Region exterior = areas

part : (F : Elements) → Good F → (r : Part) → Has (kind (shape_of F) r) (segments_of F) (lies r (object F))
part (Elements.points l) h interior = points_interior l
part (Elements.points l) h boundary = points_boundary l
part (Elements.points l) h exterior = points_exterior l
part (Elements.line l) h interior = line_interior l h.ordered
part (Elements.line l) h boundary = line_boundary l h.ordered
part (Elements.line l) h exterior = line_exterior l h.ordered
part (Elements.region l) h interior = region_interior (outline l) h.regular.split.ordered h.regular.even
part (Elements.region l) h boundary = region_boundary (outline l) h.regular.split.ordered
part (Elements.region l) h exterior = region_exterior (outline l) h.regular.split.ordered h.regular.even

-- ---- common segments, by the flags

-- seg_shared, or one of 0/2, 2/0 and 1/1
abbrev segment_in_both : Shape → Shape → (ℕ → Bool) → Bool
segment_in_both Line Line v = v 0
segment_in_both Line Region v = v 1
segment_in_both Region Region v = v 4 || v 5 || v 6
segment_in_both Points Points v = false
segment_in_both Points Line v = false
segment_in_both Points Region v = false
segment_in_both Line Points v = false
segment_in_both Region Points v = false
segment_in_both Region Line v = false

abbrev in_both : Elements → Elements → Bool
in_both F G = segment_in_both (shape_of F) (shape_of G) (λ k. get_or (flags_of_f F G) k false)

abbrev CommonSegment : List Segment → List Segment → Type 0
CommonSegment l m = (s : Segment) × (s ∈ l) × (s ∈ m)

shared_read : (l m : List Segment) → T (seg_shared l m) → CommonSegment l m
shared_read l m t = let w = some_find (has_segment m) l t in (w.0, w.1, is_in m w.0 w.2)

shared_make : (l m : List Segment) → CommonSegment l m → T (seg_shared l m)
shared_make l m w = some_make (has_segment m) w.1 (in_has m w.0 w.2)

module _ (F G : List Edge) where
  class_read : (i : Bool → Bool → Bool) → T (some (λ (f : Edge). some (λ (g : Edge). is_same_segment f.segment g.segment && i f.ia g.ia) G) F) → CommonSegment (outline F) (outline G)
  class_read i t =
      let w = some_find (λ (f : Edge). some (λ (g : Edge). is_same_segment f.segment g.segment && i f.ia g.ia) G) F t in
      let v = some_find (λ (g : Edge). is_same_segment w.0.segment g.segment && i w.0.ia g.ia) G w.2 in
      (w.0.segment, edge_in F w.1, subst (λ r. r ∈ outline G) (sym (same_segment_read w.0.segment v.0.segment (and_left (is_same_segment w.0.segment v.0.segment) (i w.0.ia v.0.ia) v.2))) (edge_in G v.1))

  classes_read : T (class02 F G || class20 F G || class11 F G) → CommonSegment (outline F) (outline G)
  classes_read t =
      ⊎_elim (λ t. ⊎_elim (class_read (λ i j. i && j)) (class_read (λ i j. not i && not j)) (or_cases (class02 F G) (class20 F G) t)) (class_read (λ i j. i && not j || not i && j)) (or_cases (class02 F G || class20 F G) (class11 F G) t)

  classes_make : CommonSegment (outline F) (outline G) → T (class02 F G || class20 F G || class11 F G)
  classes_make w = go (decide e.0.ia) (decide d.0.ia)
    where
      e : (e : Edge) × (e ∈ F) × (e.segment ≡ w.0)
      e = edge_of F w.0 w.1

      d : (e : Edge) × (e ∈ G) × (e.segment ≡ w.0)
      d = edge_of G w.0 w.2

      give : (i : Bool → Bool → Bool) → T (i e.0.ia d.0.ia) → T (some (λ (f : Edge). some (λ (g : Edge). is_same_segment f.segment g.segment && i f.ia g.ia) G) F)
      give i t =
          some_make (λ (f : Edge). some (λ (g : Edge). is_same_segment f.segment g.segment && i f.ia g.ia) G) e.1
          (some_make (λ (g : Edge). is_same_segment e.0.segment g.segment && i e.0.ia g.ia) d.1 (and_make (is_same_segment e.0.segment d.0.segment) (i e.0.ia d.0.ia) (subst (λ r. T (is_same_segment e.0.segment r)) (e.2 ∙ sym d.2) (same_segment_refl e.0.segment)) t))

      go : T e.0.ia ⊎ T (not e.0.ia) → T d.0.ia ⊎ T (not d.0.ia) → T (class02 F G || class20 F G || class11 F G)
      go (inl i) (inl j) = or_left (class02 F G || class20 F G) (class11 F G) (or_left (class02 F G) (class20 F G) (give (λ i j. i && j) (and_make e.0.ia d.0.ia i j)))
      go (inr i) (inr j) = or_left (class02 F G || class20 F G) (class11 F G) (or_right (class02 F G) (class20 F G) (give (λ i j. not i && not j) (and_make (not e.0.ia) (not d.0.ia) i j)))
      go (inl i) (inr j) = or_right (class02 F G || class20 F G) (class11 F G) (give (λ i j. i && not j || not i && j) (or_left (e.0.ia && not d.0.ia) (not e.0.ia && d.0.ia) (and_make e.0.ia (not d.0.ia) i j)))
      go (inr i) (inl j) = or_right (class02 F G || class20 F G) (class11 F G) (give (λ i j. i && not j || not i && j) (or_right (e.0.ia && not d.0.ia) (not e.0.ia && d.0.ia) (and_make (not e.0.ia) d.0.ia i j)))

both_read : (F G : Elements) → T (in_both F G) → CommonSegment (segments_of F) (segments_of G)
both_read (Elements.points F) (Elements.points G) t = absurd t
both_read (Elements.points F) (Elements.line G) t = absurd t
both_read (Elements.points F) (Elements.region G) t = absurd t
both_read (Elements.line F) (Elements.points G) t = absurd t
both_read (Elements.line F) (Elements.line G) t = shared_read F G t
both_read (Elements.line F) (Elements.region G) t = shared_read F (outline G) t
both_read (Elements.region F) (Elements.points G) t = absurd t
both_read (Elements.region F) (Elements.line G) t = absurd t
both_read (Elements.region F) (Elements.region G) t = classes_read F G t

both_make : (F G : Elements) → Accepted F G → CommonSegment (segments_of F) (segments_of G) → T (in_both F G)
both_make (Elements.points F) (Elements.points G) h w = absurd (in_nil w.1)
both_make (Elements.points F) (Elements.line G) h w = absurd (in_nil w.1)
both_make (Elements.points F) (Elements.region G) h w = absurd (in_nil w.1)
both_make (Elements.line F) (Elements.points G) h w = absurd (in_nil w.2)
both_make (Elements.line F) (Elements.line G) h w = shared_make F G w
both_make (Elements.line F) (Elements.region G) h w = shared_make F (outline G) w
both_make (Elements.region F) (Elements.points G) h w = absurd (in_nil w.2)
both_make (Elements.region F) (Elements.line G) h w = absurd h.ascending
both_make (Elements.region F) (Elements.region G) h w = classes_make F G w

-- ---- the table: a cell has the value of what its parts have in common, or is empty

abbrev common_value : Shape → Shape → (ℕ → Bool) → Part → Part → Dimension
common_value t u v r c = in_common (kind t r) (kind u c) (segment_in_both t u v)

if_set : (d : Dimension) (b : Bool) → value_if d b ≡ value_if d (not_empty (value_if d b))
if_set Empty true = refl
if_set Dimension.Points true = refl
if_set Length true = refl
if_set Area true = refl
if_set d false = refl

two_curves : (a b : Bool) → length_or_points a b ≡ value_if (in_common curves curves a) (not_empty (length_or_points a b))
two_curves true b = refl
two_curves false b = if_set Dimension.Points b

by_kind : (t u : Shape) (v w : ℕ → Bool) (e g : Bool) → T (leb (shape_number t) (shape_number u)) → (r c : Part)
    → cell_at (matrix_by t u v w e g) r c ≡ value_if (common_value t u v r c) (not_empty (cell_at (matrix_by t u v w e g) r c))
by_kind Points Points v w e g h interior interior = if_set Dimension.Points (v 1)
by_kind Points Points v w e g h interior boundary = refl
by_kind Points Points v w e g h interior exterior = if_set Dimension.Points (v 0)
by_kind Points Points v w e g h boundary interior = refl
by_kind Points Points v w e g h boundary boundary = refl
by_kind Points Points v w e g h boundary exterior = refl
by_kind Points Points v w e g h exterior interior = if_set Dimension.Points (w 0)
by_kind Points Points v w e g h exterior boundary = refl
by_kind Points Points v w e g h exterior exterior = refl
by_kind Points Line v w e g h interior interior = if_set Dimension.Points (v 1)
by_kind Points Line v w e g h interior boundary = if_set Dimension.Points (v 2)
by_kind Points Line v w e g h interior exterior = if_set Dimension.Points (v 0)
by_kind Points Line v w e g h boundary interior = refl
by_kind Points Line v w e g h boundary boundary = refl
by_kind Points Line v w e g h boundary exterior = refl
by_kind Points Line v w e g h exterior interior = if_set Length (not g)
by_kind Points Line v w e g h exterior boundary = if_set Dimension.Points (w 0)
by_kind Points Line v w e g h exterior exterior = refl
by_kind Points Region v w e g h interior interior = if_set Dimension.Points (v 0)
by_kind Points Region v w e g h interior boundary = if_set Dimension.Points (v 1)
by_kind Points Region v w e g h interior exterior = if_set Dimension.Points (v 2)
by_kind Points Region v w e g h boundary interior = refl
by_kind Points Region v w e g h boundary boundary = refl
by_kind Points Region v w e g h boundary exterior = refl
by_kind Points Region v w e g h exterior interior = if_set Area (not g)
by_kind Points Region v w e g h exterior boundary = if_set Length (not g)
by_kind Points Region v w e g h exterior exterior = refl
by_kind Line Points v w e g h r c = absurd h
by_kind Line Line v w e g h interior interior = two_curves (v 0) (v 1)
by_kind Line Line v w e g h interior boundary = if_set Dimension.Points (w 1)
by_kind Line Line v w e g h interior exterior = if_set Length (v 2)
by_kind Line Line v w e g h boundary interior = if_set Dimension.Points (v 3)
by_kind Line Line v w e g h boundary boundary = if_set Dimension.Points (v 4)
by_kind Line Line v w e g h boundary exterior = if_set Dimension.Points (v 5)
by_kind Line Line v w e g h exterior interior = if_set Length (w 0)
by_kind Line Line v w e g h exterior boundary = if_set Dimension.Points (w 2)
by_kind Line Line v w e g h exterior exterior = refl
by_kind Line Region v w e g h interior interior = if_set Length (v 0)
by_kind Line Region v w e g h interior boundary = two_curves (v 1) (v 3)
by_kind Line Region v w e g h interior exterior = if_set Length (v 2)
by_kind Line Region v w e g h boundary interior = if_set Dimension.Points (v 4)
by_kind Line Region v w e g h boundary boundary = if_set Dimension.Points (v 5)
by_kind Line Region v w e g h boundary exterior = if_set Dimension.Points (v 6)
by_kind Line Region v w e g h exterior interior = if_set Area (not g)
by_kind Line Region v w e g h exterior boundary = if_set Length (w 0)
by_kind Line Region v w e g h exterior exterior = refl
by_kind Region Points v w e g h r c = absurd h
by_kind Region Line v w e g h r c = absurd h
by_kind Region Region v w e g h interior interior = if_set Area (v 2 || v 3 || w 2 || w 3 || v 4 || v 5)
by_kind Region Region v w e g h interior boundary = if_set Length (w 2 || w 3)
by_kind Region Region v w e g h interior exterior = if_set Area (v 0 || v 1 || v 6 || w 2 || w 3)
by_kind Region Region v w e g h boundary interior = if_set Length (v 2 || v 3)
by_kind Region Region v w e g h boundary boundary = two_curves (v 4 || v 5 || v 6) (v 7)
by_kind Region Region v w e g h boundary exterior = if_set Length (v 0 || v 1)
by_kind Region Region v w e g h exterior interior = if_set Area (w 0 || w 1 || v 6 || v 2 || v 3)
by_kind Region Region v w e g h exterior boundary = if_set Length (w 0 || w 1)
by_kind Region Region v w e g h exterior exterior = refl

-- the flag does not see how the vector holds it
vector_both : (F G : Elements) → segment_in_both (shape_of F) (shape_of G) (has_bit (pack (flags_of_f F G))) ≡ in_both F G
vector_both F G = ap (segment_in_both (shape_of F) (shape_of G)) (fun_ext (pack_bit (flags_of_f F G)))

-- ---- a cell

module _ (F G : Elements) (h : Accepted F G) (r c : Part) where
  -- the points of both parts
  abbrev both : FractionPoint → Type 0
  both = InBoth r (object F) c (object G)

  -- what both parts have in common
  abbrev common : Bool → Dimension
  common b = value_if (in_common (kind (shape_of F) r) (kind (shape_of G) c) (in_both F G)) b

  abbrev cell : Dimension
  cell = cell_at (matrix_of (shape_of F) (shape_of G) (pack (flags_of_f F G)) (pack (flags_of_g F G)) (is_empty F) (is_empty G)) r c

  valued : (b : Bool) → T b ↔ Meet r (object F) c (object G) → Value (common b) both
  valued true e =
      let w = e.0 tt in
      by_kinds (kind (shape_of F) r) (kind (shape_of G) c) (segments_of F) (segments_of G) (lies r (object F)) (lies c (object G)) (lies_scale r (object F)) (lies_scale c (object G))
      (part F h.good_F r) (part G h.good_G c) h.across (in_both F G) (both_read F G) (λ t s i j. T_not (in_both F G) t (both_make F G h (s, i, j)))
      (fractions w.at, fractions_pos w.at, w.in_F, w.in_G)
  valued false e = λ p a. e.1 (record { at = p; in_F = a.0; in_G = a.1 })

  cell_is : cell ≡ common (not_empty cell)
  unfolding matrix_of
  cell_is =
      by_kind (shape_of F) (shape_of G) (has_bit (pack (flags_of_f F G))) (has_bit (pack (flags_of_g F G))) (is_empty F) (is_empty G) h.ascending r c
      ∙ ap (λ (b : Bool). value_if (in_common (kind (shape_of F) r) (kind (shape_of G) c) b) (not_empty cell)) (vector_both F G)

  -- for accepted objects, each cell has the value that the table gives it
  pub no_dimension_wrong : Value cell both
  no_dimension_wrong = subst (λ (d : Dimension). Value d both) (sym cell_is) (valued (not_empty cell) (no_cell_wrong F G h r c))
