-- Demand 3 over bytes, with the four values of a cell: what a taken scene gives the theorem, and the theorem's statement for every byte string.
use Rattle.scene.specs.Read.{CheckedScene}
use Rattle.cells.specs.Explored.{CellsAnswer}
use Prim.Native.Nat.{ℕ, zero, suc, ◌<◌}
use native.Mathlib.Omega.{arith}
use mathlib.Core.Path.{◌≡◌, refl, sym, ap, ◌∙◌, subst, subst₂}
use mathlib.Core.Bool.{Bool, true, false, not, cond}
use mathlib.Core.List.{List, [], ◌∷◌}
use lib.Dec.{T, leb, eqb, le→leb, eqb-suc-zero}
use Rattle.whole.specs.Count.{◌∈◌, here}
use Rattle.whole.proofs.Logic.{true_is, in_nil, in_map, map_in}
use Rattle.whole.proofs.Parity.{parity}
use Rattle.plane.specs.declared.Segment.{Segment}
use Rattle.plane.specs.Plane.{midpoint, counts_below, Object}
use Rattle.plane.proofs.Accepted.{Regular, interior_above_lem}
use Rattle.plane_dimensions.specs.declared.Dimension.{Dimension}
use Rattle.plane_dimensions.specs.Dimensions.{Value}
use Rattle.plane_dimensions.proofs.Values.{some_point}
use Rattle.scene.specs.declared.Shape.{Shape}
use Rattle.scene.specs.declared.Shape.TheVariants.{Points, Line, Region}
use Rattle.scene.specs.declared.Layout.{Layout}
use Rattle.scene.specs.declared.Scene.{Scene}
use Rattle.scene.specs.Read.{shape_number, descends, turned, given_first, given_second}
use Rattle.scene.specs.Conditions as C
use Rattle.scene.specs.Conditions.{half, left_test, has_segments, segments, elements, keep, check_scene}
use Rattle.check_verdict.specs.SharedPoints.{CheckedMeans}
use Rattle.check_verdict.proofs.CheckedMeans.{checked_means}
use Rattle.check_verdict.proofs.Laws.{SoundObject, SoundScene, sound_scene, ascending, split, regular, ia_is, across, segment_in, left_in, in_left}
use Rattle.scene_segments.proofs.Indices.{keep_in, element_in, in_element}
use Rattle.flags.specs.Flags as F
use Rattle.flags.specs.Flags.{Edge, Elements, outline, segments_of, flags_of_f, flags_of_g, pack}
use Rattle.flags.specs.Elements.{edges, edge_of, point_of, points_of, elements_as, elements_of}
use Rattle.flags_vectors.specs.declared.Vectors.{Vectors}
use Rattle.flags_vectors.specs.Vectors.{scene_vectors, given_vectors}
use Rattle.flags_masks.specs.declared.Wanted.{Wanted}
use Rattle.flags_masks.specs.Wanted.{masks_for}
use Rattle.flags.proofs.Elements.{outline_edges}
use Rattle.flags_masks.proofs.Masks.{every_flag_f, every_flag_g}
use Rattle.cells.specs.declared.Explored.{Explored}
use Rattle.cells_matrix.specs.Matrix.{Part, lies, InBoth, matrix_of, cell_at, transposed}
use Rattle.cells.specs.Explored as E
use Rattle.cells.specs.Explored.{explored_by, explored_in, matrix_from, answered, cells_answer_of, cells_values, InCell, NoDimensionWrong, NoCellWrong}
use Rattle.cells_matrix.proofs.Common.{filled, filled_of}
use Rattle.cells_matrix.proofs.RegionRegion.{Sound}
use Rattle.cells_matrix.proofs.Theorem.{Accepted, Good, shape_of, is_empty, cell_transposed}
use Rattle.cells_matrix.proofs.Made.{value_swap}
use Rattle.cells_matrix.proofs.Dimensions.{no_dimension_wrong}

filled_none : {A : Type 0} (b : List A) → ((a : A) → a ∈ b → ⊥) → filled b ≡ false
filled_none [] h = refl
filled_none (a ∷ b) h = absurd (h a here)

outline_filled : (b : List Edge) → T (filled (outline b)) → T (filled b)
outline_filled [] t = t
outline_filled (e ∷ b) t = tt

-- ---- one object

module _ (s : List ℕ) (l : Layout) (o : SoundObject s l) where
  edge_find : (e : Edge) → e ∈ edges s l → (i : ℕ) × (i < l.count) × (left_test s l i ≡ true) × (edge_of s l i ≡ e)
  unfolding edges
  edge_find e m =
      let w = map_in (edge_of s l) (keep (left_test s l) (elements l)) m in
      let k = keep_in (left_test s l) (elements l) w.1 in
      (w.0, in_element l w.0 k.0, k.1, w.2)

  -- ia of every edge, by the count below its midpoint
  edges_right : C.is_region l.shape ≡ true → Regular (segments s l) → (e : Edge) → e ∈ edges s l
      → e.ia ≡ not (parity (counts_below (midpoint e.segment)) (segments s l))
  edges_right region reg e m =
      let w = edge_find e m in
      subst (λ (e : Edge). e.ia ≡ not (parity (counts_below (midpoint e.segment)) (segments s l))) w.3
      (ia_is o region w.0 w.1 ∙ interior_above_lem (segments s l) reg (half s l w.0).segment (left_in o w.0 w.1 w.2))

  sound_edges : C.is_region l.shape ≡ true → Sound (edges s l)
  sound_edges region =
      record {
        regular = subst Regular (sym (outline_edges s l)) reg;
        ia_right = λ e m. edges_right region reg e m ∙ ap (λ (r : List Segment). not (parity (counts_below (midpoint e.segment)) r)) (sym (outline_edges s l));
      }
    where
      reg : Regular (segments s l)
      reg = regular o region

  pub good : (k : Shape) → l.shape ≡ k → Good (elements_as s l k)
  good Points e = tt
  good Line e = split o
  good Region e = sound_edges (ap C.is_region e)

  -- it is empty exactly where it has no records
  empty_by : {A : Type 0} (b : List A) → ((a : A) → a ∈ b → 0 < l.count) → (0 < l.count → T (filled b)) → not (filled b) ≡ eqb l.count 0
  empty_by {A} b some all = go l.count refl
    where
      go : (n : ℕ) → l.count ≡ n → not (filled b) ≡ eqb n 0
      go zero e = ap not (filled_none b (λ a m. let k = some a m in omega (arith, k, e)))
      go (suc n) e = ap not (true_is (filled b) (all (omega (arith, e)))) ∙ sym (eqb-suc-zero n)

  pub empty_as : (k : Shape) → l.shape ≡ k → is_empty (elements_as s l k) ≡ E.is_empty l
  unfolding points_of
  empty_as Points e =
      empty_by (points_of s l) (λ p m. let w = map_in (point_of s l) (elements l) m in let b = in_element l w.0 w.1 in omega (arith, b)) (λ h. filled_of (in_map (point_of s l) (element_in l 0 h)))
  empty_as Line e = empty_by (segments s l) (λ t m. let w = in_left o m in omega (arith, w.1)) (λ h. filled_of (segment_in o (ap has_segments e) 0 h))
  empty_as Region e =
      empty_by (edges s l) (λ t m. let w = edge_find t m in omega (arith, w.1))
      (λ h. outline_filled (edges s l) (subst (λ (r : List Segment). T (filled r)) (sym (outline_edges s l)) (filled_of (segment_in o (ap has_segments e) 0 h))))

module _ (s : List ℕ) where
  pub shape_as : (l : Layout) (k : Shape) → shape_of (elements_as s l k) ≡ k
  shape_as l Points = refl
  shape_as l Line = refl
  shape_as l Region = refl

  segments_as : (l : Layout) (k : Shape) {t : Segment} → t ∈ segments_of (elements_as s l k) → t ∈ segments s l
  segments_as l Points m = absurd (in_nil m)
  segments_as l Line m = m
  segments_as l Region {t} m = subst (λ (r : List Segment). t ∈ r) (outline_edges s l) m

  object_as : (start count : ℕ) (k : Shape)
      → F.object (elements_of s (record { shape = k; start = start; count = count })) ≡ C.object s (record { shape = k; start = start; count = count })
  unfolding C.object points_of
  object_as start count Points = refl
  object_as start count Line = refl
  object_as start count Region = ap Object.region (outline_edges s (record { shape = Region; start = start; count = count }))

  object_is : (l : Layout) → F.object (elements_of s l) ≡ C.object s l
  object_is l = object_as l.start l.count l.shape

-- ---- the matrix of two vectors of F and G

abbrev pub matrix_both : Scene → Vectors → List (List Dimension)
matrix_both sc both = matrix_of sc.f.shape sc.g.shape both.f both.g (E.is_empty sc.f) (E.is_empty sc.g)

-- in the caller's order: turned about the diagonal exactly where the objects were exchanged
pub given_is : (sc : Scene) → turned sc ≡ descends (given_first sc).shape (given_second sc).shape → (both : Vectors)
    → matrix_from (explored_by sc (given_vectors sc both)) ≡ cond (turned sc) (transposed (matrix_both sc both)) (matrix_both sc both)
given_is sc by_types both = go (turned sc) (sym by_types)
  where
    explored : Bool → Explored
    explored t = record {
      f = (cond t sc.g sc.f).shape;
      g = (cond t sc.f sc.g).shape;
      v = cond t both.g both.f;
      w = cond t both.f both.g;
      f_empty = E.is_empty (cond t sc.g sc.f);
      g_empty = E.is_empty (cond t sc.f sc.g);
    }

    go : (t : Bool) → descends (cond t sc.g sc.f).shape (cond t sc.f sc.g).shape ≡ t
        → matrix_from (explored t) ≡ cond t (transposed (matrix_both sc both)) (matrix_both sc both)
    go true e = rw e
    go false e = rw e

-- ---- the scene

module _ (s : List ℕ) (sc : Scene) (o : SoundScene s sc) where
  abbrev of_f_lem : Elements
  of_f_lem = elements_of s sc.f

  abbrev of_g_lem : Elements
  of_g_lem = elements_of s sc.g

  accepted : Accepted of_f_lem of_g_lem
  accepted = record {
    good_F = good s sc.f o.f_sound sc.f.shape refl;
    good_G = good s sc.g o.g_sound sc.g.shape refl;
    across = λ t u m k. across o t u (segments_as s sc.f sc.f.shape m) (segments_as s sc.g sc.g.shape k);
    ascending = ascends (shape_of of_f_lem) (shape_of of_g_lem) (shape_as s sc.f sc.f.shape) (shape_as s sc.g sc.g.shape);
  }
    where
      ascends : (a b : Shape) → a ≡ sc.f.shape → b ≡ sc.g.shape → T (leb (shape_number a) (shape_number b))
      ascends a b e q =
          subst (λ (a : Shape). T (leb (shape_number a) (shape_number b))) (sym e)
          (subst (λ (b : Shape). T (leb (shape_number sc.f.shape) (shape_number b))) (sym q) (le→leb (shape_number sc.f.shape) (shape_number sc.g.shape) (ascending o)))

  -- the matrix of F and G
  abbrev pair : List (List Dimension)
  pair = matrix_both sc (scene_vectors s sc (masks_for Wanted.All sc))

  pair_is : pair ≡ matrix_of (shape_of of_f_lem) (shape_of of_g_lem) (pack (flags_of_f of_f_lem of_g_lem)) (pack (flags_of_g of_f_lem of_g_lem)) (is_empty of_f_lem) (is_empty of_g_lem)
  unfolding masks_for
  pair_is =
      let a = shape_as s sc.f sc.f.shape in
      let b = shape_as s sc.g sc.g.shape in
      let v = every_flag_f s sc.f sc.g in
      let w = every_flag_g s sc.f sc.g in
      let x = empty_as s sc.f o.f_sound sc.f.shape refl in
      let y = empty_as s sc.g o.g_sound sc.g.shape refl in
      cc

  pair_right : (r c : Part) → Value (cell_at pair r c) (InBoth r (C.object s sc.f) c (C.object s sc.g))
  pair_right r c =
      subst (λ (m : List (List Dimension)). Value (cell_at m r c) (InBoth r (C.object s sc.f) c (C.object s sc.g))) (sym pair_is)
      (subst₂ (λ (a b : Object). Value (cell_at m r c) (InBoth r a c b)) (object_is s sc.f) (object_is s sc.g) (no_dimension_wrong of_f_lem of_g_lem accepted r c))
    where
      m : List (List Dimension)
      m = matrix_of (shape_of of_f_lem) (shape_of of_g_lem) (pack (flags_of_f of_f_lem of_g_lem)) (pack (flags_of_g of_f_lem of_g_lem)) (is_empty of_f_lem) (is_empty of_g_lem)

  pub cells_right : (r c : Part) → Value (cell_at (matrix_from (explored_in s sc)) r c) (InCell s sc r c)
  cells_right r c =
      subst (λ (m : List (List Dimension)). Value (cell_at m r c) (InCell s sc r c)) (sym (given_is sc o.taken.by_types (scene_vectors s sc (masks_for Wanted.All sc)))) (go (turned sc))
    where
      go : (t : Bool) → Value (cell_at (cond t (transposed pair) pair) r c) (InBoth r (C.object s (cond t sc.g sc.f)) c (C.object s (cond t sc.f sc.g)))
      go true =
          subst (λ (d : Dimension). Value d (InBoth r (C.object s sc.g) c (C.object s sc.f))) (sym (cell_transposed pair r c))
          (value_swap (lies c (C.object s sc.f)) (lies r (C.object s sc.g)) (cell_at pair c r) (pair_right c r))
      go false = pair_right r c

-- Demand 3, of every byte string
pub scene_cells : (s : List ℕ) → NoDimensionWrong s (cells_values (cells_answer_of s)).cells
unfolding cells_answer_of check_scene
scene_cells s sc e r c =
    subst (λ (x : CheckedScene). Value (cell_at (cells_values (answered s x)).cells r c) (InCell s sc r c)) (sym e) (cells_right s sc (sound_scene [] [] s sc e) r c)

-- and in yes and no
pub yes_or_no : (s : List ℕ) (m : List (List Dimension)) → NoDimensionWrong s m → NoCellWrong s m
yes_or_no s m right sc e r c =
    let some = some_point (InCell s sc r c) (cell_at m r c) (right sc e r c) in
    (λ t. let w = some.0 t in record { at = w.0; in_F = w.1.0; in_G = w.1.1 }, λ w. some.1 (w.at, (w.in_F, w.in_G)))

-- as the contract says it of its result
pub as_explored : (s : List ℕ) (k : CheckedScene) → check_scene s ≡ k → {x : CellsAnswer} → x ≡ answered s k
    → (x ≡ cells_answer_of s) × NoDimensionWrong s (cells_values x).cells × CheckedMeans s (check_scene s)
unfolding cells_answer_of
as_explored s k e {x} q =
    let p : x ≡ cells_answer_of s = q ∙ ap (answered s) (sym e) in
    (p, subst (λ (x : CellsAnswer). NoDimensionWrong s (cells_values x).cells) (sym p) (scene_cells s), checked_means s)
