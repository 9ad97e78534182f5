-- A line against a line: two lists of segments that share only common ends, or are equal.
use mathlib.Core.Path.{sym, subst}
use mathlib.Core.Logic.{⊎_elim}
use mathlib.Core.Bool.{true, not, ◌&&◌, ◌||◌}
use mathlib.Core.List.{List, []}
use lib.Dec.{T, T_not, not_T}
use Rattle.whole.specs.Count.{◌∈◌}
use Rattle.whole.proofs.Sign.{Pos, one_pos}
use Rattle.whole.proofs.Logic.{and_left, and_right, and_make, or_cases, or_left, or_right, some_find, some_make}
use Rattle.plane.specs.declared.Segment.{Segment}
use Rattle.plane.specs.Plane.{HPoint, grid, midpoint, is_end, is_on_some, is_boundary, ends_at, Object, in_interior, in_boundary, in_exterior}
use Rattle.plane.proofs.OnSegment.{Along}
use Rattle.plane.proofs.Scale.{is_end_scale, in_interior_scale, in_boundary_scale, in_exterior_scale}
use Rattle.plane.proofs.Means.{EndOf, end_read, end_make}
use Rattle.plane.proofs.Accepted.{Split, Across}
use Rattle.flags.specs.Flags.{has_segment, on_object, has_end, is_bound, seg_shared, seg_unshared, interior_poi_shared, bound_on_interior, bound_shared, bound_disjoint}
use Rattle.cells_matrix.proofs.Common.{Cell, cell_swap, across_swap, bound_scale, carry, carry_not, on_find, on_make, end_along, bound_cell, end_find, end_give, end_place_lem, line_outside, outside_line, outside_both, along_clear, line_inner, is_in, in_has, middle_off, middle_in, line_on}

-- ---- the rows

module _ (F G : List Segment) (f : Split F) (g : Split G) (across : Across F G) where
  pub ii : Cell (seg_shared F G || interior_poi_shared F G) (in_interior (Object.line F)) (in_interior (Object.line G))
  unfolding in_interior
  ii = record { found = λ t. ⊎_elim by_segment by_end (or_cases (seg_shared F G) (interior_poi_shared F G) t); told = told }
    where
      by_segment : T (seg_shared F G) → (p : HPoint) × Pos p.W × T (in_interior (Object.line F) p) × T (in_interior (Object.line G) p)
      by_segment t =
          let w = some_find (has_segment G) F t in
          let k = is_in G w.0 w.2 in
          let q = along_clear w.0 (f.ordered w.0 w.1) [] F G in
          (q.0, q.1, line_inner F f.ordered w.0 w.1 q.0 q.2 q.4, line_inner G g.ordered w.0 k q.0 q.2 q.5)

      by_end : T (interior_poi_shared F G) → (p : HPoint) × Pos p.W × T (in_interior (Object.line F) p) × T (in_interior (Object.line G) p)
      by_end t =
          let w = end_find (λ f v. has_end G v && not (is_bound F v) && not (is_bound G v)) F t in
          let v = w.2.0 in
          let both = and_left (has_end G v && not (is_bound F v)) (not (is_bound G v)) w.2.2 in
          let e = some_find (λ t. is_end t (grid v)) G (and_left (has_end G v) (not (is_bound F v)) both) in (
            grid v,
            one_pos 0,
            and_make (is_on_some F (grid v)) (not (is_bound F v)) (on_make F f.ordered (grid v) w.0 w.1 (end_along w.0 (grid v) (one_pos 0) (end_read w.0 (grid v) w.2.1))) (and_right (has_end G v) (not (is_bound F v)) both),
            and_make (is_on_some G (grid v)) (not (is_bound G v)) (on_make G g.ordered (grid v) e.0 e.1 (end_along e.0 (grid v) (one_pos 0) (end_read e.0 (grid v) e.2))) (and_right (has_end G v && not (is_bound F v)) (not (is_bound G v)) w.2.2),
          )

      told : (p : HPoint) → Pos p.W → T (in_interior (Object.line F) p) → T (in_interior (Object.line G) p) → T (seg_shared F G || interior_poi_shared F G)
      told p h s t =
          let a = on_find F f.ordered p (and_left (is_on_some F p) (not (is_boundary (ends_at F p))) s) in
          let b = on_find G g.ordered p (and_left (is_on_some G p) (not (is_boundary (ends_at G p))) t) in
          ⊎_elim (λ e. or_left (seg_shared F G) (interior_poi_shared F G) (some_make (has_segment G) a.1 (in_has G a.0 (subst (λ r. r ∈ G) (sym e) b.1))))
          (λ k. or_right (seg_shared F G) (interior_poi_shared F G) (at_end_lem a b (k p h a.2 b.2)))
          (across a.0 b.0 a.1 b.1)
        where
          at_end_lem : (a : (r : Segment) × (r ∈ F) × Along r p) (b : (r : Segment) × (r ∈ G) × Along r p) → EndOf a.0 p × EndOf b.0 p → T (interior_poi_shared F G)
          at_end_lem a b e =
              let (v, i, k) = end_place_lem a.0 p e.0 in
              end_give (λ f v. has_end G v && not (is_bound F v) && not (is_bound G v)) F a.0 a.1 v k
              (and_make (has_end G v && not (is_bound F v)) (not (is_bound G v))
              (and_make (has_end G v) (not (is_bound F v)) (some_make (λ r. is_end r (grid v)) b.1 (carry v p h i (is_end b.0) (is_end_scale b.0) (end_make b.0 p e.1)))
              (carry_not v p h i (λ q. is_boundary (ends_at F q)) (bound_scale F) (and_right (is_on_some F p) (not (is_boundary (ends_at F p))) s)))
              (carry_not v p h i (λ q. is_boundary (ends_at G q)) (bound_scale G) (and_right (is_on_some G p) (not (is_boundary (ends_at G p))) t)))

  pub ie : Cell (seg_unshared F G) (in_interior (Object.line F)) (in_exterior (Object.line G))
  ie =
      record {
        found = λ t. let w = some_find (λ r. not (has_segment G r)) F t in (midpoint w.0, one_pos 1, middle_in F f w.0 w.1, outside_line G g.ordered (midpoint w.0) (one_pos 1) (middle_off G g.ordered w.0 (f.ordered w.0 w.1) (λ r k. across w.0 r w.1 k) w.2));
        told = λ p h s t. let w = line_on F f.ordered p s in some_make (λ r. not (has_segment G r)) w.1 (not_T (has_segment G w.0) (λ u. T_not (is_on_some G p) (line_outside G g.ordered p h t) (on_make G g.ordered p w.0 (is_in G w.0 u) w.2)));
      }

  pub bi : Cell (bound_on_interior F G) (in_boundary (Object.line F)) (in_interior (Object.line G))
  unfolding in_interior
  bi =
      bound_cell F (in_interior (Object.line G)) (in_interior_scale (Object.line G)) (λ v. is_bound F v && on_object G v && not (is_bound G v))
      (λ v t. let k = and_left (is_bound F v && on_object G v) (not (is_bound G v)) t in (and_left (is_bound F v) (on_object G v) k, and_make (on_object G v) (not (is_bound G v)) (and_right (is_bound F v) (on_object G v) k) (and_right (is_bound F v && on_object G v) (not (is_bound G v)) t)))
      (λ v s t. and_make (is_bound F v && on_object G v) (not (is_bound G v)) (and_make (is_bound F v) (on_object G v) s (and_left (on_object G v) (not (is_bound G v)) t)) (and_right (on_object G v) (not (is_bound G v)) t))

  pub bb : Cell (bound_shared F G) (in_boundary (Object.line F)) (in_boundary (Object.line G))
  unfolding in_boundary
  bb =
      bound_cell F (in_boundary (Object.line G)) (in_boundary_scale (Object.line G)) (λ v. is_bound F v && is_bound G v)
      (λ v t. (and_left (is_bound F v) (is_bound G v) t, and_right (is_bound F v) (is_bound G v) t)) (λ v s t. and_make (is_bound F v) (is_bound G v) s t)

  pub be : Cell (bound_disjoint F G) (in_boundary (Object.line F)) (in_exterior (Object.line G))
  be =
      bound_cell F (in_exterior (Object.line G)) (in_exterior_scale (Object.line G)) (λ v. is_bound F v && not (on_object G v))
      (λ v t. (and_left (is_bound F v) (not (on_object G v)) t, outside_line G g.ordered (grid v) (one_pos 0) (and_right (is_bound F v) (not (on_object G v)) t)))
      (λ v s t. and_make (is_bound F v) (not (on_object G v)) s (line_outside G g.ordered (grid v) (one_pos 0) t))

  pub ee : Cell true (in_exterior (Object.line F)) (in_exterior (Object.line G))
  ee = outside_both (Object.line F) (Object.line G) f.ordered g.ordered

-- the other rows, seen from G
module _ (F G : List Segment) (f : Split F) (g : Split G) (across : Across F G) where
  pub ib : Cell (bound_on_interior G F) (in_interior (Object.line F)) (in_boundary (Object.line G))
  ib = cell_swap (bi G F g f (across_swap across))

  pub ei : Cell (seg_unshared G F) (in_exterior (Object.line F)) (in_interior (Object.line G))
  ei = cell_swap (ie G F g f (across_swap across))

  pub eb : Cell (bound_disjoint G F) (in_exterior (Object.line F)) (in_boundary (Object.line G))
  eb = cell_swap (be G F g f (across_swap across))
