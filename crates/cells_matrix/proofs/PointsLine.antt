-- Points against a line, whose segments have ordered ends.
use mathlib.Core.Path.{refl, sym, subst}
use mathlib.Core.Bool.{Bool, true, false, not, ◌&&◌}
use mathlib.Core.List.{List, []}
use lib.Dec.{T}
use Rattle.whole.specs.Count.{some, ◌∈◌}
use Rattle.whole.proofs.Sign.{one_pos}
use Rattle.whole.proofs.Logic.{in_nil, same_test, and_left, and_right, and_make}
use Rattle.plane.specs.declared.Point.{Point}
use Rattle.plane.specs.declared.Segment.{Segment}
use Rattle.plane.specs.Plane.{HPoint, grid, is_at, is_on_some, is_boundary, ends_at, Object, in_interior, in_boundary, in_exterior}
use Rattle.plane.proofs.OnSegment.{Ordered}
use Rattle.plane.proofs.Scale.{in_interior_scale, in_boundary_scale, in_exterior_scale}
use Rattle.flags.specs.Flags.{has_point, on_object, is_bound, poi_off, poi_on_interior, poi_on_bound, bound_poi_disjoint}
use Rattle.cells_matrix.proofs.Common.{Cell, cell_swap, no_boundary, points_cell, points_at, bound_cell, line_outside, outside_line, outside_both, along_clear, line_inner, points_off, filled, first_of, filled_of, on_find}

module _ (F : List Point) (G : List Segment) (ord : (t : Segment) → t ∈ G → Ordered t) where
  pub ii : Cell (poi_on_interior F G) (in_interior (Object.points F)) (in_interior (Object.line G))
  unfolding in_interior
  ii = points_cell F (in_interior (Object.line G)) (in_interior_scale (Object.line G)) (λ v. on_object G v && not (is_bound G v)) (λ v. refl)

  pub ib : Cell (poi_on_bound F G) (in_interior (Object.points F)) (in_boundary (Object.line G))
  unfolding in_boundary
  ib = points_cell F (in_boundary (Object.line G)) (in_boundary_scale (Object.line G)) (is_bound G) (λ v. refl)

  pub ie : Cell (poi_off F G) (in_interior (Object.points F)) (in_exterior (Object.line G))
  ie =
      points_cell F (in_exterior (Object.line G)) (in_exterior_scale (Object.line G)) (λ v. not (on_object G v))
      (λ v. same_test (not (on_object G v)) (in_exterior (Object.line G) (grid v)) (outside_line G ord (grid v) (one_pos 0)) (line_outside G ord (grid v) (one_pos 0)))

  pub bx : (B : HPoint → Bool) → Cell false (in_boundary (Object.points F)) B
  bx = no_boundary F

  pub ei : Cell (filled G) (in_exterior (Object.points F)) (in_interior (Object.line G))
  unfolding in_interior
  ei =
      record {
        found = λ t. let s = first_of G t in let w = along_clear s.0 (ord s.0 s.1) F G [] in (w.0, w.1, points_off F w.0 w.3, line_inner G ord s.0 s.1 w.0 w.2 w.4);
        told = λ p h s t. filled_of (on_find G ord p (and_left (is_on_some G p) (not (is_boundary (ends_at G p))) t)).1;
      }

  pub eb : Cell (bound_poi_disjoint F G) (in_exterior (Object.points F)) (in_boundary (Object.line G))
  unfolding in_exterior in_interior in_boundary
  eb =
      cell_swap
      (bound_cell G (in_exterior (Object.points F)) (in_exterior_scale (Object.points F)) (λ v. is_bound G v && not (has_point F v))
      (λ v t. (and_left (is_bound G v) (not (has_point F v)) t, and_make (not (some (λ e. is_at e (grid v)) F)) true (subst (λ b. T (not b)) (points_at F v) (and_right (is_bound G v) (not (has_point F v)) t)) tt))
      (λ v s t. and_make (is_bound G v) (not (has_point F v)) s (subst (λ b. T (not b)) (sym (points_at F v)) (and_left (not (some (λ e. is_at e (grid v)) F)) true t))))

  pub ee : Cell true (in_exterior (Object.points F)) (in_exterior (Object.line G))
  ee = outside_both (Object.points F) (Object.line G) (λ t m. absurd (in_nil m)) ord
