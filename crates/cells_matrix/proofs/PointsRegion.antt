-- Points against a region.
use mathlib.Core.Path.{refl}
use mathlib.Core.Bool.{Bool, true, false, not, ◌&&◌}
use mathlib.Core.List.{List, []}
use Rattle.whole.proofs.Logic.{in_nil}
use Rattle.plane.specs.declared.Point.{Point}
use Rattle.plane.specs.declared.Segment.{Segment}
use Rattle.plane.specs.Plane.{HPoint, grid, inside, Object, in_interior, in_boundary, in_exterior}
use Rattle.plane.proofs.Scale.{in_interior_scale, in_boundary_scale, in_exterior_scale}
use Rattle.plane.proofs.Accepted.{Regular}
use Rattle.flags.specs.Flags.{on_object, poi_inside, poi_on_outline, poi_outside}
use Rattle.cells_matrix.proofs.Common.{Cell, no_boundary, points_cell, outside_both, along_clear, points_off, filled, first_of, filled_of, on_find, on_make, inside_filled}
use Rattle.cells_matrix.proofs.Beside.{region_inner}

module _ (F : List Point) (G : List Segment) (regular : Regular G) where
  pub ii : Cell (poi_inside F G) (in_interior (Object.points F)) (in_interior (Object.region G))
  unfolding in_interior
  ii = points_cell F (in_interior (Object.region G)) (in_interior_scale (Object.region G)) (λ v. inside G (grid v)) (λ v. refl)

  pub ib : Cell (poi_on_outline F G) (in_interior (Object.points F)) (in_boundary (Object.region G))
  unfolding in_boundary
  ib = points_cell F (in_boundary (Object.region G)) (in_boundary_scale (Object.region G)) (on_object G) (λ v. refl)

  pub ie : Cell (poi_outside F G) (in_interior (Object.points F)) (in_exterior (Object.region G))
  unfolding in_exterior in_interior in_boundary
  ie = points_cell F (in_exterior (Object.region G)) (in_exterior_scale (Object.region G)) (λ v. not (inside G (grid v)) && not (on_object G v)) (λ v. refl)

  pub bx : (B : HPoint → Bool) → Cell false (in_boundary (Object.points F)) B
  bx = no_boundary F

  pub ei : Cell (filled G) (in_exterior (Object.points F)) (in_interior (Object.region G))
  unfolding in_interior
  ei =
      record {
        found = λ t. let s = first_of G t in let w = region_inner F [] G regular (λ s t i k. absurd (in_nil k)) (λ t k. absurd (in_nil k)) s.0 s.1 in (w.at, w.at_pos, points_off F w.at w.off, w.within);
        told = λ p h s t. inside_filled G p t;
      }

  pub eb : Cell (filled G) (in_exterior (Object.points F)) (in_boundary (Object.region G))
  unfolding in_boundary
  eb =
      record {
        found = λ t. let s = first_of G t in let w = along_clear s.0 (regular.split.ordered s.0 s.1) F [] [] in (w.0, w.1, points_off F w.0 w.3, on_make G regular.split.ordered w.0 s.0 s.1 w.2);
        told = λ p h s t. filled_of (on_find G regular.split.ordered p t).1;
      }

  pub ee : Cell true (in_exterior (Object.points F)) (in_exterior (Object.region G))
  ee = outside_both (Object.points F) (Object.region G) (λ t m. absurd (in_nil m)) regular.split.ordered
