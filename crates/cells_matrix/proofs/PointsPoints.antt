-- Points against points.
use mathlib.Core.Path.{◌≡◌, refl, ap, ◌∙◌}
use mathlib.Core.Bool.{Bool, true, false, not, ◌&&◌}
use mathlib.Core.List.{List}
use Rattle.whole.specs.Count.{some}
use Rattle.whole.proofs.Logic.{in_nil}
use Rattle.plane.specs.declared.Point.{Point}
use Rattle.plane.specs.Plane.{HPoint, grid, is_at, Object, in_interior, in_boundary, in_exterior}
use Rattle.plane.proofs.Scale.{in_interior_scale, in_exterior_scale}
use Rattle.flags.specs.Flags.{has_point, poi_disjoint, poi_shared}
use Rattle.cells_matrix.proofs.Common.{Cell, cell_swap, no_boundary, points_cell, points_at, outside_both}

module _ (F G : List Point) where
  pub ii : Cell (poi_shared F G) (in_interior (Object.points F)) (in_interior (Object.points G))
  unfolding in_interior
  ii = points_cell F (in_interior (Object.points G)) (in_interior_scale (Object.points G)) (has_point G) (points_at G)

  pub ie : Cell (poi_disjoint F G) (in_interior (Object.points F)) (in_exterior (Object.points G))
  unfolding in_exterior in_interior in_boundary
  ie =
      points_cell F (in_exterior (Object.points G)) (in_exterior_scale (Object.points G)) (λ v. not (has_point G v))
      (λ v. ap not (points_at G v) ∙ keep (not (some (λ e. is_at e (grid v)) G)))
    where
      keep : (b : Bool) → b ≡ b && true
      keep true = refl
      keep false = refl

  pub ib : Cell false (in_interior (Object.points F)) (in_boundary (Object.points G))
  ib = cell_swap (no_boundary G (in_interior (Object.points F)))

  pub eb : Cell false (in_exterior (Object.points F)) (in_boundary (Object.points G))
  eb = cell_swap (no_boundary G (in_exterior (Object.points F)))

  pub bx : (B : HPoint → Bool) → Cell false (in_boundary (Object.points F)) B
  bx = no_boundary F

  pub ee : Cell true (in_exterior (Object.points F)) (in_exterior (Object.points G))
  ee = outside_both (Object.points F) (Object.points G) (λ t m. absurd (in_nil m)) (λ t m. absurd (in_nil m))

pub ei : (F G : List Point) → Cell (poi_disjoint G F) (in_exterior (Object.points F)) (in_interior (Object.points G))
ei F G = cell_swap (ie G F)
