-- The four differences are those of the definition, and no product of two overflows.
use Rattle.std.proofs.Common.{ap₂, ◌∙◌, ◌-ℤ◌, ◌*ℤ◌}
use Rattle.plane.specs.Plane.{side}
use Rattle.plane.proofs.Machine.{Difference, difference_x, difference_y, product_fits, value_fits, value_back}
use Rattle.plane.proofs.side.Goals as goal
use Rattle.plane.proofs.side.Goals.{After-difference-4}

pub overflow_mul-result : goal.overflow_mul-result
overflow_mul-result c =
    product_fits c.difference.result c.difference-2.result
    (difference_x c.args.b c.args.a _ c.requires.1 c.requires.0 c.difference.ensures).1
    (difference_y c.args.c c.args.a _ c.requires.2 c.requires.0 c.difference-2.ensures).1

-- the differences, in the order of the code
module _ (c : After-difference-4) where
  first : Difference c.args.b.x c.args.a.x c.difference.result
  first = difference_x c.args.b c.args.a c.difference.result c.requires.1 c.requires.0 c.difference.ensures

  second : Difference c.args.c.y c.args.a.y c.difference-2.result
  second = difference_y c.args.c c.args.a c.difference-2.result c.requires.2 c.requires.0 c.difference-2.ensures

  third : Difference c.args.b.y c.args.a.y c.difference-3.result
  third = difference_y c.args.b c.args.a c.difference-3.result c.requires.1 c.requires.0 c.difference-3.ensures

  fourth : Difference c.args.c.x c.args.a.x c.difference-4.result
  fourth = difference_x c.args.c c.args.a c.difference-4.result c.requires.2 c.requires.0 c.difference-4.ensures

pub overflow_mul-result-2 : goal.overflow_mul-result-2
overflow_mul-result-2 c = product_fits c.difference-3.result c.difference-4.result (third c).1 (fourth c).1

pub overflow_sub-result : goal.overflow_sub-result
overflow_sub-result c =
    value_fits c.difference.result c.difference-2.result c.difference-3.result c.difference-4.result
    (first c).1 (second c).1 (third c).1 (fourth c).1

pub returns : goal.returns
unfolding side
returns c =
    value_back c.difference.result c.difference-2.result c.difference-3.result c.difference-4.result
    (first c).1 (second c).1 (third c).1 (fourth c).1
    ∙ ap₂ ◌-ℤ◌ (ap₂ ◌*ℤ◌ (first c).0 (second c).0) (ap₂ ◌*ℤ◌ (third c).0 (fourth c).0)
