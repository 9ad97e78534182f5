-- x, then y, both in range.
use Rattle.std.proofs.Common.{◌+◌, ℤ, ap₂, ◌∙◌, arith}
use Rattle.plane.specs.declared.Point.{Point}
use Rattle.plane.specs.Plane.{limit}
use Rattle.plane.proofs.Machine.{is_within}
use Rattle.scene_keys.specs.Keyed.{key}
use Rattle.wkb_grammar.proofs.Taken.{coordinate_fits, x_taken, y_taken, point_is}
use Rattle.wkb_gathering.proofs.Numbers.{back}
use Rattle.wkb_gathering.proofs.key.Goals as goal

abbrev point : ℤ → ℤ → Point
point x y = record { x = x; y = y }

pub coordinate-requires : goal.coordinate-requires
coordinate-requires c = x_taken c.args.s.now c.args.little c.args.at c.requires

pub coordinate-requires-2 : goal.coordinate-requires-2
coordinate-requires-2 c = y_taken c.args.s.now c.args.little c.args.at c.coordinate.result c.coordinate.ensures.0 c.requires

pub key-requires : goal.key-requires
key-requires c =
    let x = c.coordinate.result in
    let y = c.coordinate-2.result in
    rw (back x c.coordinate.ensures.1, back y c.coordinate-2.ensures.1) (is_within limit (point x y) c.coordinate.ensures.1 c.coordinate-2.ensures.1)

pub returns : goal.returns
returns c =
    let a = c.args in
    let x = c.coordinate.result in
    let y = c.coordinate-2.result in
    record {
      point = point x y;
      is = point_is a.s.now a.little a.at x c.coordinate.ensures.0 y c.coordinate-2.ensures.0;
      there = omega (arith, coordinate_fits a.s.now a.little (a.at + 8) (y_taken a.s.now a.little a.at x c.coordinate.ensures.0 c.requires));
      in_range_lem = is_within limit (point x y) c.coordinate.ensures.1 c.coordinate-2.ensures.1;
      keyed = c.key.ensures ∙ ap₂ (λ x y. key (point x y)) (back x c.coordinate.ensures.1) (back y c.coordinate-2.ensures.1);
    }
