-- The four differences are those of the definition.
use Rattle.std.proofs.Common.{◌≡◌, ◌≤◌, T, ℤ, nat_abs, ap₂, ◌∙◌, arith}
use lib.Dec.{le→leb}
use lib.Ieee.{binary32, sub, mul}
use mir.Syntax.{w32}
use mir.Val.{to_z, of_z}
use Rattle.plane.specs.declared.Point.{Point}
use Rattle.plane.proofs.Machine.{within_x, within_y}
use Rattle.floats.specs.Value.{counted}
use Rattle.floats.proofs.Machine.{counted_back}
use Rattle.estimate.specs.Estimate.{range, in_range, apart, float_side}
use Rattle.estimate.proofs.Bound.{first_in, second_in, third_in}
use Rattle.estimate.proofs.value.Goals as goal

-- a coordinate of a point in the range is one that single floats count, as it stands and as the machine reads it from its bits
small : (z : ℤ) → nat_abs z ≤ range → T (counted binary32 z)
small z h = le→leb (nat_abs z) 16777216 (omega arith)

abbrev back : ℤ → ℤ
back z = to_z w32 (of_z w32 z)

read : (z : ℤ) → nat_abs z ≤ range → back z ≡ z
read z h = counted_back z (small z h)

asked : (z : ℤ) → nat_abs z ≤ range → T (counted binary32 (back z))
asked z h = rw (read z h) (small z h)

-- what two coordinates by their bits ask, and what their difference is
module _ (p q : Point) (h : T (in_range p)) (k : T (in_range q)) where
  asked_x : T (counted binary32 (back q.x)) × T (counted binary32 (back p.x))
  asked_x = (asked q.x (within_x range q k), asked p.x (within_x range p h))

  asked_y : T (counted binary32 (back q.y)) × T (counted binary32 (back p.y))
  asked_y = (asked q.y (within_y range q k), asked p.y (within_y range p h))

  apart_x : apart (back q.x) (back p.x) ≡ apart q.x p.x
  apart_x = ap₂ apart (read q.x (within_x range q k)) (read p.x (within_x range p h))

  apart_y : apart (back q.y) (back p.y) ≡ apart q.y p.y
  apart_y = ap₂ apart (read q.y (within_y range q k)) (read p.y (within_y range p h))

pub difference-requires : goal.difference-requires
difference-requires s = asked_x s.args.a s.args.b (first_in s.args.a s.args.b s.args.c s.requires) (second_in s.args.a s.args.b s.args.c s.requires)

pub difference-requires-2 : goal.difference-requires-2
difference-requires-2 s = asked_y s.args.a s.args.c (first_in s.args.a s.args.b s.args.c s.requires) (third_in s.args.a s.args.b s.args.c s.requires)

pub difference-requires-3 : goal.difference-requires-3
difference-requires-3 s = asked_y s.args.a s.args.b (first_in s.args.a s.args.b s.args.c s.requires) (second_in s.args.a s.args.b s.args.c s.requires)

pub difference-requires-4 : goal.difference-requires-4
difference-requires-4 s = asked_x s.args.a s.args.c (first_in s.args.a s.args.b s.args.c s.requires) (third_in s.args.a s.args.b s.args.c s.requires)

pub returns : goal.returns
unfolding float_side
returns s =
    let h = first_in s.args.a s.args.b s.args.c s.requires in
    let k = second_in s.args.a s.args.b s.args.c s.requires in
    let l = third_in s.args.a s.args.b s.args.c s.requires in
    ap₂ (sub binary32)
    (ap₂ (mul binary32) (s.difference.ensures ∙ apart_x s.args.a s.args.b h k) (s.difference-2.ensures ∙ apart_y s.args.a s.args.c h l))
    (ap₂ (mul binary32) (s.difference-3.ensures ∙ apart_y s.args.a s.args.b h k) (s.difference-4.ensures ∙ apart_x s.args.a s.args.c h l))
