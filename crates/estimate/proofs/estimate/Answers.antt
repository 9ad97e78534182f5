-- What is promised of the side value is `promised`.
use Rattle.std.proofs.Common.{◌≡◌, true, false, T, Float, sym, ap, ap₂, subst, ◌∙◌, refl}
use lib.Ieee.{of_bits, binary32}
use Rattle.plane.specs.declared.Point.{Point}
use Rattle.estimate.specs.declared.Side.{Side}
use Rattle.estimate.specs.declared.Side.TheVariants.{Close}
use Rattle.estimate.specs.declared.Estimated.{Estimated}
use Rattle.estimate.specs.Estimate.{all_in_range, float_side, certain, estimated, side_number, Promised, EstimateHolds}
use Rattle.estimate.proofs.Bound.{promised}
use Rattle.estimate.proofs.estimate.Goals as goal

abbrev of : Float → Side → Estimated
of v d = record { estimate = v; side = d }

module _ (a b c : Point) (r : Estimated) where
  inside : all_in_range a b c ≡ true → r ≡ of (float_side a b c) (certain (float_side a b c)) → (r ≡ estimated a b c) × EstimateHolds a b c r.estimate (side_number r.side)
  unfolding estimated
  inside t e = (rw t e, λ u. subst (λ (x : Estimated). Promised a b c x.estimate (side_number x.side)) (sym e) (promised a b c u))

  outside : all_in_range a b c ≡ false → r ≡ of (of_bits binary32 0) Close → (r ≡ estimated a b c) × EstimateHolds a b c r.estimate (side_number r.side)
  unfolding estimated of_bits
  outside t e = (rw t e, λ u. absurd (subst T t u))

pub returns-then-are_in_range : goal.returns-then-are_in_range
returns-then-are_in_range c =
    let v = c.value-v in
    inside c.args.a c.args.b c.args.c (of v.result c.side_of.result) (sym c.are_in_range.ensures ∙ c.if-are_in_range.true)
    (ap₂ of v.ensures (c.side_of.ensures ∙ ap certain v.ensures))

pub returns-else-are_in_range : goal.returns-else-are_in_range
returns-else-are_in_range c =
    outside c.args.a c.args.b c.args.c (of (of_bits binary32 0) Close) (sym c.are_in_range.ensures ∙ c.if-are_in_range.false) refl
