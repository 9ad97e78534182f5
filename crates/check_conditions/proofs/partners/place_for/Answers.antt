use Rattle.std.proofs.Common.{◌∙◌, sym, ap, arith}
use Rattle.plane.specs.declared.Halfsegment.{Halfsegment}
use Rattle.plane.specs.Plane.{comes_before}
use Rattle.scene_segments.proofs.Walk.{few_elements}
use Rattle.check_conditions.specs.Partners.{place_for}
use Rattle.check_conditions.proofs.Halving.{middle_between, begin, done, upper, lower}
use Rattle.check_conditions.proofs.partners.place_for.Invariants.{test}
use Rattle.check_conditions.proofs.partners.place_for.Goals as goal

pub loop-low-init : goal.loop-low-init
unfolding place_for
loop-low-init c =
    let a = c.args in
    record { ascend = omega arith; within = omega arith; halving = begin (test a.o.bytes.now a.o.layout a.h) a.o.layout.count }

pub overflow_add-middle : goal.overflow_add-middle
overflow_add-middle c =
    let v = c.loop-low.invariant in
    omega (arith, few_elements c.args.o.bytes.now c.args.o.layout c.args.o.read, v.ascend, v.within)

pub loop-low-preserved-then-comes_before : goal.loop-low-preserved-then-comes_before
loop-low-preserved-then-comes_before c =
    let a = c.args in
    let tested = sym (c.comes_before.ensures ∙ ap (λ (k : Halfsegment). comes_before k a.h) c.half.ensures.is) ∙ c.if-comes_before.true in
    record {
      ascend = omega (arith, (middle_between _ _ c.loop-low-test.true).1);
      within = c.loop-low.invariant.within;
      halving = upper (test a.o.bytes.now a.o.layout a.h) c.loop-low.invariant.halving c.loop-low-test.true tested;
    }

pub loop-low-preserved : goal.loop-low-preserved
loop-low-preserved c =
    let a = c.args in
    let tested = sym (c.comes_before.ensures ∙ ap (λ (k : Halfsegment). comes_before k a.h) c.half.ensures.is) ∙ c.if-comes_before.false in
    record {
      ascend = (middle_between _ _ c.loop-low-test.true).0;
      within = omega (arith, (middle_between _ _ c.loop-low-test.true).1, c.loop-low.invariant.within);
      halving = lower (test a.o.bytes.now a.o.layout a.h) c.loop-low.invariant.halving c.loop-low-test.true tested;
    }

pub returns : goal.returns
returns c = let a = c.args in sym (done (test a.o.bytes.now a.o.layout a.h) c.loop-low.invariant.halving c.loop-low-test.false)
