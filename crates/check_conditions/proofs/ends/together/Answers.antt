use Rattle.std.proofs.Common.{◌∙◌, sym, ap, ap₂, arith, not}
use borrow.Author.Tests.{not-false}
use Rattle.plane.specs.Plane.{is_same_point, dominating}
use Rattle.plane.proofs.Compared.{same_points}
use Rattle.scene.specs.Conditions.{half}
use Rattle.scene_segments.proofs.Until.{count_stopped, count_further}
use Rattle.check_conditions.specs.Odd.{stands_at, together}
use Rattle.check_conditions.proofs.ends.together.Goals as goal

pub loop-j-init : goal.loop-j-init
unfolding together
loop-j-init c = record { few = omega arith; all = omega arith }

pub returns-then-ne : goal.returns-then-ne
returns-then-ne c =
    let s = c.args.o.bytes.now in
    let o = c.args.o.layout in
    let p = dominating (half s o c.args.i) in
    let here = c.dominating_point.ensures ∙ ap dominating c.half-in-loop-j.ensures.is in
    let there = c.dominating_point-p.ensures ∙ ap dominating c.half.ensures.is in
    let stops = ap₂ (λ a b. not (is_same_point a b)) (sym here) (sym there) ∙ ap not (sym (same_points c.dominating_point.result c.dominating_point-p.result)) ∙ sym c.ne.ensures ∙ c.if-ne.true in
    omega (arith, c.loop-j.invariant.all, count_stopped (λ k. not (stands_at s o p k)) (stands_at s o p) c.loop-j.j o.count c.loop-j-test.true stops)

pub loop-j-preserved : goal.loop-j-preserved
loop-j-preserved c =
    let s = c.args.o.bytes.now in
    let o = c.args.o.layout in
    let p = dominating (half s o c.args.i) in
    let here = c.dominating_point.ensures ∙ ap dominating c.half-in-loop-j.ensures.is in
    let there = c.dominating_point-p.ensures ∙ ap dominating c.half.ensures.is in
    let on = ap₂ (λ a b. not (is_same_point a b)) (sym here) (sym there) ∙ ap not (sym (same_points c.dominating_point.result c.dominating_point-p.result)) ∙ sym c.ne.ensures ∙ c.if-ne.false in
    record {
      few = omega (arith, c.loop-j.invariant.few);
      all = count_further (λ k. not (stands_at s o p k)) (stands_at s o p) c.loop-j.j o.count c.loop-j.n _ c.loop-j-test.true on c.loop-j.invariant.all (not-false (stands_at s o p c.loop-j.j) on);
    }
