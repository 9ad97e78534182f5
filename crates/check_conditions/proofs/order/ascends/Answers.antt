use Rattle.std.proofs.Common.{◌≡◌, ◌∙◌, sym, ap, subst, ℕ, ◌+◌, ◌-◌, ◌<◌, Bool, List, arith}
use Rattle.whole.proofs.Deciding.{no}
use Rattle.scene.specs.declared.Layout.{Layout}
use Rattle.scene.specs.Read.{size, place}
use Rattle.scene.specs.Conditions.{is_in_order}
use Rattle.check_conditions.specs.Ordered.{TellsOrder}
use Rattle.check_conditions.proofs.Pass.{begin, turn}
use Rattle.check_conditions.proofs.order.ascends.Goals as goal

-- the offset of the element i follows that of the one before
onward : (l : Layout) {step at i : ℕ} → step ≡ size l.shape → 0 < i → at ≡ place l (i - 1) → at + step ≡ place l i
onward l {step} {at} {i} e h here = beyond ∙ ap (place l) on_one
  where
    beyond : at + step ≡ place l (i - 1 + 1)
    beyond = omega arith

    on_one : i - 1 + 1 ≡ i
    on_one = omega arith

told : (l : Layout) (s : List ℕ) (Answers : ℕ → ℕ → Bool → Type 0) → TellsOrder l s Answers → {at next : ℕ} (i : ℕ) → 0 < i → i < l.count → at ≡ place l (i - 1) → next ≡ place l i
    → {r : Bool} → Answers at next r → r ≡ is_in_order s l (i - 1) i
told l s Answers tells {at} {next} i after h here there {r} k =
    tells i after h r (subst (λ (x : ℕ). Answers x (place l i) r) here (subst (λ (y : ℕ). Answers at y r) there k))

pub loop-init : goal.loop-init
loop-init g c = record { after_first = omega arith; here = omega arith; reached = λ s tells. begin s c.args.l }

pub returns-then-not-in_order : goal.returns-then-not-in_order
returns-then-not-in_order g c = λ s tells.
    let l = c.args.l in
    let v = c.loop.invariant in
    let tested = told l s (λ x y r. g.F.Fn.post c.args.in_order (x, (y, tt)) r) tells c.loop.counter v.after_first c.loop-test.true v.here (onward l c.requires.1 v.after_first v.here) c.in_order.ensures in
    no ((turn s l c.requires.1 (v.reached s tells) c.loop-test.true).off (sym tested ∙ c.if-not-in_order.true))

pub loop-preserved : goal.loop-preserved
loop-preserved g c =
    let l = c.args.l in
    let v = c.loop.invariant in
    let there = onward l c.requires.1 v.after_first v.here in
    record {
      after_first = omega arith;
      here = there ∙ ap (place l) (omega arith);
      reached = λ s tells.
          let tested = told l s (λ x y r. g.F.Fn.post c.args.in_order (x, (y, tt)) r) tells c.loop.counter v.after_first c.loop-test.true v.here there c.in_order.ensures in
          (turn s l c.requires.1 (v.reached s tells) c.loop-test.true).on (sym tested ∙ c.if-not-in_order.false);
    }
