-- Reading, then 10 to 14, each of which may refuse.
use Rattle.std.proofs.Common.{◌≡◌, ◌∙◌, sym, ap, ℕ, List, ◌++◌, length, Ok, arith}
use Rattle.scene.specs.Read.{read_alone}
use Rattle.scene.proofs.Outcomes.{handed_on}
use Rattle.check_verdict.specs.Refusals.{object_verdict}
use Rattle.check_verdict.proofs.Verdicts.{object_refused}
use Rattle.check_verdict.proofs.CheckedMeans.{object_with_meaning}
use Rattle.check_alone.proofs.Alone.{short, at_fault, taken}
use Rattle.check_alone.proofs.check_object.Goals as goal

pub returns-in_err-layout : goal.returns-in_err-layout
returns-in_err-layout c =
    let s = c.args.s.now in
    object_with_meaning s (handed_on c.from_residual.result c.from_residual.ensures.1 ∙ sym (object_refused s c.in_err-layout.field-0.0 (sym c.read_alone.ensures ∙ c.in_err-layout.was)))

pub append-requires : goal.append-requires
append-requires c = (omega arith, omega (arith, ap length c.new-bytes.ensures, short c.args.s.now c.in_ok-layout.layout (sym c.read_alone.ensures ∙ c.in_ok-layout.was)))

pub verdict-requires : goal.verdict-requires
verdict-requires c =
    let s = c.args.s.now in
    let read : read_alone s ≡ Ok c.in_ok-layout.layout = sym c.read_alone.ensures ∙ c.in_ok-layout.was in
    let copied : c.append.new.out.items ≡ s = c.append.ensures ∙ ap (λ (o : List ℕ). o ++ s) c.new-bytes.ensures in
    (omega arith, (ap read_alone copied ∙ read, omega (arith, ap length copied, short s c.in_ok-layout.layout read)))

pub returns-in_err-verdict : goal.returns-in_err-verdict
returns-in_err-verdict c =
    let s = c.args.s.now in
    let r = c.from_residual-in_err-verdict in
    let copied : c.append.new.out.items ≡ s = c.append.ensures ∙ ap (λ (o : List ℕ). o ++ s) c.new-bytes.ensures in
    object_with_meaning s (handed_on r.result r.ensures.1
    ∙ sym (at_fault s c.in_ok-layout.layout (sym c.read_alone.ensures ∙ c.in_ok-layout.was) c.in_err-verdict.field-0.0
    (ap (λ (b : List ℕ). object_verdict b c.in_ok-layout.layout) (sym copied) ∙ sym c.verdict.ensures.found ∙ c.in_err-verdict.was)))

pub returns : goal.returns
returns c =
    let s = c.args.s.now in
    let copied : c.append.new.out.items ≡ s = c.append.ensures ∙ ap (λ (o : List ℕ). o ++ s) c.new-bytes.ensures in
    object_with_meaning s (sym (taken s c.in_ok-layout.layout (sym c.read_alone.ensures ∙ c.in_ok-layout.was)
    (ap (λ (b : List ℕ). object_verdict b c.in_ok-layout.layout) (sym copied) ∙ sym c.verdict.ensures.found ∙ c.in_ok-verdict.was)))
