use Rattle.std.proofs.Common.{◌≡◌, ltb, take, sym, ap, ◌∙◌, arith}
use Rattle.std.proofs.lemmas.Grind.{common_steps}
use Rattle.whole.proofs.Parity.{parity, parity_nil, odd_count}
use Rattle.sweep_laws.proofs.Entries.{parity_one}
use Rattle.sweep_event.proofs.has_odd_before.Goals as goal

pub loop-e-init : goal.loop-e-init
loop-e-init c = sym (parity_nil (λ x. ltb x c.args.start))

pub loop-e-preserved : goal.loop-e-preserved
loop-e-preserved c = parity_one (λ x. ltb x c.args.start) c.args.entries.now c.loop-e.e-index (omega arith) c.loop-e.invariant

pub returns : goal.returns
returns c =
    let l = c.args.entries.now in
    let all : take c.loop-e.e-index l ≡ l = grind (arith, common_steps) in
    c.loop-e.invariant ∙ ap (parity (λ x. ltb x c.args.start)) all ∙ sym (odd_count (λ x. ltb x c.args.start) l)
