use Rattle.std.proofs.Common.{◌≡◌, ◌+◌, ◌-◌, ◌++◌, length, take, drop, ap, ◌∙◌, arith}
use Rattle.std.proofs.lemmas.Grind.{common_steps}
use Rattle.rows.proofs.Laid.{laid}
use Rattle.rows.proofs.lay.Goals as goal

pub loop-i-preserved : goal.loop-i-preserved
loop-i-preserved g c =
    let h = c.loop-i.invariant in
    let values = c.args.values.now in
    let next = laid values c.args.row.now c.loop-i.row c.loop-i.i c.loop-i.held c.loop-i.auto.i (omega arith) c.requires h.laid h.in_hand in
    let above : c.loop-i.i + 1 - 1 ≡ c.loop-i.i = omega arith in
    record { laid = rw above next; in_hand = rw above (c.index-values-i.is) }

pub returns : goal.returns
returns g c =
    let h = c.loop-i.invariant in
    let values = c.args.values.now in
    let all : c.loop-i.i ≡ length values = omega arith in
    let last = laid values c.args.row.now c.loop-i.row c.loop-i.i c.loop-i.held c.loop-i.auto.i (omega arith) c.requires h.laid h.in_hand in
    let whole : take (length values) values ≡ values = grind (arith, common_steps) in
    (rw all at last) ∙ ap (λ l. l ++ drop (length values) c.args.row.now) whole
