use Rattle.std.proofs.Common.{◌≡◌, ℕ, ◌+◌, ◌*◌, sym, ap, ap₂, ◌∙◌, refl, arith}
use Rattle.whole.proofs.Logic.{is_true}
use Rattle.whole.proofs.Deciding.{yes, no}
use Rattle.plane.specs.declared.Halfsegment.{Halfsegment}
use Rattle.plane.specs.Plane.{is_same_point, dominating}
use Rattle.sweep_laws.specs.Evenly.{dominated_by}
use Rattle.sweep_laws.proofs.Evenly.{parity_from, parity_end, parity_pair, shared, even_count, next_shares}
use Rattle.sweep.proofs.evenly.ends_evenly.Goals as goal

pub returns-then-o-ne0 : goal.returns-then-o-ne0
returns-then-o-ne0 c = no (λ evenly. omega (arith, even_count c.args.o.bytes.now c.args.o.layout evenly))

pub returns-then-not-share_point : goal.returns-then-not-share_point
returns-then-not-share_point c =
    let s = c.args.o.bytes.now in
    let l = c.args.o.layout in
    no
    (λ evenly. next_shares s l c.args.o.read c.requires.0 c.requires.1 (2 * c.loop-i.i) (omega arith) (λ v. sym (c.loop-i.invariant v) ∙ evenly v)
    (ap₂ (λ (h k : Halfsegment). is_same_point (dominating h) (dominating k)) (sym c.half.ensures.is) (sym c.half-in-loop-i.ensures.is) ∙ sym c.if-not-share_point.ensures))

pub loop-i-preserved : goal.loop-i-preserved
loop-i-preserved c = λ v.
    let s = c.args.o.bytes.now in
    let l = c.args.o.layout in
    let i = 2 * c.loop-i.i in
    let more : i + 2 ≡ 2 * (c.loop-i.i + 1) = omega arith in
    let share = ap₂ (λ (h k : Halfsegment). is_same_point (dominating h) (dominating k)) (sym c.half.ensures.is) (sym c.half-in-loop-i.ensures.is) ∙ sym c.if-not-share_point.ensures in
    c.loop-i.invariant v
    ∙ parity_pair (dominated_by s l v) i l.count (omega arith) (shared s l i refl refl (is_true _ share) v)
    ∙ ap (λ (m : ℕ). parity_from (dominated_by s l v) m l.count) more

pub returns : goal.returns
returns c = let o = c.args.o in yes (λ v. c.loop-i.invariant v ∙ parity_end (dominated_by o.bytes.now o.layout v) (2 * c.loop-i.i) o.layout.count (omega arith))
