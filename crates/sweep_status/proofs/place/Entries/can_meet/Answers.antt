use Rattle.std.proofs.Common.{◌≡◌, ℕ, suc, ◌+◌, ◌-◌, get_or, ap, ◌∙◌, arith}
use Rattle.scene.specs.Read.{segment_at}
use Rattle.sweep_laws.specs.Lower.{lower_at_right}
use Rattle.sweep_laws.specs.Status.{AtPlace}
use Rattle.sweep_laws.specs.Event.{LowerNext}
use Rattle.sweep_laws.proofs.Entries.{tested, by_below, by_at}
use Rattle.sweep_status.proofs.place.Entries.can_meet.Goals as goal

pub returns : goal.returns
returns c =
    let a = c.args in
    let s = a.self.bytes.now in
    let entries = a.self.offsets.now in
    let one : a.k + 1 ≡ suc a.k = omega arith in
    by_below entries a.k (λ e. AtPlace entries (suc a.k) (LowerNext s e)) (a.k - 1) (omega arith)
    (by_at entries (suc a.k) (LowerNext s (get_or entries (a.k - 1) 0)) (omega arith)
    (tested lower_at_right c.is_lower.ensures c.segment.ensures.0 (c.segment-2.ensures.0 ∙ ap (λ (m : ℕ). segment_at s (get_or entries m 0)) one)))
