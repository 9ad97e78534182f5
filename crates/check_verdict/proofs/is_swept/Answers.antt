-- A scene is sound exactly where 10 finds no fault in either object, and 11 to 15, which the sweep decides, none.
use Rattle.std.proofs.Common.{◌≡◌, sym, subst, T, Ok}
use Rattle.whole.specs.Decides.{Decides}
use Rattle.check_verdict.specs.Refusals.{geometry_verdict}
use Rattle.whole.proofs.Logic.{is_true}
use Rattle.whole.proofs.Deciding.{no, same_as}
use Rattle.check_verdict.proofs.Verdicts.{passes_sound, sound_passes}
use Rattle.check_verdict.proofs.is_swept.Goals as goal

pub returns-then-is_in_order : goal.returns-then-is_in_order
returns-then-is_in_order c =
    let s = c.args.read.bytes.now in
    let sc = c.args.read.scene in
    let order = c.is_in_order.ensures.sound (is_true c.is_in_order.result c.if-is_in_order.true) in
    (same_as (passes_sound s sc order) (λ sound. (sound_passes s sc sound).1) c.accepts.ensures.is.0, c.accepts.ensures.is.1)

pub returns-else-is_in_order : goal.returns-else-is_in_order
returns-else-is_in_order c =
    let s = c.args.read.bytes.now in
    let sc = c.args.read.scene in
    let never = λ (t : T c.is_in_order.result). subst T c.if-is_in_order.false t in (
      subst (Decides (geometry_verdict s sc ≡ Ok tt)) (sym c.if-is_in_order.false) (no (λ sound. never (c.is_in_order.ensures.complete (sound_passes s sc sound).0))),
      λ t. absurd (never t),
    )
