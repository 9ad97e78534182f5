-- A refusal leaves the buffer as it was, and a scene that is taken has its list written.
use Rattle.std.proofs.Common.{◌∙◌, sym, ap, length, Ok}
use Rattle.scene.specs.Read.{CheckedScene}
use Rattle.scene.proofs.Outcomes.{handed_on}
use Rattle.overlap.specs.Overlap.{answer, lent_after}
use Rattle.overlap.proofs.Checked.{listable, list_means, list_read}
use Rattle.overlap.proofs.overlap_list.Goals as goal

pub returns-in_err-scene : goal.returns-in_err-scene
returns-in_err-scene c =
    let s = c.args.s.now in
    let e = sym c.check_list.ensures.is.0 ∙ c.in_err-scene.was in
    (handed_on c.from_residual.result c.from_residual.ensures.1 ∙ sym (ap (answer s) e), sym (ap (λ (o : CheckedScene). lent_after s o c.args.list.now) e), list_means s _)

pub invariant_of-of : goal.invariant_of-of
invariant_of-of c =
    let e = sym c.check_list.ensures.is.0 ∙ c.in_ok-scene.was in
    record { read = list_read c.args.s.now (length c.args.list.now) c.in_ok-scene.scene e }

pub of-regions-requires : goal.of-regions-requires
of-regions-requires c =
    let sc = c.in_ok-scene.scene in
    let e = sym c.check_list.ensures.is.0 ∙ c.in_ok-scene.was in
    ((listable c.args.s.now (length c.args.list.now) sc e).taken, c.check_list.ensures.is.1 sc c.in_ok-scene.was)

pub returns : goal.returns
returns c =
    let s = c.args.s.now in
    let e = sym c.check_list.ensures.is.0 ∙ c.in_ok-scene.was in
    let written = rw c.of-regions.ensures.0 at c.write.ensures in (
      ap Ok written.0 ∙ sym (ap (answer s) e),
      written.1 ∙ sym (ap (λ (o : CheckedScene). lent_after s o c.args.list.now) e),
      list_means s _,
    )
