use Rattle.std.proofs.Common.{ℕ, ap, ap₂, sym, subst₂, ◌∙◌}
use Rattle.scene.specs.Read.{arranged, IsScene}
use Rattle.scene.proofs.Taken.{layout}
use Rattle.check_verdict.specs.Refusals.{geometry_verdict}
use Rattle.check_alone.proofs.Alone.{laid_scene, laid_verdict}
use Rattle.check_alone.proofs.lay_beside.Goals as goal

pub returns-clause-read : goal.returns-clause-read
returns-clause-read g c =
    subst₂ IsScene (sym c.lay_empty.ensures) (sym (c.arranged.ensures ∙ ap (λ (n : ℕ). arranged c.args.l (layout c.args.l.shape n 0)) c.len.ensures.value))
    (laid_scene c.args.bytes.now.items c.args.l c.requires.read)

pub returns-clause-alike : goal.returns-clause-alike
returns-clause-alike g c =
    ap₂ geometry_verdict c.lay_empty.ensures (c.arranged.ensures ∙ ap (λ (n : ℕ). arranged c.args.l (layout c.args.l.shape n 0)) c.len.ensures.value)
    ∙ laid_verdict c.args.bytes.now.items c.args.l c.requires.read
