use Rattle.std.proofs.Common.{List, ℕ, ap, sym, subst, ◌∙◌}
use Rattle.scene.specs.Read.{IsScene}
use Rattle.check_verdict.specs.Refusals.{geometry_verdict}
use Rattle.check_alone.proofs.verdict.Goals as goal

pub invariant_of-geometry_verdict : goal.invariant_of-geometry_verdict
invariant_of-geometry_verdict g c = record { read = subst (λ (s : List ℕ). IsScene s c.lay_beside-scene.result) (sym c.as_slice.ensures.value) c.lay_beside-scene.ensures.read }

pub returns-clause-found : goal.returns-clause-found
returns-clause-found g c =
    c.geometry_verdict-verdict.ensures ∙ ap (λ (s : List ℕ). geometry_verdict s c.lay_beside-scene.result) c.as_slice.ensures.value ∙ c.lay_beside-scene.ensures.alike
