use Rattle.std.proofs.Common.{◌≡◌, Ok, List, ℕ, ap, sym, subst, ◌∙◌}
use Rattle.whole.specs.Decides.{Decides}
use Rattle.scene.specs.Read.{IsScene}
use Rattle.check_verdict.specs.Refusals.{Verdict, geometry_verdict}
use Rattle.check_alone.proofs.is_sound.Goals as goal

pub invariant_of-is_sound : goal.invariant_of-is_sound
invariant_of-is_sound g c = record { read = subst (λ (s : List ℕ). IsScene s c.lay_beside-scene.result) (sym c.as_slice.ensures.value) c.lay_beside-scene.ensures.read }

pub returns-clause-decides : goal.returns-clause-decides
returns-clause-decides g c =
    subst (λ (v : Verdict). Decides (v ≡ Ok tt) c.is_sound-sound.result)
    (ap (λ (s : List ℕ). geometry_verdict s c.lay_beside-scene.result) c.as_slice.ensures.value ∙ c.lay_beside-scene.ensures.alike) c.is_sound-sound.ensures
