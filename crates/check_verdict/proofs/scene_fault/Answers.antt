-- Across the objects, or in either.
use Rattle.std.proofs.Common.{◌≡◌, ℕ, refl, List}
use Rattle.scene.specs.declared.Flaw.{Flaw}
use Rattle.scene.specs.declared.Flaw.TheVariants.{Misplaced, Unpaired, Touching, OddEnd, WrongIa, TouchingAcross}
use Rattle.scene.specs.declared.Scene.{Scene}
use Rattle.check_verdict.specs.Refusals.{fault_in_either, scene_fault_under}
use Rattle.check_verdict.proofs.scene_fault.Goals as goal

unless_across : (s : List ℕ) (sc : Scene) (f : Flaw) → (f ≡ TouchingAcross → ⊥) → scene_fault_under s sc f ≡ fault_in_either s sc f
unless_across s sc Misplaced n = refl
unless_across s sc Unpaired n = refl
unless_across s sc Touching n = refl
unless_across s sc OddEnd n = refl
unless_across s sc WrongIa n = refl
unless_across s sc TouchingAcross n = absurd (n refl)

pub returns-in_default : goal.returns-in_default
returns-in_default c =
    let o = c.args.read in
    let given = c.as_given-in_default.ensures in
    rw (c.fault_in_either.ensures, given.0, given.1, given.2, unless_across o.bytes.now o.scene c.args.flaw c.in_default.not-TouchingAcross)
