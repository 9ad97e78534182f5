-- Reading, then 10 to 15, each of which may refuse.
use Rattle.std.proofs.Common.{◌≡◌, ◌∙◌, sym, ℕ, List, [], Ok, Err}
use Rattle.scene.specs.declared.Scene.{Scene}
use Rattle.scene.specs.declared.Refusal.{Refusal}
use Rattle.scene.specs.Read.{IsScene}
use Rattle.scene.specs.Conditions.{scene_rules, check_scene}
use Rattle.scene.proofs.Outcomes.{handed_on}
use Rattle.check_verdict.specs.Refusals.{geometry_verdict}
use Rattle.check_verdict.proofs.Verdicts.{check_refused, check_read}
use Rattle.check_verdict.proofs.CheckedMeans.{with_meaning}
use Rattle.check_verdict.proofs.check_scene.Goals as goal

module _ (s : List ℕ) (sc : Scene) (e : IsScene s sc) where
  at_fault : (r : Refusal) → geometry_verdict s sc ≡ Err r → check_scene s ≡ Err r
  unfolding check_scene
  at_fault r q = rw (check_read [] [] s sc e, q)

  taken : geometry_verdict s sc ≡ Ok tt → check_scene s ≡ Ok sc
  unfolding check_scene
  taken q = rw (check_read [] [] s sc e, q)

pub returns-in_err-scene : goal.returns-in_err-scene
unfolding check_scene
returns-in_err-scene c =
    let s = c.args.s.now in
    with_meaning s (handed_on c.from_residual.result c.from_residual.ensures.1 ∙ sym (check_refused (scene_rules [] []) s c.in_err-scene.field-0.0 (sym c.read_scene.ensures ∙ c.in_err-scene.was)))

pub invariant_of-geometry_verdict : goal.invariant_of-geometry_verdict
invariant_of-geometry_verdict c = record { read = sym c.read_scene.ensures ∙ c.in_ok-scene.was }

pub returns-in_err-geometry_verdict : goal.returns-in_err-geometry_verdict
returns-in_err-geometry_verdict c =
    let s = c.args.s.now in
    let r = c.from_residual-in_err-geometry_verdict in
    with_meaning s (handed_on r.result r.ensures.1
    ∙ sym (at_fault s c.in_ok-scene.scene (sym c.read_scene.ensures ∙ c.in_ok-scene.was) c.in_err-geometry_verdict.field-0.0 (sym c.geometry_verdict.ensures ∙ c.in_err-geometry_verdict.was)))

pub returns : goal.returns
returns c =
    let s = c.args.s.now in
    with_meaning s (sym (taken s c.in_ok-scene.scene (sym c.read_scene.ensures ∙ c.in_ok-scene.was) (sym c.geometry_verdict.ensures ∙ c.in_ok-geometry_verdict.was)))
