-- The fields of the answer, the ground, and what holds of all portions over it.
use Rattle.std.proofs.Common.{◌∙◌, ap, subst, refl}
use Rattle.flags_vectors.proofs.NoFlagWrong.{with_meaning}
use Rattle.walk.specs.Walked.{WalkAnswer, GroundAfter}
use Rattle.walk.specs.Theorems.{WalkPromised}
use Rattle.karvoiss.specs.Walks.{walk_for_c}
use Rattle.karvoiss.proofs.karvoiss_walk_begin.Goals as goal

pub returns : goal.returns
returns c =
    let a = c.args in
    let s = a.scene.now in
    let e = c.begin.ensures.is in
    let laid = c.begin.new.ground in (
      c.into.ensures ∙ ap walk_for_c e,
      subst (λ (r : WalkAnswer). GroundAfter s a.ground.now laid r) e c.begin.ensures.ground,
      subst (λ (r : WalkAnswer). WalkPromised s a.want_f a.want_g laid r) e c.begin.ensures.promised,
      (with_meaning s a.want_f a.want_g refl).2,
    )
