-- The regions end evenly where no condition finds a fault. What is noted is noted in lent bytes too.
use Rattle.std.proofs.Common.{◌≡◌, ◌∙◌, sym, subst, false, not, ◌&&◌, T}
use Rattle.whole.proofs.Deciding.{no}
use Rattle.scene.specs.declared.Shape.{Shape}
use Rattle.scene.specs.declared.Shape.TheVariants.{Points}
use Rattle.scene.specs.declared.Scene.{Scene}
use Rattle.scene.specs.Conditions.{has_segments}
use Rattle.sweep_laws.proofs.GoesOn.{regions_end_evenly}
use Rattle.sweep_notes.proofs.Kept.{once_laid}
use Rattle.sweep.proofs.accepts.Goals as goal

pub returns-then-not-regions_end_evenly : goal.returns-then-not-regions_end_evenly
returns-then-not-regions_end_evenly c =
    let r = c.args.ordered.read in
    record {
      is = (no (λ pass. subst T c.if-not-regions_end_evenly.true (c.regions_end_evenly.ensures.complete (regions_end_evenly r.bytes.now r.scene r.read c.args.ordered.in_order pass))), λ t. absurd t);
      lent = once_laid r.read (λ t. absurd t);
    }

-- F has no points, or G no segments
no_points : (sc : Scene) → (not (has_segments sc.f.shape) && has_segments sc.g.shape) ≡ false → sc.f.shape ≡ Points → T (has_segments sc.g.shape) → ⊥
no_points sc none points =
    subst T (subst (λ (k : Shape). (not (has_segments k) && has_segments sc.g.shape) ≡ false) points none)

pub returns-else-has_points-clause-lent : goal.returns-else-has_points-clause-lent
returns-else-has_points-clause-lent c =
    let r = c.args.ordered.read in
    once_laid r.read (λ t. record {
      of_segments = c.run_events.ensures.1 t;
      of_points = λ points others. absurd (no_points r.scene (sym c.has_points.ensures ∙ c.if-has_points.false) points others);
    })
