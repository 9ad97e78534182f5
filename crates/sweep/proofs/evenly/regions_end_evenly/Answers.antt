-- Both objects of a scene that has been read were asked.
use Rattle.std.proofs.Common.{◌≡◌, ℕ, Bool, true, false, List, T, ap₂, ◌∙◌, subst}
use Rattle.whole.specs.Decides.{Decides}
use Rattle.whole.proofs.Deciding.{holds}
use Rattle.scene.specs.declared.Layout.{Layout}
use Rattle.scene.specs.declared.Scene.{Scene}
use Rattle.scene.specs.Conditions.{is_region, out_of_order}
use Rattle.sweep_laws.specs.Evenly.{EndsEvenly, RegionsEndEvenly}
use Rattle.sweep.proofs.evenly.regions_end_evenly.Goals as goal

abbrev IsEven : List ℕ → Layout → Type 0
IsEven s l = T (is_region l.shape) → EndsEvenly s l

both : (s : List ℕ) (sc : Scene) → IsEven s sc.f → IsEven s sc.g → RegionsEndEvenly s sc
both s sc f g true = f
both s sc f g false = g

-- the answer of the object that was asked is the scene's
of_scene : {s t : List ℕ} {l m : Layout} → (s ≡ t) × (l ≡ m) → {even : Bool} → Decides (IsEven s l) even → Decides (IsEven t m) even
of_scene {s} {t} {l} {m} is {even} d = subst (λ (l : Layout). Decides (IsEven t l) even) is.1 (subst (λ (s : List ℕ). Decides (IsEven s l) even) is.0 d)

pub is_even-requires : goal.is_even-requires
is_even-requires c = ap₂ out_of_order c.object.ensures.0 c.object.ensures.1 ∙ c.args.ordered.in_order true

pub is_even-requires-then-is_even : goal.is_even-requires-then-is_even
is_even-requires-then-is_even c = ap₂ out_of_order c.object-then-is_even.ensures.0 c.object-then-is_even.ensures.1 ∙ c.args.ordered.in_order false

pub returns-then-is_even : goal.returns-then-is_even
returns-then-is_even c =
    let f = holds (of_scene c.object.ensures c.is_even.ensures) c.if-is_even.true in
    let g = of_scene c.object-then-is_even.ensures c.is_even-then-is_even.ensures in
    record { sound = λ t. both c.args.ordered.read.bytes.now c.args.ordered.read.scene f (g.sound t); complete = λ p. g.complete (p false) }

pub returns-else-is_even : goal.returns-else-is_even
returns-else-is_even c = record { sound = λ t. absurd (subst T c.if-is_even.false t); complete = λ p. (of_scene c.object.ensures c.is_even.ensures).complete (p true) }
