-- The fields of the answer, of which the sentences hold.
use Rattle.std.proofs.Common.{◌≡◌, ◌∙◌, Result, sym, ap, subst, ℕ, List}
use Rattle.scene.specs.declared.Refusal.{Refusal}
use Rattle.summary_window.specs.declared.Window.{Window}
use Rattle.summary_window.specs.declared.InWindow.{InWindow}
use Rattle.summary_window.specs.Window.{answer_of, window_values, BadRight, HitsRight}
use Rattle.karvoiss.specs.declared.KarvoissInWindow.{KarvoissInWindow}
use Rattle.karvoiss.specs.Answer.{in_window_for_c, from_c}
use Rattle.karvoiss.proofs.karvoiss_in_window.Goals as goal

in_fields : (w : Window) (s : List ℕ) {a : Result InWindow Refusal} {x : KarvoissInWindow} → (a ≡ answer_of w s) × BadRight s (window_values a) × HitsRight w s (window_values a)
    → x ≡ in_window_for_c a → (x ≡ in_window_for_c (answer_of w s)) × BadRight s (from_c x) × HitsRight w s (from_c x)
in_fields w s e is =
    (is ∙ ap in_window_for_c e.0, subst (λ (x : KarvoissInWindow). BadRight s (from_c x)) (sym is) e.1, subst (λ (x : KarvoissInWindow). HitsRight w s (from_c x)) (sym is) e.2)

pub returns : goal.returns
returns c = in_fields c.args.window c.args.summaries.now c.in_window.ensures c.into.ensures
