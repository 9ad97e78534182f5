-- The sentences hold of the definition's answer.
use Rattle.std.proofs.Common.{Result, sym, subst}
use Rattle.scene.specs.declared.Refusal.{Refusal}
use Rattle.summary_window.specs.declared.InWindow.{InWindow}
use Rattle.summary_window.specs.Window.{window_values, BadRight, HitsRight}
use Rattle.summary_window.proofs.Told.{right}
use Rattle.summary_window.proofs.in_window.Goals as goal

pub returns : goal.returns
returns c =
    let w = c.args.w in
    let s = c.args.s.now in
    let r = subst (λ (x : Result InWindow Refusal). BadRight s (window_values x) × HitsRight w s (window_values x)) (sym c.answer.ensures) (right w s) in
    (c.answer.ensures, r.0, r.1)
