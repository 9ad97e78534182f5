-- The fields of the answer, and that a state that comes back is the same again.
use Rattle.std.proofs.Common.{◌∙◌, sym, ap}
use mathlib.Core.Bool.{cond}
use borrow.Author.Tests.{eq-eqb}
use Rattle.karvoiss.specs.declared.KarvoissWalk.{KarvoissWalk}
use Rattle.karvoiss.specs.Walks.{walk_for_c, state_of, portion_if, portion_for_c}
use Rattle.karvoiss.proofs.Walks.{portion_back}
use Rattle.karvoiss.proofs.karvoiss_walk_portion.Goals as goal

pub returns-in-Some : goal.returns-in-Some
returns-in-Some c =
    let g = c.args.ground.now in
    let w = c.args.walk in
    let n = c.args.events in
    let over = c.into.ensures ∙ ap walk_for_c (c.portion.ensures ∙ ap (λ x. portion_if g x n) (sym (sym c.state.ensures ∙ c.in-Some.is))) in
    let all = over ∙ sym (ap (λ b. cond b (walk_for_c (portion_if g (state_of w) n)) w) (eq-eqb w.number 0 c.if-walk-ne0.false)) in
    (all, λ v e. all ∙ ap (λ (x : KarvoissWalk). portion_for_c g x n) e ∙ portion_back v g n)
