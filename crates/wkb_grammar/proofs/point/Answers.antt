-- x, and then y.
use Rattle.std.proofs.Common.{◌≡◌, ◌∙◌, sym, ℕ, Bool, List, Ok, Err}
use Rattle.std.proofs.lemmas.Result.{err_from_is_err_and}
use Rattle.wkb_grammar.specs.declared.Fault.{Fault}
use Rattle.wkb_grammar.specs.Grammar.{outcome, coordinate_at, point_at}
use Rattle.wkb_grammar.proofs.Laws.{followed_stop, followed_next, followed_same}
use Rattle.wkb_grammar.proofs.point.Goals as goal

module _ (s : List ℕ) (little : Bool) (at : ℕ) where
  stops : (f : Fault) → outcome (coordinate_at s little at) ≡ Err f → outcome (point_at s little at) ≡ Err f
  unfolding point_at
  stops f e = followed_stop (coordinate_at s little at) _ f e

  goes_on : (y : ℕ) → outcome (coordinate_at s little at) ≡ Ok y → outcome (point_at s little at) ≡ outcome (coordinate_at s little y)
  unfolding point_at
  goes_on y e =
      followed_next (coordinate_at s little at) _ (λ p. outcome (coordinate_at s little p)) y
      (λ x p. followed_same (coordinate_at s little p) (λ z. record { x = x; y = z })) e

pub returns-in_err-y : goal.returns-in_err-y
returns-in_err-y c =
    let p = err_from_is_err_and c.from_residual.result c.from_residual.ensures.1 in
    rw (p.1, p.2) (sym (stops c.args.s.now c.args.little c.args.at _ (sym c.coordinate.ensures ∙ c.in_err-y.was)))

pub returns : goal.returns
returns c = c.coordinate-2.ensures ∙ sym (goes_on c.args.s.now c.args.little c.args.at c.in_ok-y.y (sym c.coordinate.ensures ∙ c.in_ok-y.was))
