-- A guess that is right is the quotient, and leaves nothing.
use Rattle.std.proofs.Common.{◌≡◌, ◌*◌, ◌/◌, ◌%◌, ◌<◌, refl, ℕ, Some, None, ap, sym, ◌∙◌}
use Rattle.std.specs.Prelude.{cond, eqb}
use Rattle.std.proofs.Math.Nat.{mul-div_cancel}
use native.Mathlib.Nat.{mul-mod_left}
use borrow.Author.Tests.{eq-eqb}
use Rattle.split_crossing.proofs.times_in.Goals as goal

guessed : (g change before : ℕ) → 0 < change → g * change ≡ before → Some g ≡ cond (eqb (before % change) 0) (Some (before / change)) None
guessed g change before h e =
    let none = eq-eqb (before % change) 0 (ap (λ m. m % change) (sym e) ∙ mul-mod_left g change) in
    let all = ap (λ m. m / change) (sym e) ∙ mul-div_cancel g h in
    rw (none, all) refl

pub returns-then-guess-change : goal.returns-then-guess-change
returns-then-guess-change c = guessed c.likely-guess.result c.args.change c.args.before c.requires.0 c.if-guess-change.true
