-- Of two numbers, one is odd exactly if the sum is and the other is not, or the reverse.
use Rattle.std.proofs.Common.{ℕ, Bool, not, sym, ap, ◌∙◌}
use Rattle.std.specs.Bool.{beq}
use Rattle.whole.specs.Count.{odd, bit}
use Rattle.sweep_event.proofs.Odd.{odd_rest}
use Rattle.sweep_event.proofs.other_note.Goals as goal

pub returns : goal.returns
unfolding odd
returns c = λ a b sum own.
    c.from.ensures
    ∙ ap (λ (x : Bool). bit (not (beq x (odd c.args.k)))) own
    ∙ ap (λ (n : ℕ). bit (not (beq (odd a) (odd n)))) (sym sum)
    ∙ ap bit (odd_rest a b)
