-- Reading one item after another from a place on: the place after the last, or the first fault. The values are left out, as `outcome` leaves them out.
use Rattle.std.specs.Prelude.{Result, Ok, Err, ℕ, zero, suc, ◌≡◌}
use Rattle.wkb_grammar.specs.declared.Fault.{Fault}

-- where an item that begins at a place ends, or what is wrong with it
abbrev pub Reading : Type 0
Reading = ℕ → Result ℕ Fault

-- what reading an item may answer is what is read there
abbrev pub Reads : (ℕ → Result ℕ Fault → Type 0) → Reading → Type 0
Reads Answers read = (at : ℕ) (r : Result ℕ Fault) → Answers at r → r ≡ read at

-- and then, from where it ended
abbrev pub onward : Result ℕ Fault → Reading → Result ℕ Fault
onward (Ok at) later = later at
onward (Err f) later = Err f

-- n items
abbrev pub in_turn : Reading → ℕ → Reading
in_turn read zero at = Ok at
in_turn read (suc n) at = onward (read at) (in_turn read n)
