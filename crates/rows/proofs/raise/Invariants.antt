-- With the value in hand at its place, the row is the old one with the new value at k.
use Rattle.std.proofs.Common.{◌≡◌, ◌∷◌, ◌++◌, take, drop}
use Rattle.rows.proofs.raise.Given as goal

abbrev pub invariant-loop-i : goal.invariant-loop-i
invariant-loop-i g l = take l.i l.row ++ l.held ∷ drop l.i l.row ≡ take l.fn.k l.fn.row ++ l.fn.value ∷ drop l.fn.k l.fn.row
