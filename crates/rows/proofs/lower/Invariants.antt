-- Those from i on have moved up to the value in hand; the first i stand as they did.
use Rattle.std.proofs.Common.{◌≡◌, ◌≤◌, [], ◌∷◌, ◌++◌, take, drop}
use Rattle.rows.proofs.lower.Given as goal

abbrev pub invariant-loop-i : goal.invariant-loop-i
invariant-loop-i g l = record {
  from : l.fn.k ≤ l.i;
  below : take l.i l.row ≡ take l.i l.fn.row;
  moved : l.held ∷ drop l.i l.row ≡ drop l.i l.fn.row ++ l.fn.value ∷ [];
}
