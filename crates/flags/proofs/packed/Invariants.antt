-- What the loop of `packed` keeps: the number is the vector of the flags that it has passed, the last ones.
use Rattle.std.proofs.Common.{◌≡◌, drop, length}
use Rattle.flags.specs.Flags.{pack}
use Rattle.flags.proofs.packed.Given as goal

abbrev pub invariant-loop-k : goal.invariant-loop-k
invariant-loop-k g l = record { vector_is : l.vector ≡ pack (drop l.k l.flags); every : length l.flags ≡ g.row.N }
