-- What is left, from here, comes to what the whole does.
use Rattle.std.proofs.Common.{◌≡◌, ◌-◌}
use Rattle.wkb_scan.specs.InTurn.{Reads, Reading, in_turn}
use Rattle.wkb_scan.proofs.many.Given as goal

abbrev pub invariant-loop : goal.invariant-loop
invariant-loop g l = (read : Reading) → Reads (λ at r. g.F.Fn.post l.item (at, tt) r) read → in_turn read l.n l.from ≡ in_turn read (l.n - l.counter) l.at
