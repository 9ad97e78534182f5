-- The parity of the entries so far.
use Rattle.std.proofs.Common.{◌≡◌, ltb, take}
use Rattle.whole.proofs.Parity.{parity}
use Rattle.sweep_event.proofs.has_odd_before.Given as goal

abbrev pub invariant-loop-e : goal.invariant-loop-e
invariant-loop-e l = l.odd ≡ parity (λ x. ltb x l.start) (take l.e-index l.entries)
