-- The pass has come to an element, and the one before it stands at the offset, whatever bytes the test speaks of.
use Rattle.std.proofs.Common.{◌≡◌, ◌-◌, ◌<◌, ℕ, List}
use Rattle.scene.specs.Read.{place}
use Rattle.check_conditions.specs.Ordered.{TellsOrder}
use Rattle.check_conditions.proofs.Pass.{Reached}
use Rattle.check_conditions.proofs.order.ascends.Given as goal

abbrev pub invariant-loop : goal.invariant-loop
invariant-loop g l =
    record {
      after_first : 0 < l.counter;
      here : l.at ≡ place l.fn.l (l.counter - 1);
      reached : (s : List ℕ) → TellsOrder l.fn.l s (λ at next r. g.F.Fn.post l.in_order (at, (next, tt)) r) → Reached s l.fn.l l.at l.counter;
    }
