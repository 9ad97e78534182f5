use Rattle.whole.proofs.Logic.{sorted_nil}
use Rattle.wkb_rows.proofs.OrderedRow.new.Goals as goal

pub invariant_of-result : goal.invariant_of-result
invariant_of-result g c = rw c.new.ensures sorted_nil
