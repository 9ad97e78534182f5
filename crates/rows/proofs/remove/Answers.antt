use Rattle.std.proofs.Common.{◌≡◌, ◌∙◌, length, arith}
use Rattle.std.proofs.lemmas.Grind.{common_steps}
use Rattle.arrayvec.proofs.ArrayVecLemmas.{items-with_items}
use Rattle.rows.proofs.Closed.{uncovered}
use Rattle.rows.proofs.remove.Goals as goal

pub returns-clause-items : goal.returns-clause-items
returns-clause-items g c =
    let v = c.args.row.now in
    let row = c.lower.new.row in
    let same : length row ≡ length v.items = grind (arith, common_steps) in
    let left = uncovered row v.items c.args.k c.index-as_slice-k.result c.requires same (rw (c.as_mut_slice.ensures.value) at c.lower.ensures) in
    let read = items-with_items v row same in
    c.pop.ensures.rest ∙ rw read left
