use Rattle.std.proofs.lemmas.Result.{err_from_is_err_and}
use Rattle.wkb_grammar.specs.Grammar.{ring_at}
use Rattle.wkb_rows.specs.Rows.{ends_cmp}
use Rattle.wkb_gathering.specs.Keys.{row_ends}
use Rattle.wkb_gathering.proofs.Walking.{each_goes_on, each_stops}
use Rattle.wkb_gathering.proofs.rings_into.Goals as goal

pub returns-in_err-at : goal.returns-in_err-at
returns-in_err-at g c =
    let a = c.args in
    let p = err_from_is_err_and c.from_residual.result c.from_residual.ensures.1 in
    rw p.1 (each_stops ends_cmp row_ends (ring_at a.s.now a.little) a.n a.from a.row.now c.loop-test.true c.loop.invariant g.row.ROOM c.in_err-at.ensures)

pub loop-preserved : goal.loop-preserved
loop-preserved g c =
    let a = c.args in
    each_goes_on ends_cmp row_ends (ring_at a.s.now a.little) a.n a.from a.row.now c.loop-test.true c.loop.invariant c.in_ok-at.at c.ring_into.new.row c.in_ok-at.ensures
