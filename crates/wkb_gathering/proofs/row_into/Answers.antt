-- A segment from the point before goes in, or there is none.
use Rattle.std.proofs.Common.{[], ◌∷◌, ◌∙◌}
use Rattle.std.proofs.lemmas.Result.{err_from_is_err_and}
use Rattle.wkb_gathering.proofs.Walking.{along_goes_on, along_stops}
use Rattle.wkb_gathering.proofs.row_into.Goals as goal
use Rattle.wkb_gathering.proofs.row_into.Goals.{in-Some+in_ok-put, in_default}

pub returns-in_err-put : goal.returns-in_err-put
returns-in_err-put g c =
    let a = c.args in
    let p = err_from_is_err_and c.from_residual.result c.from_residual.ensures.1 in
    rw p.1
    (along_stops a.s.now a.little a.n a.from a.row.now c.loop-test.true c.loop.invariant c.key-next.result c.key-next.ensures (c.in-Some.segment ∷ []) c.in-Some.ensures g.row.ROOM
    c.in_err-put.ensures.full)

pub loop-preserved : goal.loop-preserved
loop-preserved g c =
    let a = c.args in
    elim c.match-link.branch [
      | in-Some+in_ok-put w ↦ along_goes_on a.s.now a.little a.n a.from a.row.now c.loop-test.true c.loop.invariant c.key-next.result c.key-next.ensures (w.in-Some.segment ∷ []) w.in-Some.ensures c.match-link.row (w.row-is ∙ w.in_ok-put.ensures.put)
      | in_default w ↦ along_goes_on a.s.now a.little a.n a.from a.row.now c.loop-test.true c.loop.invariant c.key-next.result c.key-next.ensures [] w.in_default.ensures c.match-link.row w.row-is
    ]
