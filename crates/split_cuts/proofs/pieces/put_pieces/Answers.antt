-- The last piece is put, or one more; where the row is full before that, there are too many.
use Rattle.std.proofs.Common.{sym, ap, ◌≡◌, ◌∙◌, ◌++◌, [], ◌∷◌, suc, ◌+◌, ◌-◌, length, arith}
use Rattle.std.proofs.lemmas.Result.{err_from_is_err_and}
use Rattle.plane.proofs.Compared.{same_points}
use Rattle.split_pieces.specs.Pieces.{between, pieces_from}
use Rattle.split_cuts.specs.Split.{with_ia}
use Rattle.split_cuts.proofs.Steps.{onward, piece_last, piece_more, some_piece, over, last_put}
use Rattle.split_cuts.proofs.pieces.put_pieces.Goals as goal

pub returns-then-eq : goal.returns-then-eq
returns-then-eq c =
    let t = c.args.whole.segment in
    let cuts = c.args.cuts.now in
    let ia = c.args.whole.ia in
    let m = length cuts - (c.loop.counter + 1) in
    let left : length cuts - c.loop.counter ≡ suc m = omega arith in
    let p = c.loop.p in
    last_put c.args.row.now.items c.loop.row.items ia (pieces_from (length cuts) cuts t.left t.right) (with_ia ia (pieces_from (suc m) cuts p t.right))
    (rw left at c.loop.invariant) (record { segment = between p t.right; ia = ia })
    (piece_last m cuts p t.right c.next_cut-q.result ia c.next_cut-q.ensures (sym (same_points c.next_cut-q.result t.right) ∙ sym c.eq.ensures ∙ c.if-eq.true)) c.put.new.row.items c.put.result c.put.ensures

pub returns-in_err-put : goal.returns-in_err-put
returns-in_err-put c =
    let t = c.args.whole.segment in
    let cuts = c.args.cuts.now in
    let ia = c.args.whole.ia in
    let p = err_from_is_err_and c.from_residual.result c.from_residual.ensures.1 in
    rw (p.1)
    (over c.args.row.now.items c.loop.row.items ia (pieces_from (length cuts) cuts t.left t.right) (with_ia ia (pieces_from (length cuts - c.loop.counter) cuts c.loop.p t.right))
    c.loop.invariant c.in_err-put.ensures (some_piece (length cuts - c.loop.counter) cuts c.loop.p t.right ia))

pub loop-preserved : goal.loop-preserved
loop-preserved c =
    let t = c.args.whole.segment in
    let cuts = c.args.cuts.now in
    let ia = c.args.whole.ia in
    let m = length cuts - (c.loop.counter + 1) in
    let left : length cuts - c.loop.counter ≡ suc m = omega arith in
    let p = c.loop.p in
    let q = c.next_cut-q.result in
    onward (c.args.row.now.items ++ with_ia ia (pieces_from (length cuts) cuts t.left t.right)) c.loop.row.items (record { segment = between p q; ia = ia } ∷ []) (with_ia ia (pieces_from m cuts q t.right))
    (rw left at c.loop.invariant ∙ ap (λ l. c.loop.row.items ++ l) (piece_more m cuts p t.right q ia c.next_cut-q.ensures (sym (same_points q t.right) ∙ sym c.eq.ensures ∙ c.if-eq.false))) c.in_ok-put.ensures
