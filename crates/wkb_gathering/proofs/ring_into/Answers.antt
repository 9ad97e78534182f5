-- Where a ring was taken, its count is there, and its points were taken.
use Rattle.std.proofs.Common.{◌+◌, ap, sym, ◌∙◌, subst, arith}
use Rattle.wkb_grammar.specs.Grammar.{many, point_at}
use Rattle.wkb_rows.specs.Rows.{ends_cmp}
use Rattle.wkb_gathering.specs.Keys.{row_ends}
use Rattle.wkb_gathering.specs.Gathers.{put_all, Puts}
use Rattle.wkb_gathering.proofs.Parts.{ring_there, ring_is, ring_points}
use Rattle.wkb_gathering.proofs.ring_into.Goals as goal

pub word-requires : goal.word-requires
word-requires g c = ring_there c.args.s.now c.args.little c.args.at c.requires

pub overflow_add-at : goal.overflow_add-at
overflow_add-at g c = omega (arith, ring_there c.args.s.now c.args.little c.args.at c.requires)

pub row_into-requires : goal.row_into-requires
row_into-requires g c = (omega arith, rw c.word.ensures (ring_points c.args.s.now c.args.little c.args.at c.requires))

pub returns : goal.returns
returns g c =
    let a = c.args in
    subst (λ q. Puts g.row.ROOM (put_all ends_cmp row_ends q a.row.now) c.row_into.result c.row_into.new.row)
    (ap (λ m. many (point_at a.s.now a.little) m (a.at + 4)) c.word.ensures ∙ sym (ring_is a.s.now a.little a.at c.requires)) c.row_into.ensures
