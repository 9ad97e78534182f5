use Rattle.std.proofs.Common.{sym, get_or}
use Rattle.whole.proofs.Logic.{in_at}
use Rattle.plane.specs.Plane.{dominating}
use Rattle.scene_keys.specs.Keyed.{GoodEnds}
use Rattle.scene_keys.proofs.Keys.{keyed_key}
use Rattle.scene_writing.specs.Named.{no_ends}
use Rattle.scene_writing.proofs.order.Row.key.Goals as goal

pub returns-then-h : goal.returns-then-h
unfolding dominating
returns-then-h c =
    let g : GoodEnds (get_or c.args.self.ends.now c.args.h.index no_ends) = c.args.self.good _ (in_at c.args.self.ends.now no_ends c.args.h.index c.requires) in
    rw c.if-h.true (sym (keyed_key _ g.left_key))

pub returns-else-h : goal.returns-else-h
unfolding dominating
returns-else-h c =
    let g : GoodEnds (get_or c.args.self.ends.now c.args.h.index no_ends) = c.args.self.good _ (in_at c.args.self.ends.now no_ends c.args.h.index c.requires) in
    rw c.if-h.false (sym (keyed_key _ g.right_key))
