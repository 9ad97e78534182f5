use Rattle.std.proofs.Common.{arith}
use Rattle.whole.proofs.Logic.{in_at}
use Rattle.scene_writing.specs.Named.{no_half}
use Rattle.wkb_interiors.proofs.guess.guess.Goals as goal

pub key-key-requires : goal.key-key-requires
key-key-requires c = c.requires _ (in_at c.args.order.now no_half c.loop-h.h-index c.loop-h-test.true)

pub bounds-ia-i : goal.bounds-ia-i
bounds-ia-i c = omega (arith, c.requires _ (in_at c.args.order.now no_half c.loop-h.h-index c.loop-h-test.true), c.args.row.few)

pub has_odd_under-requires : goal.has_odd_under-requires
has_odd_under-requires c = c.requires _ (in_at c.args.order.now no_half c.loop-h.h-index c.loop-h-test.true)

pub bounds-ia-i-in-loop-h : goal.bounds-ia-i-in-loop-h
bounds-ia-i-in-loop-h c = omega (arith, c.requires _ (in_at c.args.order.now no_half c.loop-h.h-index c.loop-h-test.true), c.args.row.few)
