use Rattle.std.proofs.Common.{arith}
use Rattle.whole.proofs.Logic.{in_at}
use Rattle.scene_writing.specs.Named.{no_ends}
use Rattle.scene_writing.proofs.order.rights.Goals as goal

pub number-requires : goal.number-requires
number-requires c = ((c.args.row.good _ (in_at c.args.row.ends.now no_ends c.loop-k.k c.loop-k-test.true)).right_key, omega (arith, c.args.row.few, c.loop-k-test.true))
