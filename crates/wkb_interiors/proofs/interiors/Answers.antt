use Rattle.whole.proofs.Logic.{in_at}
use Rattle.scene_writing.specs.Named.{no_ends}
use Rattle.wkb_interiors.proofs.interiors.Goals as goal

pub interior_above-requires : goal.interior_above-requires
interior_above-requires c = (c.args.row.good _ (in_at c.args.row.ends.now no_ends c.loop-ends.ends-index c.loop-ends-test.true), c.requires)
