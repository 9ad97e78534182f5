use Rattle.whole.proofs.Logic.{in_at}
use Rattle.scene_writing.specs.Named.{no_ends}
use Rattle.scene_writing.proofs.order.Row.half.Goals as goal

pub segment-requires : goal.segment-requires
segment-requires c = c.args.self.good _ (in_at c.args.self.ends.now no_ends c.args.h.index c.requires)
