use Rattle.whole.proofs.Logic.{in_at}
use Rattle.scene_writing.specs.Named.{no_ends}
use Rattle.wkb_interiors.proofs.guess.Span.passes_under.Goals as goal

pub passes_under-requires : goal.passes_under-requires
passes_under-requires c = (c.args.row.good _ (in_at c.args.row.ends.now no_ends c.args.self.index c.if-i-row.true), c.requires)
