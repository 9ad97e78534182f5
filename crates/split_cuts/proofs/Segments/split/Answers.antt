use Rattle.split_cuts.proofs.Listing.{good_at}
use Rattle.split_cuts.proofs.Segments.split.Goals as goal

pub cuts_of-requires : goal.cuts_of-requires
cuts_of-requires c = good_at c.args.self.list.now c.args.self.good c.loop-whole.whole-index c.loop-whole-test.true
