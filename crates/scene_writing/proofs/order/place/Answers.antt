use Rattle.std.proofs.Common.{◌<◌, length}
use Rattle.whole.proofs.Logic.{is_true}
use Rattle.scene_writing.specs.Named.{earlier_in, no_half}
use Rattle.scene_writing.proofs.Earlier.{earlier_trans}
use Rattle.scene_writing.proofs.Rising.{stops_between}
use Rattle.scene_writing.proofs.order.place.Goals as goal

pub returns-then-rises : goal.returns-then-rises
returns-then-rises c =
    let row = c.args.row.ends.now in
    stops_between (earlier_in row) (λ h. h.index < length row) (earlier_trans row c.args.row.good) no_half c.args.h c.requires.h_in c.requires.order_in
    (c.requires.rising (is_true c.args.rises c.if-rises.true)) c.search.ensures
