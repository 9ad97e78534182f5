use Rattle.plane.proofs.Machine.{turn_asks}
use Rattle.scene_segments.proofs.apart.is_off.Goals as goal

pub turns-requires : goal.turns-requires
turns-requires c = turn_asks c.args.t c.args.p c.requires.0 c.requires.1
