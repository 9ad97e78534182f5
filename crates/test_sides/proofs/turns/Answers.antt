-- Points in range may be asked as they are: coordinates in range are within the doubled range.
use Rattle.plane.proofs.Machine.{in_doubled}
use Rattle.test_sides.proofs.turns.Goals as goal

pub turn_from-requires : goal.turn_from-requires
turn_from-requires c = (in_doubled c.args.a c.requires.0, in_doubled c.args.b c.requires.1, in_doubled c.args.c c.requires.2)
