use Rattle.std.proofs.Common.{◌∙◌}
use Rattle.plane.specs.Plane.{turn, side}
use Rattle.plane.proofs.Compared.{same_turns}
use Rattle.plane.proofs.turns.Goals as goal

pub returns : goal.returns
unfolding turn
returns c = (rw c.turn_from.ensures at c.eq.ensures) ∙ same_turns (side c.args.a c.args.b c.args.c) c.args.way
