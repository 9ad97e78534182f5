-- `areas::sums::shoelace` meets its contract: against the origin, the side value is the shoelace value.
use Rattle.std.proofs.Common.{arith, ◌*◌, ◌∙◌}
use Rattle.plane.specs.Plane.{limit}
use Rattle.plane.proofs.Machine.{is_within, left_in_doubled, right_in_doubled}
use Rattle.areas.proofs.Adding.{origin, origin_side, back_as, value_small}
use Rattle.areas.proofs.sums.shoelace.Goals as goal

pub side-requires : goal.side-requires
side-requires c = (is_within (2 * limit) origin (omega arith) (omega arith), left_in_doubled c.args.t c.requires, right_in_doubled c.args.t c.requires)

pub returns : goal.returns
returns c = let t = c.args.t in back_as (c.side.ensures ∙ origin_side t) (value_small t c.requires)
