use Rattle.std.proofs.Common.{◌∙◌, rules}
use Rattle.std.proofs.lemmas.Int.{to_z-of_z}
use Rattle.std.proofs.Common.{w32}
use Rattle.plane.proofs.Equal.{point_eq}
use Rattle.scene_keys.specs.Keyed.{keyed_point}
use Rattle.scene_keys.proofs.point.Goals as goal

pub returns : goal.returns
unfolding keyed_point
returns c =
    point_eq (to_z-of_z w32 c.lowered.result (search rules) ∙ c.lowered.ensures) (to_z-of_z w32 c.lowered-2.result (search rules) ∙ c.lowered-2.ensures)
