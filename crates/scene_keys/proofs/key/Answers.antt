use Rattle.std.proofs.Common.{◌∙◌, ap, ap₂, ◌+◌, ◌*◌, rules}
use mir.Facts.{to_z-of_z}
use Rattle.plane.specs.Plane.{limit}
use Rattle.plane.proofs.Machine.{Held, within_x, within_y}
use Rattle.scene_keys.specs.Keyed.{raised, room, key}
use Rattle.scene_keys.proofs.key.Goals as goal

pub raised-requires : goal.raised-requires
raised-requires c = let h : Held c.args.p = search rules in rw (to_z-of_z h.x_fits) (within_x limit c.args.p c.requires)

pub raised-requires-2 : goal.raised-requires-2
raised-requires-2 c = let h : Held c.args.p = search rules in rw (to_z-of_z h.y_fits) (within_y limit c.args.p c.requires)

pub returns : goal.returns
unfolding key
returns c =
    let h : Held c.args.p = search rules in
    ap₂ (λ x y. room * x + y) (c.raised.ensures.0 ∙ ap raised (to_z-of_z h.x_fits)) (c.raised-2.ensures.0 ∙ ap raised (to_z-of_z h.y_fits))
