use Rattle.std.proofs.Common.{◌∙◌, sym, subst, T, arith}
use Rattle.plane.specs.declared.Point.{Point}
use Rattle.plane.specs.Plane.{in_range}
use Rattle.scene_segments.proofs.Elements.{fits}
use Rattle.scene_keys.proofs.Elements.{point_is, point_in_range}
use Rattle.scene_keys.proofs.key_of.Goals as goal

pub point_of-requires : goal.point_of-requires
point_of-requires c = let a = c.args in omega (arith, c.requires, fits a.o.bytes.now a.o.layout a.o.read a.i c.if-i-o.true)

pub key-requires : goal.key-requires
key-requires c =
    let a = c.args in
    subst (λ (v : Point). T (in_range v)) (sym (c.point_of.ensures ∙ point_is a.o.bytes.now a.o.layout a.i c.requires)) (point_in_range a.o.bytes.now a.o.layout a.o.read a.i c.if-i-o.true)
