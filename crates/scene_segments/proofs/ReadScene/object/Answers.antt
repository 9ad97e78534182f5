use Rattle.std.proofs.Common.{sym, subst, Bool, true, false}
use Rattle.std.specs.Prelude.{cond}
use Rattle.scene.specs.declared.Layout.{Layout}
use Rattle.scene.specs.Read.{IsObject}
use Rattle.scene.proofs.Taken.{taken_scene, objects_read}
use Rattle.scene_segments.proofs.ReadScene.object.Goals as goal

either : (P : Layout → Type 0) (first : Bool) (f g : Layout) → P f × P g → P (cond first f g)
either P true f g both = both.0
either P false f g both = both.1

pub invariant_of-result : goal.invariant_of-result
invariant_of-result c =
    let o = c.args.self in
    record {
      read =
          subst (IsObject o.bytes.now) (sym c.object.ensures)
          (either (IsObject o.bytes.now) c.args.first o.scene.f o.scene.g (objects_read (taken_scene o.bytes.now o.scene o.read)));
    }
