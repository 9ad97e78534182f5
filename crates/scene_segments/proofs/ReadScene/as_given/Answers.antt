use Rattle.std.proofs.Common.{sym, subst}
use Rattle.scene.specs.Read.{IsObject}
use Rattle.scene.proofs.Taken.{taken_scene}
use Rattle.scene_segments.proofs.ReadScene.as_given.Goals as goal

pub invariant_of-result : goal.invariant_of-result
invariant_of-result c =
    let o = c.args.self in
    let taken = taken_scene o.bytes.now o.scene o.read in
    record {
      own_read = subst (IsObject o.bytes.now) (sym c.given_first.ensures) taken.first_read;
      other_read = subst (IsObject o.bytes.now) (sym c.given_second.ensures) taken.second_taken.read;
    }
