use Rattle.scene.proofs.Taken.{taken_scene, objects_read}
use Rattle.scene_segments.proofs.ReadScene.pair.Goals as goal

pub invariant_of-result : goal.invariant_of-result
invariant_of-result c =
    let o = c.args.self in
    let read = objects_read (taken_scene o.bytes.now o.scene o.read) in
    record { own_read = read.0; other_read = read.1 }
