use Rattle.std.proofs.Common.{◌∙◌, ap}
use Rattle.whole.proofs.Logic.{in_at}
use Rattle.scene.specs.declared.Shape.TheVariants.{Points}
use Rattle.scene_keys.specs.Keyed.{keyed_point}
use Rattle.scene_written.specs.Bytes.{record_bytes}
use Rattle.scene_writing.proofs.Wrote.{wrote_more, object_wrote}
use Rattle.scene_writing.proofs.write_points.Goals as goal

pub point-requires : goal.point-requires
point-requires g c = c.requires.keys _ (in_at c.args.row.now 0 c.loop-k.k-index c.loop-k-test.true)

pub loop-k-preserved : goal.loop-k-preserved
loop-k-preserved g c =
    wrote_more Points keyed_point 0 c.loop-k.invariant c.loop-k-test.true (c.point-in-loop-k.ensures ∙ ap (record_bytes Points) c.point.ensures) c.append-in-loop-k.ensures

pub returns : goal.returns
returns g c = object_wrote Points keyed_point c.args.out.now.items c.append.ensures c.loop-k.invariant c.loop-k-test.false c.push.ensures.items
