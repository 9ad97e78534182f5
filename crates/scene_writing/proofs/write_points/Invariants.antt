use Rattle.scene.specs.declared.Shape.TheVariants.{Points}
use Rattle.scene_keys.specs.Keyed.{keyed_point}
use Rattle.scene_writing.proofs.Wrote.{Wrote}
use Rattle.scene_writing.proofs.write_points.Given as goal

abbrev pub invariant-loop-k : goal.invariant-loop-k
invariant-loop-k g l = Wrote Points keyed_point l.initial.out.items l.row l.k-index l.out.items
