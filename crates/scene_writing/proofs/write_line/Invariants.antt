use Rattle.scene.specs.declared.Shape.TheVariants.{Line}
use Rattle.scene_writing.specs.Named.{half_in}
use Rattle.scene_writing.proofs.Wrote.{Wrote}
use Rattle.scene_writing.proofs.write_line.Given as goal

abbrev pub invariant-loop-h : goal.invariant-loop-h
invariant-loop-h g l = Wrote Line (half_in l.row.ends.now) l.initial.out.items l.h-items l.h-index l.out.items
