use Rattle.scene.specs.declared.Shape.TheVariants.{Region}
use Rattle.scene_writing.specs.Named.{edge_in}
use Rattle.scene_writing.proofs.Wrote.{Wrote}
use Rattle.scene_writing.proofs.write_region_in.Given as goal

abbrev pub invariant-loop-h : goal.invariant-loop-h
invariant-loop-h g l = Wrote Region (edge_in l.row.ends.now l.ia) l.initial.out.items l.order l.h-index l.out.items
