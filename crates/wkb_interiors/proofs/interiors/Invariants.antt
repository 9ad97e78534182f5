-- So far each segment has its ia.
use Rattle.std.proofs.Common.{◌≡◌, map, take}
use Rattle.plane.specs.Plane.{interior_above}
use Rattle.scene_keys.specs.Keyed.{keyed_segment}
use Rattle.scene_writing.specs.Rows.{segments_in}
use Rattle.wkb_interiors.proofs.interiors.Given as goal

abbrev pub invariant-loop-ends : goal.invariant-loop-ends
invariant-loop-ends l = l.ia.items ≡ map (interior_above (segments_in l.row.ends.now)) (map keyed_segment (take l.ends-index l.row.ends.now))
