-- An element's record is within the bytes, so the next one's offset is.
use Rattle.std.proofs.Common.{arith}
use Rattle.scene_segments.proofs.Elements.{fits}
use Rattle.scene_keys.proofs.Cursor.advance.Goals as goal

pub overflow_add-self-2 : goal.overflow_add-self-2
overflow_add-self-2 c = let z = c.args.self.now in omega (arith, z.stands, c.size.ensures, fits z.object.bytes.now z.object.layout z.object.read z.index c.requires)
