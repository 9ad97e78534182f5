-- Half of the halfsegments are left ones.
use Rattle.std.proofs.Common.{arith, sym}
use Rattle.wkb_writing.proofs.OneByOne.{count_points}
use Rattle.wkb_writing.proofs.Halved.{count_halved}
use Rattle.wkb_writing.proofs.parts.count.Goals as goal

pub returns-then-has_segments : goal.returns-then-has_segments
returns-then-has_segments c = omega (arith, count_halved c.args.o.bytes.now c.args.o.layout c.requires (sym c.if-has_segments.ensures))

pub returns-else-has_segments : goal.returns-else-has_segments
returns-else-has_segments c = sym (count_points c.args.o.bytes.now c.args.o.layout (sym c.if-has_segments.ensures))
