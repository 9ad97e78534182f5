use Rattle.std.proofs.Common.{arith, ap, length}
use Rattle.split_cuts.specs.Listed.{segments_of}
use Rattle.split_cuts.proofs.Steps.{enough}
use Rattle.split.proofs.cut.cut.Goals as goal

pub overflow_sub-added : goal.overflow_sub-added
overflow_sub-added c = omega (arith, c.len.ensures.value, ap length c.in_ok-pieces.ensures, enough (segments_of c.args.other.list.now) c.args.own.list.now)
