use Rattle.std.proofs.Common.{arith, ap, length}
use Rattle.split_cuts.specs.Listed.{segments_of}
use Rattle.split_cuts.specs.Split.{split_pieces}
use Rattle.split_cuts.proofs.Steps.{enough}
use Rattle.split.proofs.cut.cut_first.Goals as goal

pub overflow_sub-added : goal.overflow_sub-added
overflow_sub-added c =
    let others = segments_of c.args.other.list.now in
    let list = c.args.own.list.now in
    omega (arith, c.len.ensures.value, ap length c.in_ok-pieces.ensures.1, ap (λ l. length (split_pieces others l)) c.requires, enough others list)
