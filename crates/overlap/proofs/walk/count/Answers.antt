-- `overlap::walk::count` meets its contract: as many steps as segments.
use Rattle.std.proofs.Common.{arith, ◌∙◌, sym}
use mathlib.Core.Logic.{inl}
use Rattle.overlap.proofs.Listing.{few, count_start}
use Rattle.overlap.proofs.Steps.{steps_left}
use Rattle.overlap.proofs.walk.count.Goals as goal

pub count-requires-clause-fits : goal.count-requires-clause-fits
count-requires-clause-fits c =
    let z = c.args.regions in
    let w = c.of.ensures in
    inl (rw (w.0, w.1, w.2) (omega (arith, few z.bytes.now z.own z.own_read c.requires.0, few z.bytes.now z.other z.other_read c.requires.1)))

pub returns : goal.returns
returns c =
    let z = c.args.regions in
    let w = c.of.ensures in
    let run = c.count.ensures.ran in
    run.2 ∙ rw (w.0, w.1, w.2) at (steps_left c.of.result run.1.0 run.0 run.1.1) ∙ sym (count_start z.bytes.now z.own z.other)
