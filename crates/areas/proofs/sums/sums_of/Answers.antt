-- `areas::sums::sums_of` meets its contract: a segment more in the sums, one less to come.
use Rattle.std.proofs.Common.{◌∙◌}
use Rattle.areas.proofs.Walking.{makes_start, makes_next, most_none, most_next}
use Rattle.areas.proofs.sums.sums_of.Goals as goal

pub loop-next-init : goal.loop-next-init
loop-next-init c =
    let z = c.args.regions.read in
    let w = c.of-next-items.ensures in
    rw (c.into_iter-next-iterator.ensures.into_iter_gives) (record { same = w.0; makes = rw (w.1, w.2) (makes_start z.bytes.now z.scene); most = rw (w.1, w.2) most_none })

pub loop-next-preserved : goal.loop-next-preserved
loop-next-preserved c =
    let z = c.args.regions.read in
    let h = c.loop-next.invariant in
    let step = c.in-Some.ensures.steps in
    let n = rw h.same at step.1 in
    record {
      same = step.0 ∙ h.same;
      makes = makes_next z.bytes.now z.scene n c.add-sums.ensures h.makes;
      most = most_next z.bytes.now z.scene n c.add-sums.ensures h.most;
    }
