use Rattle.std.proofs.Common.{◌∙◌, sym}
use Rattle.check_conditions.specs.Faults.{is_at_fault}
use Rattle.scene_segments.proofs.Walk.{earliest_later}
use Rattle.check_conditions.proofs.earliest_under.Goals as goal

pub loop-i-preserved : goal.loop-i-preserved
loop-i-preserved c =
    let p = c.args.pair in
    c.loop-i.invariant
    ∙ earliest_later p.own (is_at_fault p.bytes.now p.own p.other c.args.flaw) c.loop-i.i p.own.count c.loop-i-test.true (sym c.is_at_fault.ensures ∙ c.if-is_at_fault.false)
