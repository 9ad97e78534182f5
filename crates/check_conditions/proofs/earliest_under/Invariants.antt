-- No element before i is at fault, so the answer is that of the rest.
use Rattle.std.proofs.Common.{◌≡◌}
use Rattle.scene.specs.Conditions.{earliest}
use Rattle.scene_segments.proofs.Walk.{between}
use Rattle.check_conditions.specs.Faults.{is_at_fault, fault_under}
use Rattle.check_conditions.proofs.earliest_under.Given as goal

abbrev pub invariant-loop-i : goal.invariant-loop-i
invariant-loop-i l =
    let p = l.pair in
    fault_under p.bytes.now p.own p.other l.flaw ≡ earliest p.own (is_at_fault p.bytes.now p.own p.other l.flaw) (between l.i p.own.count)
