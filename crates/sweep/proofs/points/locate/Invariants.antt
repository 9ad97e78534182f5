-- The entries below low pass under the point, and the one at high over it. The measure is the number of entries in question.
use Rattle.std.proofs.Common.{◌≤◌, ◌-◌, T, length}
use Rattle.scene.specs.Read.{segment_at}
use Rattle.sweep_laws.specs.Lower.{passes_under, passes_over}
use Rattle.sweep_laws.specs.Status.{AtPlace, BelowPlace}
use Rattle.sweep.proofs.points.locate.Given as goal

abbrev pub invariant-loop-low : goal.invariant-loop-low
invariant-loop-low l =
    let s = l.entries.bytes.now in
    let entries = l.entries.offsets.now in
    (l.low ≤ l.high) × (l.high ≤ length entries)
    × BelowPlace entries l.low (λ e. T (passes_under (segment_at s e) l.v))
    × AtPlace entries l.high (λ e. T (passes_over (segment_at s e) l.v))

abbrev pub decreases-loop-low : goal.decreases-loop-low
decreases-loop-low l = l.high - l.low
