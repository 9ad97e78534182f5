-- Whatever is the greatest common divisor of what is left is that of the two; times any number too.
use Rattle.std.proofs.Common.{ℕ, ◌*◌}
use Rattle.std.specs.Int.{IsGcd}
use Rattle.split_crossing.proofs.common_divisor.Given as goal

abbrev pub invariant-loop-y : goal.invariant-loop-y
invariant-loop-y l = (n g : ℕ) → IsGcd (l.x * n) (l.y * n) g → IsGcd (l.fn.a * n) (l.fn.b * n) g

abbrev pub decreases-loop-y : goal.decreases-loop-y
decreases-loop-y l = l.y
