use Rattle.std.proofs.Common.{◌*◌, arith}
use Rattle.std.proofs.lemmas.Nat.Gcd.{IsGcd-from_zero}
use Rattle.split_crossing.proofs.Stepping.{divisor_step, times_none}
use Rattle.split_crossing.proofs.common_divisor.Goals as goal

pub loop-y-preserved : goal.loop-y-preserved
loop-y-preserved c n g h = c.loop-y.invariant n g (divisor_step c.loop-y.x c.loop-y.y n g h)

pub returns : goal.returns
returns c n = c.loop-y.invariant n (c.loop-y.x * n) (IsGcd-from_zero (c.loop-y.x * n) (c.loop-y.y * n) (times_none c.loop-y.y n (omega arith)))
