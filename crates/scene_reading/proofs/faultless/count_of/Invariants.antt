-- The offset is that of the record i, and all before it are elements without fault.
use Rattle.std.proofs.Common.{◌≡◌, ◌+◌, ◌*◌, ◌<◌, ◌≤◌, ℕ, List, length}
use Rattle.scene.specs.declared.Shape.{Shape}
use Rattle.scene.specs.Read.{size, most}
use Rattle.scene_reading.specs.Faultless.{IsElement}
use Rattle.scene_reading.proofs.faultless.count_of.Given as goal

-- so many elements without fault, whatever follows them
pub record SoFar (s : List ℕ) (k : Shape) (start n : ℕ) : Type 0 where
  pub few : n ≤ most
  pub there : start + n * size k ≤ length s
  pub each : (i : ℕ) → i < n → IsElement s k (start + i * size k)

pub record Walked (s : List ℕ) (k : Shape) (start step at n : ℕ) : Type 0 where
  pub step_is : step ≡ size k
  pub here : at ≡ start + n * size k
  pub passed : SoFar s k start n

abbrev pub invariant-loop-i : goal.invariant-loop-i
invariant-loop-i l = Walked l.s l.k l.start l.size l.at l.i
