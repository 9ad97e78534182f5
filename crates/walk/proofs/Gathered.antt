-- Bytes of events put together: of none, and of one more.
use Prim.Native.Nat.{ℕ, ◌+◌, ◌*◌, ◌≤◌}
use native.Mathlib.Omega.{arith}
use mathlib.Core.Path.{◌≡◌, ap, ◌∙◌}
use mathlib.Core.List.{List}
use lib.Bits.{bit_or, or_zero_r}
use lib.ListN.{get_or}
use Rattle.scene_segments.proofs.Walk.{between_next, between_none}
use Rattle.flags.proofs.Marks.{gather}
use Rattle.flags_meetings.proofs.Runs.{gather_parts}
use Rattle.walk.specs.Walked.{byte_in}

module _ (g : List ℕ) (which : ℕ) where
  abbrev at : ℕ → ℕ
  at n = get_or g (4 * n + which) 0

  pub byte_none : (n : ℕ) → byte_in g which n n ≡ 0
  byte_none n = ap (gather at) (between_none n n (omega arith))

  pub byte_next : (from n : ℕ) → from ≤ n → byte_in g which from (n + 1) ≡ bit_or (byte_in g which from n) (get_or g (4 * n + which) 0)
  byte_next from n h =
      gather_parts at from n (n + 1) h (omega arith)
      ∙ ap (bit_or (byte_in g which from n)) (ap (gather at) (between_next n (n + 1) (omega arith)) ∙ ap (bit_or (at n)) (byte_none (n + 1)) ∙ or_zero_r (at n))
