-- Of two numbers, the second is odd exactly if one of the first and the sum is, and not both.
use Prim.Native.Nat.{ℕ, ◌+◌, ◌%◌}
use native.Mathlib.Decide.{ℕ_discrete}
use native.Mathlib.Omega.{arith}
use mathlib.Core.Path.{◌≡◌}
use mathlib.Core.Bool.{not, beq}
use borrow.Author.Tests.{eq-eqb, ne_eqb}
use lib.Dec.{eqb}
use Rattle.whole.specs.Count.{odd}

pub odd_rest : (a b : ℕ) → not (beq (odd a) (odd (a + b))) ≡ odd b
unfolding odd
odd_rest a b = go (ℕ_discrete (a % 2) 1) (ℕ_discrete (b % 2) 1)
  where
    go : Dec (a % 2 ≡ 1) → Dec (b % 2 ≡ 1) → not (beq (eqb (a % 2) 1) (eqb ((a + b) % 2) 1)) ≡ eqb (b % 2) 1
    go (yes p) (yes q) = rw (eq-eqb (a % 2) 1 p, eq-eqb (b % 2) 1 q, ne_eqb ((a + b) % 2) 1 (λ e. omega arith))
    go (yes p) (no q) = rw (eq-eqb (a % 2) 1 p, ne_eqb (b % 2) 1 q, eq-eqb ((a + b) % 2) 1 (omega arith))
    go (no p) (yes q) = rw (ne_eqb (a % 2) 1 p, eq-eqb (b % 2) 1 q, eq-eqb ((a + b) % 2) 1 (omega arith))
    go (no p) (no q) = rw (ne_eqb (a % 2) 1 p, ne_eqb (b % 2) 1 q, ne_eqb ((a + b) % 2) 1 (λ e. omega arith))
