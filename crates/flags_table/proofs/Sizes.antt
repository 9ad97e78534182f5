-- A note by the tests that the meetings make of it: 0, 1, or more.
use Prim.Native.Nat.{ℕ, zero, suc}
use native.Mathlib.Omega.{arith}
use mathlib.Core.Path.{refl, sym, subst₂}
use mathlib.Core.Bool.{Bool, true, false}
use lib.Dec.{eqb, ltb}
use borrow.Author.Tests.{lt-ltb, ne_eqb}

-- 0, 1, more than 1
pub data Size : Bool → Bool → Bool → Type 0 where
  nought : Size true false false
  one : Size false true false
  more : Size false false true

pub size_of : (n : ℕ) → Size (eqb n 0) (eqb n 1) (ltb 1 n)
size_of zero = nought
size_of (suc zero) = one
size_of (suc (suc n)) =
    subst₂ (λ z e. Size z e (ltb 1 (suc (suc n)))) (sym (ne_eqb (suc (suc n)) 0 (λ e. omega arith))) (sym (ne_eqb (suc (suc n)) 1 (λ e. omega arith)))
    (subst₂ (λ z m. Size z false m) refl (sym (lt-ltb 1 (suc (suc n)) (omega arith))) more)
