-- The first number that fails a test: what is before it passes.
use Prim.Native.Nat.{ℕ, zero, suc, ◌+◌, ◌≤◌, ◌<◌}
use native.Mathlib.Nat.{eq-or-lt_of_le}
use native.Mathlib.Omega.{arith}
use mathlib.Core.Path.{◌≡◌, refl, sym, subst}
use mathlib.Core.Logic.{◌⊎◌, inl, inr}
use mathlib.Core.Bool.{Bool, true, false, cond}
use lib.Dec.{T}
use Rattle.whole.proofs.Logic.{less_or_not}
use Rattle.summary_window.specs.Window.{first_bad}

module _ (good : ℕ → Bool) where
  -- m is the first of n numbers from k on that fails, or the number after them
  pub record First (n k m : ℕ) : Type 0 where
    pub from : k ≤ m
    pub to : m ≤ n + k
    pub before : (j : ℕ) → k ≤ j → j < m → T (good j)
    pub fails : m < n + k → good m ≡ false

  pub first : (n k : ℕ) → First n k (first_bad good n k)
  first zero k = record { from = omega arith; to = omega arith; before = λ j h l. absurd (omega arith); fails = λ h. absurd (omega arith) }
  first (suc n) k = go (good k) refl (first n (suc k))
    where
      m : ℕ
      m = first_bad good n (suc k)

      go : (b : Bool) → good k ≡ b → First n (suc k) m → First (suc n) k (cond b m k)
      go true e rest =
          record {
            from = omega (arith, rest.from);
            to = omega (arith, rest.to);
            before = λ j h l. passes j (eq-or-lt_of_le h) l;
            fails = λ h. rest.fails (omega arith);
          }
        where
          passes : (j : ℕ) → (k ≡ j) ⊎ (k < j) → j < m → T (good j)
          passes j (inl q) l = subst (λ (i : ℕ). T (good i)) q (subst T (sym e) tt)
          passes j (inr h) l = rest.before j h l
      go false e rest = record { from = omega arith; to = omega arith; before = λ j h l. absurd (omega arith); fails = λ h. e }

  -- a number that fails, after none that does, is the first; and there is none where none fails
  pub first_is : (n m : ℕ) → m < n → ((j : ℕ) → j < m → T (good j)) → good m ≡ false → first_bad good n 0 ≡ m
  first_is n m h before fails = go (less_or_not x m) (less_or_not m x)
    where
      x : ℕ
      x = first_bad good n 0

      f : First n 0 x
      f = first n 0

      go : (x < m) ⊎ (m ≤ x) → (m < x) ⊎ (x ≤ m) → x ≡ m
      go (inl l) _ = absurd (subst T (f.fails (omega arith)) (before x l))
      go (inr l) (inl k) = absurd (subst T fails (f.before m (omega arith) k))
      go (inr l) (inr k) = omega arith

  pub none_fails : (n : ℕ) → ((j : ℕ) → j < n → T (good j)) → first_bad good n 0 ≡ n
  none_fails n before = go (less_or_not x n)
    where
      x : ℕ
      x = first_bad good n 0

      f : First n 0 x
      f = first n 0

      go : (x < n) ⊎ (n ≤ x) → x ≡ n
      go (inl l) = absurd (subst T (f.fails (omega arith)) (before x l))
      go (inr l) = omega (arith, f.to)
