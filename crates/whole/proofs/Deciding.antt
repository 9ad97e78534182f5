-- What a test that decides a proposition says, either way, and how such a test is made.
use Prim.Native.Nat.{ℕ}
use mathlib.Core.Path.{◌≡◌, sym, subst}
use mathlib.Core.Logic.{◌⊎◌, inl, inr, ⊎_elim}
use mathlib.Core.Bool.{Bool, true, false, not, ◌&&◌, ◌||◌}
use lib.Dec.{T, T_not, not_T, eqb, eqb→eq}
use borrow.Author.Tests.{eq-eqb}
use Rattle.whole.specs.Decides.{Decides}
use Rattle.whole.proofs.Logic.{is_true, and_left, and_right, and_make, or_cases, or_left, or_right}

-- a test decides whether it is passed itself
pub test_is : (b : Bool) → Decides (T b) b
test_is b = record { sound = λ t. t; complete = λ t. t }

-- one test for another that is its equal
pub retest : {a b : Bool} {P : Type 0} → a ≡ b → Decides P b → Decides P a
retest e h = record { sound = λ t. h.sound (subst T e t); complete = λ p. subst T (sym e) (h.complete p) }

pub by_test_lem : {r b : Bool} → r ≡ b → Decides (T b) r
by_test_lem {r} {b} e = retest e (test_is b)

-- the Boolean operations
pub not_is : {b : Bool} {P : Type 0} → Decides P b → Decides (¬ P) (not b)
not_is {b} h = record { sound = λ t p. T_not b t (h.complete p); complete = λ n. not_T b (λ t. n (h.sound t)) }

pub and_is : {a b : Bool} {P Q : Type 0} → Decides P a → Decides Q b → Decides (P × Q) (a && b)
and_is {a} {b} h k = record { sound = λ t. (h.sound (and_left a b t), k.sound (and_right a b t)); complete = λ w. and_make a b (h.complete w.0) (k.complete w.1) }

pub or_is : {a b : Bool} {P Q : Type 0} → Decides P a → Decides Q b → Decides (P ⊎ Q) (a || b)
or_is {a} {b} h k = record { sound = λ t. ⊎_elim (λ s. inl (h.sound s)) (λ s. inr (k.sound s)) (or_cases a b t); complete = ⊎_elim (λ p. or_left a b (h.complete p)) (λ q. or_right a b (k.complete q)) }

pub by_equality : (m n : ℕ) → Decides (m ≡ n) (eqb m n)
by_equality m n = record { sound = eqb→eq m n; complete = λ e. is_true (eqb m n) (eq-eqb m n e) }

module _ {P : Type 0} where
  pub yes : P → Decides P true
  yes p = record { sound = λ t. p; complete = λ p. tt }

  pub no : (P → ⊥) → Decides P false
  no f = record { sound = λ t. absurd t; complete = λ p. absurd (f p) }

  -- what holds exactly where another proposition does
  pub same_as : {Q : Type 0} {r : Bool} → (Q → P) → (P → Q) → Decides Q r → Decides P r
  same_as to from d = record { sound = λ t. to (d.sound t); complete = λ p. d.complete (from p) }

  -- both, by two tests one after the other: the first one passed, or not
  pub and_second : {Q : Type 0} {a b : Bool} → Decides P a → a ≡ true → Decides Q b → Decides (P × Q) b
  and_second d e f = record { sound = λ t. (d.sound (is_true _ e), f.sound t); complete = λ w. f.complete w.1 }

  pub and_first : {Q : Type 0} {a : Bool} → Decides P a → a ≡ false → Decides (P × Q) a
  and_first d e = record { sound = λ t. absurd (subst T e t); complete = λ w. d.complete w.0 }

  module _ {r : Bool} (d : Decides P r) where
    pub holds : r ≡ true → P
    holds e = d.sound (is_true r e)

    -- after `if !test { return .. }`
    pub accepted : not r ≡ false → P
    accepted e = d.sound (go r e)
      where
        go : (b : Bool) → not b ≡ false → T b
        go true e = tt
        go false e = absurd (subst T e tt)

-- and in it
pub refused : (r : Bool) → not r ≡ true → T r → ⊥
refused r e t = T_not r (is_true (not r) e) t
