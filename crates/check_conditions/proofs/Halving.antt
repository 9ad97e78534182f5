-- The search by halving: step by step, and what it finds where the numbers that pass come first.
use Prim.Native.Nat.{ℕ, zero, suc, ◌+◌, ◌-◌, ◌<◌, ◌≤◌}
use native.Mathlib.Nat.{eq-or-lt_of_le}
use native.Mathlib.Omega.{arith}
use mathlib.Core.Path.{◌≡◌, refl, sym, ap, subst, ◌∙◌}
use mathlib.Core.Logic.{⊎_elim}
use mathlib.Core.Bool.{Bool, true, false, cond}
use borrow.Author.Tests.{lt-ltb, le-ltb}
use Rattle.check_conditions.specs.Partners.{middle, lowest}

pub middle_between : (low high : ℕ) → low < high → (low ≤ middle low high) × (middle low high < high)
middle_between low high h = (omega arith, omega arith)

-- the search goes on from low and high, with steps enough, to the answer
pub record Halving (f : ℕ → Bool) (answer low high : ℕ) : Type 0 where
  pub steps : ℕ
  pub enough : high - low ≤ steps
  pub goes : answer ≡ lowest f steps low high

module _ (f : ℕ → Bool) where
  pub begin : (n : ℕ) → Halving f (lowest f n 0 n) 0 n
  begin n = record { steps = n; enough = omega arith; goes = refl }

  module _ {answer low high : ℕ} (h : Halving f answer low high) where
    pub done : high ≤ low → answer ≡ low
    unfolding lowest
    done k = h.goes ∙ go h.steps
      where
        go : (n : ℕ) → lowest f n low high ≡ low
        go zero = refl
        go (suc n) = rw (le-ltb low high k)

    module _ (k : low < high) where
      -- one step
      step : (steps : ℕ) → lowest f (suc steps) low high ≡ cond (f (middle low high)) (lowest f steps (middle low high + 1) high) (lowest f steps low (middle low high))
      unfolding lowest
      step steps = rw (lt-ltb low high k)

      pub upper : f (middle low high) ≡ true → Halving f answer (middle low high + 1) high
      upper e = go h.steps h.enough h.goes
        where
          go : (n : ℕ) → high - low ≤ n → answer ≡ lowest f n low high → Halving f answer (middle low high + 1) high
          go zero m q = absurd (omega arith)
          go (suc n) m q = record { steps = n; enough = omega (arith, (middle_between low high k).0); goes = q ∙ step n ∙ rw e }

      pub lower : f (middle low high) ≡ false → Halving f answer low (middle low high)
      lower e = go h.steps h.enough h.goes
        where
          go : (n : ℕ) → high - low ≤ n → answer ≡ lowest f n low high → Halving f answer low (middle low high)
          go zero m q = absurd (omega arith)
          go (suc n) m q = record { steps = n; enough = omega (arith, (middle_between low high k).1); goes = q ∙ step n ∙ rw e }

  -- ---- those below n that pass come first

  pub record Parts (n k : ℕ) : Type 0 where
    pub within : k ≤ n
    pub before : (j : ℕ) → j < k → f j ≡ true
    pub at : k < n → f k ≡ false

  module _ (n : ℕ) (first : (i j : ℕ) → i < j → j < n → f j ≡ true → f i ≡ true) where
    Found : ℕ → Type 0
    Found steps =
        (low high : ℕ) → high - low ≤ steps → low ≤ high → high ≤ n → ((j : ℕ) → j < low → f j ≡ true) → (high < n → f high ≡ false) → Parts n (lowest f steps low high)

    step_found : (steps : ℕ) → Found steps → Found (suc steps)
    unfolding Found lowest
    step_found steps found low high e h k below above = ⊎_elim equal (λ less. go less (f (middle low high)) refl) (eq-or-lt_of_le h)
      where
        equal : low ≡ high → Parts n (lowest f (suc steps) low high)
        equal same =
            rw (le-ltb low high (omega arith)) (record { within = omega arith; before = below; at = λ m. subst (λ i. f i ≡ false) (sym same) (above (omega arith)) })

        go : low < high → (b : Bool) → f (middle low high) ≡ b → Parts n (lowest f (suc steps) low high)
        go less true q =
            rw (lt-ltb low high less, q)
            (found (middle low high + 1) high (omega (arith, (middle_between low high less).0)) (omega (arith, (middle_between low high less).1)) k up above)
          where
            up : (j : ℕ) → j < middle low high + 1 → f j ≡ true
            up j m =
                ⊎_elim (λ x. ap f x ∙ q) (λ x. first j (middle low high) x (omega (arith, (middle_between low high less).1)) q) (eq-or-lt_of_le (omega arith))
        go less false q =
            rw (lt-ltb low high less, q)
            (found low (middle low high) (omega (arith, (middle_between low high less).1)) (middle_between low high less).0 (omega (arith, (middle_between low high less).1)) below (λ m. q))

    found : (steps : ℕ) → Found steps
    unfolding Found lowest
    found zero low high e h k below above =
        record { within = omega arith; before = below; at = λ m. subst (λ i. f i ≡ false) same (above (omega arith)) }
      where
        same : high ≡ low
        same = omega arith
    found (suc steps) low high e h k below above = step_found steps (found steps) low high e h k below above

    pub parted : Parts n (lowest f n 0 n)
    unfolding Found
    parted = found n 0 n (omega arith) (omega arith) (omega arith) (λ j m. absurd (omega arith)) (λ m. absurd (omega arith))
