-- Searches that stop early: step by step, from the number i on; and where nothing after a stop passes, they find what a search of all finds.
use Prim.Native.Nat.{ℕ, zero, suc, ◌+◌, ◌<◌, ◌≤◌}
use native.Mathlib.Omega.{arith}
use mir.Val.{bool_byte}
use mathlib.Core.Path.{◌≡◌, refl, sym, ap}
use mathlib.Core.Bool.{Bool, true, false, ◌||◌, cond}
use lib.Dec.{T, T_not}
use Rattle.whole.specs.Count.{◌∈◌, bit, some, count}
use Rattle.whole.proofs.Logic.{is_true, is_false, refute, some_find}
use Rattle.whole.proofs.Counted.{count_none}
use Rattle.scene.specs.Conditions.{indices}
use Rattle.scene_segments.specs.Walked.{some_until, count_until}
use Rattle.scene_segments.proofs.Indices.{indices_in}
use Rattle.scene_segments.proofs.Walk.{between, between_next, between_none, byte_bit}

module _ (stops passes : ℕ → Bool) where
  module _ (i n : ℕ) where
    pub some_stopped : i < n → stops i ≡ true → some_until stops passes (between i n) ≡ false
    some_stopped h e = rw (between_next i n h, e)

    pub some_met : i < n → stops i ≡ false → passes i ≡ true → some_until stops passes (between i n) ≡ true
    some_met h e f = rw (between_next i n h, e, f)

    pub some_further : i < n → stops i ≡ false → passes i ≡ false → some_until stops passes (between i n) ≡ some_until stops passes (between (i + 1) n)
    some_further h e f = rw (between_next i n h, e, f)

    pub some_over : n ≤ i → some_until stops passes (between i n) ≡ false
    some_over h = rw (between_none i n h)

    pub count_stopped : i < n → stops i ≡ true → count_until stops passes (between i n) ≡ 0
    count_stopped h e = rw (between_next i n h, e)

    -- as a loop counts, which adds the test's answer as a number
    pub count_further : (m k : ℕ) → i < n → stops i ≡ false → k ≡ m + count_until stops passes (between i n) → {r : Bool} → passes i ≡ r
        → k ≡ m + bool_byte r + count_until stops passes (between (i + 1) n)
    count_further m k h e q {r} f = omega (arith, q, next, byte_bit (passes i), ap bool_byte f)
      where
        next : count_until stops passes (between i n) ≡ bit (passes i) + count_until stops passes (between (i + 1) n)
        next = rw (between_next i n h, e)

    pub count_over : n ≤ i → count_until stops passes (between i n) ≡ 0
    count_over h = rw (between_none i n h)

  -- ---- nothing after a stop passes

  abbrev pub Final : ℕ → ℕ → Type 0
  Final m i = (j k : ℕ) → i ≤ j → j ≤ k → k < i + m → T (stops j) → passes k ≡ false

  module _ (m i : ℕ) (final : Final (suc m) i) where
    later : Final m (suc i)
    later j k a b c = final j k (omega arith) b (omega arith)

    none : stops i ≡ true → (k : ℕ) → k ∈ indices (suc m) i → passes k ≡ false
    none e k h = let w = indices_in (suc m) i k h in final i k (omega arith) w.0 w.1 (is_true (stops i) e)

  pub all_some : (m i : ℕ) → Final m i → some_until stops passes (indices m i) ≡ some passes (indices m i)
  all_some zero i final = refl
  all_some (suc m) i final = go (stops i) refl (all_some m (suc i) (later m i final))
    where
      none_passes : stops i ≡ true → T (some passes (indices (suc m) i)) → ⊥
      none_passes e t = let w = some_find passes (indices (suc m) i) t in T_not (passes w.0) (is_false (passes w.0) (none m i final e w.0 w.1)) w.2

      go : (b : Bool) → stops i ≡ b → some_until stops passes (indices m (suc i)) ≡ some passes (indices m (suc i))
          → cond b false (passes i || some_until stops passes (indices m (suc i))) ≡ passes i || some passes (indices m (suc i))
      go true e r = sym (refute (some passes (indices (suc m) i)) (none_passes e))
      go false e r = ap (λ b. passes i || b) r

  pub all_counted : (m i : ℕ) → Final m i → count_until stops passes (indices m i) ≡ count passes (indices m i)
  all_counted zero i final = refl
  all_counted (suc m) i final = go (stops i) refl (all_counted m (suc i) (later m i final))
    where
      go : (b : Bool) → stops i ≡ b → count_until stops passes (indices m (suc i)) ≡ count passes (indices m (suc i))
          → cond b 0 (bit (passes i) + count_until stops passes (indices m (suc i))) ≡ bit (passes i) + count passes (indices m (suc i))
      go true e r = sym (count_none passes (indices (suc m) i) (none m i final e))
      go false e r = ap (λ c. bit (passes i) + c) r
