-- Tests in a row as the bits of a word: bit k is that of test k, and the ones are those that pass.
use Prim.Native.Nat.{ℕ, zero, suc, ◌+◌, ◌*◌, ◌/◌, ◌%◌, ◌^◌, ◌≤◌, ◌<◌}
use Rattle.std.proofs.Common.{add-zero, zero-add, add-one}
use Rattle.std.proofs.Math.Nat.{pow-suc}
use native.Mathlib.Omega.{arith}
use mathlib.Core.Path.{◌≡◌, refl, sym, ap, ap₂, subst, ◌∙◌}
use mathlib.Core.Bool.{Bool, true, false}
use mathlib.Core.List.{List, [], ◌∷◌}
use lib.Count.{ones, ones_step}
use lib.ListN.{length, get_or}
use Rattle.whole.specs.Count.{bit, count}
use Rattle.flags.specs.Flags.{pack, has_bit}
use Rattle.flags.proofs.Bits.{pack_bit, pack_lt}
use Rattle.summary_window.specs.Window.{tests, indices}

abbrev itself : Bool → Bool
itself b = b

-- ---- the ones of a word
pub ones_packed : (l : List Bool) → ones (pack l) ≡ count itself l
ones_packed [] = unfold ones in refl
ones_packed (b ∷ l) = ones_step (bit b + 2 * pack l) ∙ ap₂ ◌+◌ (lowest b (pack l)) (ap ones (rest b (pack l)) ∙ ones_packed l)
  where
    lowest : (b : Bool) (n : ℕ) → (bit b + 2 * n) % 2 ≡ bit b
    lowest true n = omega arith
    lowest false n = omega arith

    rest : (b : Bool) (n : ℕ) → (bit b + 2 * n) / 2 ≡ n
    rest true n = omega arith
    rest false n = omega arith

-- ---- rows of tests
module _ (f : ℕ → Bool) where
  pub tests_length : (n k : ℕ) → length (tests f n k) ≡ n
  tests_length zero k = refl
  tests_length (suc n) k = ap suc (tests_length n (suc k))

  pub test_at : (n k i : ℕ) → i < n → get_or (tests f n k) i false ≡ f (k + i)
  test_at zero k i h = absurd (omega arith)
  test_at (suc n) k zero h = ap f (same k)
    where
      same : (k : ℕ) → k ≡ k + 0
      same k = omega arith
  test_at (suc n) k (suc i) h = test_at n (suc k) i (omega arith) ∙ ap f (same k i)
    where
      same : (k i : ℕ) → suc k + i ≡ k + suc i
      same k i = omega arith

  pub no_test : (n k i : ℕ) → n ≤ i → get_or (tests f n k) i false ≡ false
  no_test zero k i h = refl
  no_test (suc n) k zero h = absurd (omega arith)
  no_test (suc n) k (suc i) h = no_test n (suc k) i (omega arith)

  pub bit_of_word : (n i : ℕ) → i < n → has_bit (pack (tests f n 0)) i ≡ f i
  bit_of_word n i h = pack_bit (tests f n 0) i ∙ test_at n 0 i h ∙ ap f (same i)
    where
      same : (i : ℕ) → 0 + i ≡ i
      same i = omega arith

  pub no_bit_of_word : (n i : ℕ) → n ≤ i → has_bit (pack (tests f n 0)) i ≡ false
  no_bit_of_word n i h = pack_bit (tests f n 0) i ∙ no_test n 0 i h

  count_tests : (n k : ℕ) → count itself (tests f n k) ≡ count f (indices n k)
  count_tests zero k = refl
  count_tests (suc n) k = ap (λ (x : ℕ). bit (f k) + x) (count_tests n (suc k))

  -- ---- the word from the first test up: one test more, at the end
  pushed_from : (n k : ℕ) → pack (tests f (suc n) k) ≡ pack (tests f n k) + bit (f (n + k)) * 2 ^ n
  pushed_from zero k = first (f k) (ap (λ j. bit (f j)) (zero-add k))
    where
      first : (b : Bool) {x : ℕ} → x ≡ bit b → bit b + 0 ≡ 0 + x * 1
      first b e = omega arith
  pushed_from (suc n) k =
      step (bit (f k)) (pack (tests f (suc n) (suc k))) (pack (tests f n (suc k))) (bit (f (n + suc k))) (bit (f (suc n + k))) (2 ^ n) (2 ^ suc n)
      (pushed_from n (suc k)) (ap (λ j. bit (f j)) (same n k)) (pow-suc 2 n)
    where
      same : (n k : ℕ) → n + suc k ≡ suc n + k
      same n k = omega arith

      step : (b w v x y p q : ℕ) → w ≡ v + x * p → x ≡ y → q ≡ p * 2 → b + 2 * w ≡ b + 2 * v + y * q
      step b w v x y p q is same double = rw (is, same, double) (omega arith)

  pub pushed : (n : ℕ) → pack (tests f (n + 1) 0) ≡ pack (tests f n 0) + bit (f n) * 2 ^ n
  pushed n = ap (λ m. pack (tests f m 0)) (add-one n) ∙ pushed_from n 0 ∙ ap (λ j. pack (tests f n 0) + bit (f j) * 2 ^ n) (add-zero n)

  pub small : (n : ℕ) → pack (tests f n 0) < 2 ^ n
  small n = subst (λ (x : ℕ). pack (tests f n 0) < 2 ^ x) (tests_length n 0) (pack_lt (tests f n 0))

count_same : (f g : ℕ → Bool) (n k : ℕ) → ((i : ℕ) → i < k + n → f i ≡ g i) → count f (indices n k) ≡ count g (indices n k)
count_same f g zero k h = refl
count_same f g (suc n) k h = ap₂ (λ (b : Bool) (x : ℕ). bit b + x) (h k (omega arith)) (count_same f g n (suc k) (λ i l. h i (omega arith)))

-- the ones of the word are the numbers whose bit is set
pub ones_counted : (f : ℕ → Bool) (n : ℕ) → ones (pack (tests f n 0)) ≡ count (has_bit (pack (tests f n 0))) (indices n 0)
ones_counted f n =
    ones_packed (tests f n 0) ∙ count_tests f n 0
    ∙ count_same f (has_bit (pack (tests f n 0))) n 0 (λ i h. sym (bit_of_word f n i (omega arith)))
