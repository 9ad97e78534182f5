-- The bits of a number: of a packed list, of a number halved, of two numbers' "and" and "or", of a number of ones; a bit as
-- the program tests it; numbers with the same bits.
use Prim.Native.Nat.{ℕ, zero, suc, ◌+◌, ◌-◌, ◌*◌, ◌/◌, ◌%◌, ◌^◌, ◌<◌, min, max}
use native.Mathlib.Nat.{pow-suc, zero-div, div-one, zero-add, suc-add, div-add-mod'}
use native.Mathlib.Decide.{ℕ_discrete}
use native.Mathlib.Omega.{arith}
use mathlib.Core.Path.{◌≡◌, refl, sym, ap, ap₂, ◌∙◌, subst}
use mathlib.Core.Logic.{⊎_elim}
use mathlib.Core.Bool.{Bool, true, false, not, ◌&&◌, ◌||◌}
use mathlib.Core.List.{List, [], ◌∷◌}
use lib.Arith.{bin_ind}
use lib.Bits.{bit_and, bit_or, and_mask, and_comm, and_step, or_step, and_shr, or_shr}
use lib.Dec.{T, T_not, eqb, ltb, leb-zero, leb-suc-zero, leb-suc-suc}
use lib.ListN.{length, get_or}
use lib.Pow.{pow_pos, shr-shr}
use borrow.Author.Tests.{ne_eqb}
use Rattle.whole.specs.Count.{bit, odd}
use Rattle.whole.proofs.Logic.{and_left, and_right, decide}
use Rattle.flags.specs.Flags.{pack, has_bit}

pub first_bit : (v : ℕ) → has_bit v 0 ≡ odd v
unfolding has_bit
first_bit v = ap odd (div-one v)

pub next_bit : (v k : ℕ) → has_bit v (suc k) ≡ has_bit (v / 2) k
unfolding has_bit
next_bit v k = ap odd (ap (λ n. v / 2 ^ n) (sym (suc-add 0 k ∙ ap suc (zero-add k))) ∙ sym (shr-shr v 1 k))

pub no_bit : (k : ℕ) → has_bit 0 k ≡ false
unfolding has_bit odd
no_bit k = ap odd (zero-div (2 ^ k))

-- ---- a packed list

pack_half : (b : Bool) (n : ℕ) → (bit b + 2 * n) / 2 ≡ n
pack_half true n = omega arith
pack_half false n = omega arith

pack_rest : (b : Bool) (n : ℕ) → (bit b + 2 * n) % 2 ≡ bit b
pack_rest true n = omega arith
pack_rest false n = omega arith

pack_odd : (b : Bool) (n : ℕ) → odd (bit b + 2 * n) ≡ b
unfolding odd
pack_odd true n = ap (λ m. eqb m 1) (pack_rest true n)
pack_odd false n = ap (λ m. eqb m 1) (pack_rest false n)

pub pack_bit : (l : List Bool) (k : ℕ) → has_bit (pack l) k ≡ get_or l k false
pack_bit [] k = no_bit k
pack_bit (b ∷ l) zero = first_bit (bit b + 2 * pack l) ∙ pack_odd b (pack l)
pack_bit (b ∷ l) (suc k) = next_bit (bit b + 2 * pack l) k ∙ ap (λ n. has_bit n k) (pack_half b (pack l)) ∙ pack_bit l k

pub pack_lt : (l : List Bool) → pack l < 2 ^ length l
pack_lt [] = omega arith
pack_lt (b ∷ l) = omega (arith, pack_lt l, pow-suc 2 (length l), bit_small b)
  where
    bit_small : (b : Bool) → bit b < 2
    bit_small true = omega arith
    bit_small false = omega arith

-- ---- "and" and "or"

last_digit : (v n d : ℕ) → v ≡ n * 2 + d → d < 2 → v % 2 ≡ d
last_digit v n d e h = omega arith

odd_and : (x y : ℕ) → odd (bit_and x y) ≡ odd x && odd y
unfolding odd
odd_and x y =
    ap (λ m. eqb m 1) (last_digit (bit_and x y) (bit_and (x / 2) (y / 2)) (min (x % 2) (y % 2)) (and_step x y) (omega arith)) ∙ digit (x % 2) (y % 2) (omega arith) (omega arith)
  where
    digit : (r s : ℕ) → r < 2 → s < 2 → eqb (min r s) 1 ≡ eqb r 1 && eqb s 1
    digit zero zero h k = refl
    digit zero (suc zero) h k = refl
    digit (suc zero) zero h k = refl
    digit (suc zero) (suc zero) h k = refl
    digit zero (suc (suc s)) h k = absurd (omega arith)
    digit (suc zero) (suc (suc s)) h k = absurd (omega arith)
    digit (suc (suc r)) s h k = absurd (omega arith)

odd_or : (x y : ℕ) → odd (bit_or x y) ≡ odd x || odd y
unfolding odd
odd_or x y =
    ap (λ m. eqb m 1) (last_digit (bit_or x y) (bit_or (x / 2) (y / 2)) (max (x % 2) (y % 2)) (or_step x y) (omega arith)) ∙ digit (x % 2) (y % 2) (omega arith) (omega arith)
  where
    digit : (r s : ℕ) → r < 2 → s < 2 → eqb (max r s) 1 ≡ eqb r 1 || eqb s 1
    digit zero zero h k = refl
    digit zero (suc zero) h k = refl
    digit (suc zero) zero h k = refl
    digit (suc zero) (suc zero) h k = refl
    digit zero (suc (suc s)) h k = absurd (omega arith)
    digit (suc zero) (suc (suc s)) h k = absurd (omega arith)
    digit (suc (suc r)) s h k = absurd (omega arith)

pub and_bit : (a b k : ℕ) → has_bit (bit_and a b) k ≡ has_bit a k && has_bit b k
unfolding has_bit
and_bit a b k = ap odd (and_shr a b k) ∙ odd_and (a / 2 ^ k) (b / 2 ^ k)

pub or_bit : (a b k : ℕ) → has_bit (bit_or a b) k ≡ has_bit a k || has_bit b k
unfolding has_bit
or_bit a b k = ap odd (or_shr a b k) ∙ odd_or (a / 2 ^ k) (b / 2 ^ k)

-- a bit as the program tests it
pub test_bit : (m k : ℕ) → not (eqb (bit_and m (2 ^ k)) 0) ≡ has_bit m k
unfolding odd
test_bit m zero = ap (λ n. not (eqb n 0)) (and_mask m 1) ∙ digit (m % 2) (omega arith) ∙ sym (first_bit m)
  where
    digit : (r : ℕ) → r < 2 → not (eqb r 0) ≡ eqb r 1
    digit zero h = refl
    digit (suc zero) h = refl
    digit (suc (suc r)) h = absurd (omega arith)
test_bit m (suc k) = doubled (bit_and m (2 ^ suc k)) (bit_and (m / 2) (2 ^ k)) twice ∙ test_bit (m / 2) k ∙ sym (next_bit m k)
  where
    half : 2 ^ suc k / 2 ≡ 2 ^ k
    half = omega (arith, pow-suc 2 k)

    even : min (m % 2) (2 ^ suc k % 2) ≡ 0
    even = omega (arith, pow-suc 2 k)

    twice : bit_and m (2 ^ suc k) ≡ bit_and (m / 2) (2 ^ k) * 2
    twice = and_step m (2 ^ suc k) ∙ omega (arith, ap (bit_and (m / 2)) half, even)

    doubled : (n x : ℕ) → n ≡ x * 2 → not (eqb n 0) ≡ not (eqb x 0)
    doubled n zero e = ap (λ n. not (eqb n 0)) e
    doubled n (suc x) e = ap not (ne_eqb n 0 (λ z. omega arith) ∙ sym (ne_eqb (suc x) 0 (λ z. omega arith)))

-- ---- ones

pub ones_bit : (n k : ℕ) → has_bit (2 ^ n - 1) k ≡ ltb k n
unfolding odd
ones_bit zero k = no_bit k ∙ sym (leb-suc-zero k)
ones_bit (suc n) zero = first_bit (2 ^ suc n - 1) ∙ ap (λ m. eqb m 1) rest ∙ sym (leb-suc-suc 0 n ∙ leb-zero n)
  where
    rest : (2 ^ suc n - 1) % 2 ≡ 1
    rest = omega (arith, pow-suc 2 n, pow_pos n)
ones_bit (suc n) (suc k) = next_bit (2 ^ suc n - 1) k ∙ ap (λ m. has_bit m k) half ∙ ones_bit n k ∙ sym (leb-suc-suc (suc k) n)
  where
    half : (2 ^ suc n - 1) / 2 ≡ 2 ^ n - 1
    half = omega (arith, pow-suc 2 n, pow_pos n)

-- ---- where "and" loses a bit

-- some bit of the one number is none of the other's
abbrev pub Lost : ℕ → ℕ → Type 0
Lost m n = (k : ℕ) × T (has_bit m k) × T (not (has_bit n k))

pub lost_bit : (m n : ℕ) → (bit_and m n ≡ m → ⊥) → Lost m n
unfolding odd
lost_bit = bin_ind (λ m. (n : ℕ) → (bit_and m n ≡ m → ⊥) → Lost m n) (λ n changed. absurd (changed refl)) step
  where
    first : (m n : ℕ) → T (odd m && not (odd n)) → Lost m n
    first m n t = (0, subst T (sym (first_bit m)) (and_left (odd m) (not (odd n)) t), subst (λ b. T (not b)) (sym (first_bit n)) (and_right (odd m) (not (odd n)) t))

    later : (m n : ℕ) → Lost (m / 2) (n / 2) → Lost m n
    later m n w = (suc w.0, subst T (sym (next_bit m w.0)) w.1, subst (λ b. T (not b)) (sym (next_bit n w.0)) w.2)

    kept : (m n : ℕ) → T (not (odd m && not (odd n))) → bit_and (m / 2) (n / 2) ≡ m / 2 → bit_and m n ≡ m
    kept m n t e = and_step m n ∙ ap₂ (λ x y. x * 2 + y) e (digit (m % 2) (n % 2) (omega arith) (omega arith) t) ∙ div-add-mod' m 2
      where
        digit : (r s : ℕ) → r < 2 → s < 2 → T (not (eqb r 1 && not (eqb s 1))) → min r s ≡ r
        digit zero s h k t = omega arith
        digit (suc zero) zero h k t = absurd t
        digit (suc zero) (suc zero) h k t = refl
        digit (suc zero) (suc (suc s)) h k t = absurd (omega arith)
        digit (suc (suc r)) s h k t = absurd (omega arith)

    step : (m : ℕ) → ((n : ℕ) → (bit_and (m / 2) n ≡ m / 2 → ⊥) → Lost (m / 2) n) → (n : ℕ) → (bit_and m n ≡ m → ⊥) → Lost m n
    step m ih n changed = ⊎_elim (first m n) (λ t. later m n (ih (n / 2) (λ e. changed (kept m n t e)))) (decide (odd m && not (odd n)))

pub bit_lost : (m n : ℕ) → Lost m n → bit_and m n ≡ m → ⊥
bit_lost m n w e = T_not (has_bit n k) w.2 (and_right (has_bit m k) (has_bit n k) (subst T (ap (λ v. has_bit v k) (sym e) ∙ and_bit m n k) w.1))
  where
    k : ℕ
    k = w.0

-- numbers with the same bits are equal
pub same_number : (a b : ℕ) → ((k : ℕ) → has_bit a k ≡ has_bit b k) → a ≡ b
same_number a b e = sym (kept a b e) ∙ and_comm a b ∙ kept b a (λ k. sym (e k))
  where
    kept : (a b : ℕ) → ((k : ℕ) → has_bit a k ≡ has_bit b k) → bit_and a b ≡ a
    kept a b e = go (ℕ_discrete (bit_and a b) a)
      where
        go : Dec (bit_and a b ≡ a) → bit_and a b ≡ a
        go (yes p) = p
        go (no n) = let w = lost_bit a b n in absurd (T_not (has_bit b w.0) w.2 (subst T (e w.0) w.1))
