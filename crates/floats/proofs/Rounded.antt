-- How far `round` moves a whole number: by half a unit of the last digit that it keeps. So a number below 2 ^ (24 + j) moves by at most half of
-- 2 ^ j in single precision, and stays whole.
use mathlib.Core.Path.{◌≡◌, sym, ap, ◌∙◌, subst}
use mathlib.Core.Bool.{Bool, true, false, not}
use Prim.Native.Nat.{ℕ, zero, suc, ◌+◌, ◌-◌, ◌*◌, ◌/◌, ◌%◌, ◌^◌, ◌≤◌, ◌<◌, compare, Ordering}
use native.Mathlib.Nat.{mod-lt, div-add-mod', mul_assoc, one-mul, mul-le-mul_right, mul-lt-mul_of_pos_right, le_trans, le_of_eq, lt_of_lt_of_le, le_of_mul-le-mul_right, eq_of_mul-eq-mul_right, lt_of_not-le, not-le_of_lt, div-one}
use native.Mathlib.Omega.{arith}
use lib.Dec.{T, is_le, compare_is_eq, eqb, leb, leb→le, nleb→lt, eqb→eq, eqb_refl, lit<}
use lib.Arith.{lt_of_le-ne}
use lib.Pow.{pow-add, pow_pos, pow_mono}
use lib.Ieee.{Float, nan, inf, fin, Format, prec, emax, low, up, down, size, nearest, units, round}
use lib.Ieee.Digits.{size-lt, size-le}
use lib.Ieee.Exact.{HasValue, units_val}
use lib.Ieee.Back.{round_whole}
use lib.Ieee.Fits.{round_is}
use lib.Ieee.Nearest.{closest}
use lib.Ieee.Order.{drop}
use Rattle.floats.specs.Value.{Within}

-- ---- a fraction rounded to the nearest whole number
abbrev Cmp : Ordering → ℕ → ℕ → Type 0
Cmp Ordering.lt a b = a < b
Cmp Ordering.eq a b = a ≡ b
Cmp Ordering.gt a b = b < a

cmp : (a b : ℕ) → Cmp (compare a b) a b
cmp a b = go (compare a b) (leb→le a b) (nleb→lt a b) (eqb→eq a b) (λ (e : a ≡ b). subst (λ (x : ℕ). T (eqb a x)) e (eqb_refl a))
  where
    go : (o : Ordering) → (T (is_le o) → a ≤ b) → (T (not (is_le o)) → b < a) → (T (compare_is_eq o) → a ≡ b) → (a ≡ b → T (compare_is_eq o)) → Cmp o a b
    go Ordering.lt h k e n = lt_of_le-ne (h tt) n
    go Ordering.eq h k e n = e tt
    go Ordering.gt h k e n = k tt

tie_within : (q r b t : ℕ) → t < 2 → r * 2 ≡ b → Within b ((q + t) * b * 2) ((q * b + r) * 2)
tie_within q r b zero h e = (omega arith, omega arith)
tie_within q r b (suc zero) h e = (omega arith, omega arith)
tie_within q r b (suc (suc t)) h e = absurd (over t h)
  where
    over : (t : ℕ) → suc (suc t) < 2 → ⊥
    over t h = omega arith

nearest_within : (q r b : ℕ) (o : Ordering) → Cmp o (r * 2) b → r < b → Within b (nearest q o * b * 2) ((q * b + r) * 2)
nearest_within q r b Ordering.lt h k = (omega arith, omega arith)
nearest_within q r b Ordering.eq h k = tie_within q r b (q % 2) (mod-lt q (lit< tt)) h
nearest_within q r b Ordering.gt h k = (omega arith, omega arith)

pub closest_within : (a b : ℕ) → 0 < b → Within b (closest a b * b * 2) (a * 2)
closest_within a b h =
    subst (λ (x : ℕ). Within b (closest a b * b * 2) (x * 2)) (div-add-mod' a b)
    (nearest_within (a / b) (a % b) b (compare (a % b * 2) b) (cmp (a % b * 2) b) (mod-lt a h))

-- ---- whole numbers
cancel : (x : Float) (s : Bool) (r l : ℕ) → 0 < l → HasValue x s (r * l) l → HasValue x s r 1
cancel nan s r l h v = v
cancel (inf t) s r l h v = v
cancel (fin t m e) s r l h v = (v.0, eq_of_mul-eq-mul_right l h (m * up e * 1) (r * down e) (move (m * up e) r l (down e) v.1))
  where
    move : (a r l d : ℕ) → a * l ≡ r * l * d → a * 1 * l ≡ r * d * l
    move a r l d e = omega arith

size_gt : (n j : ℕ) → 2 ^ j ≤ n → j < size n
size_gt n j h = lt_of_not-le (λ (g : size n ≤ j). not-le_of_lt (lt_of_lt_of_le (size-lt n) (pow_mono g)) h)

divide : (l r n d : ℕ) → 0 < l → Within (d * l) (r * l * 2) (n * l * 2) → Within d (r * 2) (n * 2)
divide l r n d h w = (le_of_mul-le-mul_right (one r n w.0) h, le_of_mul-le-mul_right (one n r w.1) h)
  where
    one : (a b : ℕ) → a * l * 2 ≤ b * l * 2 + d * l → a * 2 * l ≤ (b * 2 + d) * l
    one a b h = omega arith

widen : (d e x y : ℕ) → d ≤ e → Within d x y → Within e x y
widen d e x y h w = (omega arith, omega arith)

-- what `round` gives for n, with k digits of n * 2 ^ low dropped: k = i + low
module _ (f : Format) (s : Bool) (n i : ℕ) where
  abbrev l : ℕ
  l = low f

  abbrev q : ℕ
  q = closest (n * 2 ^ l) (1 * 2 ^ (i + l))

  whole : q * 2 ^ (i + l) ≡ q * 2 ^ i * 2 ^ l
  whole = ap (λ (x : ℕ). q * x) (pow-add 2 i l) ∙ sym (mul_assoc q (2 ^ i) (2 ^ l))

  value : q * 2 ^ (i + l) < 2 ^ (l + suc (emax f)) → HasValue (units f s q (i + l)) s (q * 2 ^ i) 1
  value h =
      cancel (units f s q (i + l)) s (q * 2 ^ i) (2 ^ l) (pow_pos l)
      (subst (λ (x : ℕ). HasValue (units f s q (i + l)) s x (2 ^ l)) whole (units_val f s q (i + l) h))

  moved : Within (2 ^ i * 2 ^ l) (q * 2 ^ i * 2 ^ l * 2) (n * 2 ^ l * 2)
  moved =
      subst (λ (x : ℕ). Within (2 ^ i * 2 ^ l) x (n * 2 ^ l * 2)) (ap (λ (x : ℕ). x * 2) (ap (λ (x : ℕ). q * x) unit ∙ sym (mul_assoc q (2 ^ i) (2 ^ l))))
      (subst (λ (x : ℕ). Within x (q * (1 * 2 ^ (i + l)) * 2) (n * 2 ^ l * 2)) unit
      (closest_within (n * 2 ^ l) (1 * 2 ^ (i + l)) (subst (λ (x : ℕ). 0 < x) (sym (one-mul (2 ^ (i + l)))) (pow_pos (i + l)))))
    where
      unit : 1 * 2 ^ (i + l) ≡ 2 ^ i * 2 ^ l
      unit = one-mul (2 ^ (i + l)) ∙ pow-add 2 i l

  under : (j : ℕ) → n < 2 ^ (prec f + j) → i ≤ j → prec f + j + 1 ≤ suc (emax f) → q * 2 ^ (i + l) < 2 ^ (l + suc (emax f))
  under j h k room =
      subst (λ (x : ℕ). x < 2 ^ (l + suc (emax f))) (sym whole)
      (lt_of_lt_of_le (mul-lt-mul_of_pos_right small (pow_pos l)) (le_trans (le_of_eq (sym (pow-add 2 (prec f + j + 1) l))) (pow_mono (fit (prec f + j) l (suc (emax f)) room))))
    where
      fit : (a l e : ℕ) → a + 1 ≤ e → a + 1 + l ≤ l + e
      fit a l e h = omega arith

      sum : (r n p u : ℕ) → r * 2 ≤ n * 2 + u → n < p → u ≤ p → r < p * 2
      sum r n p u a b c = omega arith

      small : q * 2 ^ i < 2 ^ (prec f + j + 1)
      small =
          subst (λ (x : ℕ). q * 2 ^ i < x) (sym (pow-add 2 (prec f + j) 1))
          (sum (q * 2 ^ i) n (2 ^ (prec f + j)) (2 ^ i) (divide (2 ^ l) (q * 2 ^ i) n (2 ^ i) (pow_pos l) moved).0 h (pow_mono (le_trans k (tail (prec f) j))))
        where
          tail : (p j : ℕ) → j ≤ p + j
          tail p j = omega arith

-- a whole number rounded is a whole number, moved by at most half of 2 ^ j
pub round_within :
    (f : Format) (s : Bool) (j n : ℕ) → n < 2 ^ (prec f + j) → prec f + j + 1 ≤ suc (emax f) →
    (r : ℕ) × HasValue (round f s n 1) s r 1 × Within (2 ^ j) (r * 2) (n * 2)
round_within f s j n h room = go (leb n (2 ^ prec f)) (leb→le n (2 ^ prec f)) (nleb→lt n (2 ^ prec f))
  where
    same : (x d : ℕ) → Within d (x * 2) (x * 2)
    same x d = (omega arith, omega arith)

    k : ℕ
    k = drop (prec f) (n * 2 ^ low f) 1

    large : 2 ^ prec f < n → (r : ℕ) × HasValue (round f s n 1) s r 1 × Within (2 ^ j) (r * 2) (n * 2)
    large g = (
      q f s n i * 2 ^ i,
      subst (λ (x : Float). HasValue x s (q f s n i * 2 ^ i) 1) (sym (round_is f s n 1 ∙ ap (λ (x : ℕ). units f s (closest (n * 2 ^ low f) (1 * 2 ^ x)) x) split))
          (value f s n i (under f s n i j h few room)),
      widen (2 ^ i) (2 ^ j) (q f s n i * 2 ^ i * 2) (n * 2) (pow_mono few) (divide (2 ^ low f) (q f s n i * 2 ^ i) n (2 ^ i) (pow_pos (low f)) (moved f s n i)),
    )
      where
        z : ℕ
        z = size (n * 2 ^ low f / 1)

        i : ℕ
        i = k - low f

        least : prec f + low f < z
        least =
            size_gt (n * 2 ^ low f / 1) (prec f + low f)
            (subst (λ (x : ℕ). 2 ^ (prec f + low f) ≤ x) (sym (div-one (n * 2 ^ low f)))
            (le_trans (le_of_eq (pow-add 2 (prec f) (low f))) (mul-le-mul_right (2 ^ low f) (weaken (2 ^ prec f) n g))))
          where
            weaken : (a b : ℕ) → a < b → a ≤ b
            weaken a b h = omega arith

        most : z ≤ prec f + j + low f
        most =
            size-le (n * 2 ^ low f / 1) (prec f + j + low f)
            (subst (λ (x : ℕ). x < 2 ^ (prec f + j + low f)) (sym (div-one (n * 2 ^ low f)))
            (lt_of_lt_of_le (mul-lt-mul_of_pos_right h (pow_pos (low f))) (le_of_eq (sym (pow-add 2 (prec f + j) (low f))))))

        split : k ≡ i + low f
        split = back z (prec f) (low f) least
          where
            back : (z p l : ℕ) → p + l < z → z - p ≡ z - p - l + l
            back z p l h = omega arith

        few : i ≤ j
        few = count z (prec f) (low f) j most
          where
            count : (z p l j : ℕ) → z ≤ p + j + l → z - p - l ≤ j
            count z p l j h = omega arith

    go : (b : Bool) → (T b → n ≤ 2 ^ prec f) → (T (not b) → 2 ^ prec f < n) → (r : ℕ) × HasValue (round f s n 1) s r 1 × Within (2 ^ j) (r * 2) (n * 2)
    go true a b = (n, round_whole f s n (a tt), same n (2 ^ j))
    go false a b = large (b tt)
