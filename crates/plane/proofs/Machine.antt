-- From machine integers to ℤ and back: a number that fits is read back from its bits, tests on bits are tests on numbers, and the bounds on
-- sums, differences and products by which a side value fits 64 bits.
use Prim.Native.Nat.{ℕ, zero, suc, ◌+◌, ◌*◌, ◌-◌, ◌≤◌, ◌^◌}
use native.Mathlib.Nat.{mul-le-mul, le_trans, le_of_eq}
use native.Mathlib.Omega.{arith}
use mathlib.Core.Path.{◌≡◌, refl, sym, ap, ap₂, subst, ◌∙◌}
use mathlib.Core.Logic.{◌⊎◌, inl, inr}
use mathlib.Core.Bool.{Bool, true, false, cond, ◌&&◌, false≢true, true≢false}
use lib.Dec.{T, leb, ltb, eqb, leb→le, le→leb, lit≤, eqb-suc-zero}
use lib.IntN.{ℤ, pos, negsuc, neg_ℤ, nat_abs, sub_ℕ, ◌+ℤ◌, ◌-ℤ◌, ◌*ℤ◌}
use lib.Signed.{mag, lt_z}
use mir.Syntax.{Width, w32, w64}
use mir.Val.{SFits, to_z, of_z}
use mir.Facts.{to_z-of_z, and_yes, yes_and}
use borrow.Author.Tests.{eqb-true, eqb-false, eq-eqb, lt-ltb, le-ltb}
use Rattle.whole.specs.Count.{eq_z}
use Rattle.plane.specs.declared.Point.{Point}
use Rattle.plane.specs.declared.Segment.{Segment}
use Rattle.plane.specs.declared.Turn.{Turn}
use Rattle.plane.specs.declared.Turn.TheVariants.{Left, Straight, Right}
use Rattle.plane.specs.Plane.{limit, within, in_range, segment_in_range, side, turn_of, turn}

-- ---- sizes
nat_abs_neg : (z : ℤ) → nat_abs (neg_ℤ z) ≡ nat_abs z
nat_abs_neg (pos zero) = refl
nat_abs_neg (pos (suc n)) = refl
nat_abs_neg (negsuc n) = refl

nat_abs_less : (a b : ℕ) → nat_abs (sub_ℕ a (suc b)) ≤ a + suc b
nat_abs_less a b = go (ltb a (suc b))
  where
    go : (t : Bool) → nat_abs (cond t (negsuc (suc b - suc a)) (pos (a - suc b))) ≤ a + suc b
    go true = omega arith
    go false = omega arith

pub nat_abs_sum : (a b : ℤ) → nat_abs (a +ℤ b) ≤ nat_abs a + nat_abs b
nat_abs_sum (pos a) (pos b) = omega arith
nat_abs_sum (pos a) (negsuc b) = nat_abs_less a b
nat_abs_sum (negsuc a) (pos b) = omega (arith, nat_abs_less b a)
nat_abs_sum (negsuc a) (negsuc b) = omega arith

pub nat_abs_difference : (a b : ℤ) → nat_abs (a -ℤ b) ≤ nat_abs a + nat_abs b
nat_abs_difference a b = omega (arith, nat_abs_sum a (neg_ℤ b), nat_abs_neg b)

pub nat_abs_product : (a b : ℤ) → nat_abs (a *ℤ b) ≡ nat_abs a * nat_abs b
nat_abs_product (pos a) (pos b) = refl
nat_abs_product (pos a) (negsuc b) = nat_abs_neg (pos (a * suc b))
nat_abs_product (negsuc a) (pos b) = nat_abs_neg (pos (suc a * b))
nat_abs_product (negsuc a) (negsuc b) = refl

mag_small : (z : ℤ) → mag z ≤ nat_abs z
mag_small (pos n) = omega arith
mag_small (negsuc n) = omega arith

-- what is at most 2 ^ 62 in size fits 64 bits
pub small_fits : (z : ℤ) → nat_abs z ≤ 2 ^ 62 → SFits w64 z
small_fits z h = record { sfits = omega (arith, mag_small z) }

-- and what is at most 2 ^ 30 fits 32
pub half_fits : (z : ℤ) → nat_abs z ≤ 2 ^ 30 → SFits w32 z
half_fits z h = record { sfits = omega (arith, mag_small z) }

-- ---- tests
pub eq_z_true : (a b : ℤ) → eq_z a b ≡ true → a ≡ b
eq_z_true (pos a) (pos b) e = ap pos (eqb-true a b e)
eq_z_true (pos a) (negsuc b) e = absurd (false≢true e)
eq_z_true (negsuc a) (pos b) e = absurd (false≢true e)
eq_z_true (negsuc a) (negsuc b) e = ap negsuc (eqb-true a b e)

eq_z_refl : (a : ℤ) → eq_z a a ≡ true
eq_z_refl (pos a) = eq-eqb a a refl
eq_z_refl (negsuc a) = eq-eqb a a refl

pub eq_z_yes : (a b : ℤ) → a ≡ b → eq_z a b ≡ true
eq_z_yes a b e = subst (λ (z : ℤ). eq_z a z ≡ true) e (eq_z_refl a)

pub eq_z_false : (a b : ℤ) → eq_z a b ≡ false → a ≡ b → ⊥
eq_z_false a b e q = true≢false (sym (eq_z_yes a b q) ∙ e)

pub eq_z_no : (a b : ℤ) → (a ≡ b → ⊥) → eq_z a b ≡ false
eq_z_no a b h = go (eq_z a b) refl
  where
    go : (t : Bool) → eq_z a b ≡ t → eq_z a b ≡ false
    go true e = absurd (h (eq_z_true a b e))
    go false e = e

pub eq_z_sym : (a b : ℤ) → eq_z a b ≡ eq_z b a
eq_z_sym a b = go (eq_z b a) refl
  where
    go : (t : Bool) → eq_z b a ≡ t → eq_z a b ≡ t
    go true e = eq_z_yes a b (sym (eq_z_true b a e))
    go false e = eq_z_no a b (λ q. eq_z_false b a e (sym q))

lt_z_irrefl : (a : ℤ) → lt_z a a ≡ false
lt_z_irrefl (pos a) = le-ltb a a (omega arith)
lt_z_irrefl (negsuc a) = le-ltb a a (omega arith)

pub lt_z_no : (a b : ℤ) → a ≡ b → lt_z a b ≡ false
lt_z_no a b e = subst (λ (z : ℤ). lt_z a z ≡ false) e (lt_z_irrefl a)

-- a point whose coordinates 32 bits hold, as every point of the program's is
pub record Held (p : Point) : Type 0 where
  pub x_fits : SFits w32 p.x
  pub y_fits : SFits w32 p.y

-- equal bits are equal numbers
module _ {w : Width} {a b : ℤ} (f : SFits w a) (g : SFits w b) where
  pub bits_eq : of_z w a ≡ of_z w b → a ≡ b
  bits_eq e = sym (to_z-of_z f) ∙ ap (to_z w) e ∙ to_z-of_z g

  pub bits_eqb : eqb (of_z w a) (of_z w b) ≡ eq_z a b
  bits_eqb = go (eqb (of_z w a) (of_z w b)) refl
    where
      go : (t : Bool) → eqb (of_z w a) (of_z w b) ≡ t → eqb (of_z w a) (of_z w b) ≡ eq_z a b
      go true e = e ∙ sym (eq_z_yes a b (bits_eq (eqb-true (of_z w a) (of_z w b) e)))
      go false e = e ∙ sym (eq_z_no a b (λ q. eqb-false (of_z w a) (of_z w b) e (ap (of_z w) q)))

-- the flag t where the ways of `a && b` meet
pub and_met : {t a b : Bool} → ((a ≡ true) × (t ≡ b)) ⊎ ((a ≡ false) × (t ≡ a)) → t ≡ (a && b)
and_met {t} {a} {b} (inl w) = w.1 ∙ ap (λ (x : Bool). x && b) (sym w.0)
and_met {t} {a} {b} (inr w) = w.1 ∙ w.0 ∙ ap (λ (x : Bool). x && b) (sym w.0)

-- ---- points within a range
pub within_x : (n : ℕ) (p : Point) → T (within n p) → nat_abs p.x ≤ n
unfolding within
within_x n p t = leb→le (nat_abs p.x) n (and_yes (leb (nat_abs p.x) n) (leb (nat_abs p.y) n) t).0

pub within_y : (n : ℕ) (p : Point) → T (within n p) → nat_abs p.y ≤ n
unfolding within
within_y n p t = leb→le (nat_abs p.y) n (and_yes (leb (nat_abs p.x) n) (leb (nat_abs p.y) n) t).1

pub is_within : (n : ℕ) (p : Point) → nat_abs p.x ≤ n → nat_abs p.y ≤ n → T (within n p)
unfolding within
is_within n p h k = yes_and (leb (nat_abs p.x) n) (leb (nat_abs p.y) n) (le→leb (nat_abs p.x) n h) (le→leb (nat_abs p.y) n k)

pub left_in_range : (s : Segment) → T (segment_in_range s) → T (in_range s.left)
left_in_range s t = (and_yes (in_range s.left) (in_range s.right) t).0

pub right_in_range : (s : Segment) → T (segment_in_range s) → T (in_range s.right)
right_in_range s t = (and_yes (in_range s.left) (in_range s.right) t).1

-- what is in range is within the range of doubled coordinates
pub in_doubled : (p : Point) → T (in_range p) → T (within (2 * limit) p)
in_doubled p t = is_within (2 * limit) p (omega (arith, within_x limit p t)) (omega (arith, within_y limit p t))

module _ (s : Segment) (t : T (segment_in_range s)) where
  pub left_in_doubled : T (within (2 * limit) s.left)
  left_in_doubled = in_doubled s.left (left_in_range s t)

  pub right_in_doubled : T (within (2 * limit) s.right)
  right_in_doubled = in_doubled s.right (right_in_range s t)

-- what a turn at a segment's ends and a point asks
pub turn_asks :
    (s : Segment) (p : Point) → T (segment_in_range s) → T (in_range p) →
    T (within (2 * limit) s.left) × T (within (2 * limit) s.right) × T (within (2 * limit) p)
turn_asks s p t u = (left_in_doubled s t, right_in_doubled s t, in_doubled p u)

pub near_fits : (z : ℤ) → nat_abs z ≤ 2 * limit → SFits w32 z
near_fits z h = half_fits z (omega arith)

pub doubled_held : (p : Point) → T (within (2 * limit) p) → Held p
doubled_held p t =
    record { x_fits = near_fits p.x (within_x (2 * limit) p t); y_fits = near_fits p.y (within_y (2 * limit) p t) }

-- ---- the sum of two coordinates in range, as the machine has it, each read from its bits
abbrev pub total : ℤ → ℤ → ℤ
total a b = to_z w32 (of_z w32 a) +ℤ to_z w32 (of_z w32 b)

module _ (a b : ℤ) (h : nat_abs a ≤ limit) (k : nat_abs b ≤ limit) where
  sum_small : nat_abs (a +ℤ b) ≤ 2 * limit
  sum_small = omega (arith, nat_abs_sum a b)

  total_is : total a b ≡ a +ℤ b
  total_is = ap₂ ◌+ℤ◌ (to_z-of_z (near_fits a (omega arith))) (to_z-of_z (near_fits b (omega arith)))

  pub total_fits : SFits w32 (total a b)
  total_fits = rw total_is (near_fits (a +ℤ b) sum_small)

  pub total_back : to_z w32 (of_z w32 (total a b)) ≡ a +ℤ b
  total_back = to_z-of_z total_fits ∙ total_is

  pub total_small : nat_abs (to_z w32 (of_z w32 (total a b))) ≤ 2 * limit
  total_small = rw total_back sum_small

-- ---- the side value: a difference of coordinates, a product of two and a difference of products
pub record Factor (z : ℤ) : Type 0 where
  pub small : nat_abs z ≤ 4 * limit

-- what a call that is handed two coordinates by their bits gives back: their difference, and it is small
abbrev pub Difference : ℤ → ℤ → ℤ → Type 0
Difference a b r = (r ≡ a -ℤ b) × Factor r

difference_of : (a b r : ℤ) → nat_abs a ≤ 2 * limit → nat_abs b ≤ 2 * limit → r ≡ to_z w32 (of_z w32 a) -ℤ to_z w32 (of_z w32 b) → Difference a b r
difference_of a b r h k e =
    (is, record { small = subst (λ (z : ℤ). nat_abs z ≤ 4 * limit) (sym is) (omega (arith, nat_abs_difference a b)) })
  where
    is : r ≡ a -ℤ b
    is = e ∙ ap₂ ◌-ℤ◌ (to_z-of_z (near_fits a h)) (to_z-of_z (near_fits b k))

module _ (p q : Point) (r : ℤ) (hp : T (within (2 * limit) p)) (hq : T (within (2 * limit) q)) where
  pub difference_x : r ≡ to_z w32 (of_z w32 p.x) -ℤ to_z w32 (of_z w32 q.x) → Difference p.x q.x r
  difference_x = difference_of p.x q.x r (within_x (2 * limit) p hp) (within_x (2 * limit) q hq)

  pub difference_y : r ≡ to_z w32 (of_z w32 p.y) -ℤ to_z w32 (of_z w32 q.y) → Difference p.y q.y r
  difference_y = difference_of p.y q.y r (within_y (2 * limit) p hp) (within_y (2 * limit) q hq)

factor_fits : {z : ℤ} → Factor z → SFits w64 z
factor_fits {z} f = small_fits z (omega arith)

product_small : (u v : ℤ) → Factor u → Factor v → nat_abs (u *ℤ v) ≤ 2 ^ 61
product_small u v f g = le_trans (le_of_eq (nat_abs_product u v)) (le_trans (mul-le-mul f.small g.small) (lit≤ tt))

-- the product and the value as the machine has them, each factor and each product read from its bits
abbrev pub product : ℤ → ℤ → ℤ
product u v = to_z w64 (of_z w64 u) *ℤ to_z w64 (of_z w64 v)

abbrev pub value : ℤ → ℤ → ℤ → ℤ → ℤ
value u v w z = to_z w64 (of_z w64 (product u v)) -ℤ to_z w64 (of_z w64 (product w z))

product_is : (u v : ℤ) → Factor u → Factor v → product u v ≡ u *ℤ v
product_is u v f g = ap₂ ◌*ℤ◌ (to_z-of_z (factor_fits f)) (to_z-of_z (factor_fits g))

pub product_fits : (u v : ℤ) → Factor u → Factor v → SFits w64 (product u v)
product_fits u v f g = rw (product_is u v f g) (small_fits (u *ℤ v) (omega (arith, product_small u v f g)))

module _ (u v w z : ℤ) (f : Factor u) (g : Factor v) (h : Factor w) (k : Factor z) where
  value_is : value u v w z ≡ u *ℤ v -ℤ w *ℤ z
  value_is =
      ap₂ ◌-ℤ◌ (to_z-of_z (product_fits u v f g) ∙ product_is u v f g) (to_z-of_z (product_fits w z h k) ∙ product_is w z h k)

  pub value_fits : SFits w64 (value u v w z)
  value_fits =
      rw value_is
      (small_fits (u *ℤ v -ℤ w *ℤ z)
      (omega (arith, nat_abs_difference (u *ℤ v) (w *ℤ z), product_small u v f g, product_small w z h k)))

  pub value_back : to_z w64 (of_z w64 (value u v w z)) ≡ u *ℤ v -ℤ w *ℤ z
  value_back = to_z-of_z value_fits ∙ value_is

-- ---- what a turn says of the side value's sign
abbrev pub left_test : Turn → Bool
left_test Left = true
left_test Straight = false
left_test Right = false

abbrev pub is_straight : Turn → Bool
is_straight Left = false
is_straight Straight = true
is_straight Right = false

abbrev pub is_right : Turn → Bool
is_right Left = false
is_right Straight = false
is_right Right = true

pub left_is : (z : ℤ) → left_test (turn_of z) ≡ lt_z (pos 0) z
left_is (pos zero) = refl
left_is (pos (suc n)) = sym (lt-ltb 0 (suc n) (omega arith))
left_is (negsuc n) = refl

pub straight_is : (z : ℤ) → is_straight (turn_of z) ≡ eq_z z (pos 0)
straight_is (pos zero) = refl
straight_is (pos (suc n)) = sym (eqb-suc-zero n)
straight_is (negsuc n) = refl

pub right_is : (z : ℤ) → is_right (turn_of z) ≡ lt_z z (pos 0)
right_is (pos zero) = refl
right_is (pos (suc n)) = sym (le-ltb (suc n) 0 (omega arith))
right_is (negsuc n) = refl

-- in an arm of a match on a turn t of three points, where t is u: a test of u is the test of the side value that it stands for
pub told :
    (f : Turn → Bool) (g : ℤ → Bool) →
    ((z : ℤ) → f (turn_of z) ≡ g z) →
    (a b c : Point) {t u : Turn} → t ≡ turn a b c → t ≡ u → f u ≡ g (side a b c)
unfolding turn
told f g e a b c p q = ap f (sym q ∙ p) ∙ e (side a b c)
