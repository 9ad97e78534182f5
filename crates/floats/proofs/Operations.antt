-- The operations on floats that are whole numbers: each gives a whole number near the exact result.
use mathlib.Core.Path.{◌≡◌, refl, sym, ap, ap₂, ◌∙◌, subst}
use mathlib.Core.Bool.{Bool, true, false, not, cond}
use Prim.Native.Nat.{ℕ, zero, suc, ◌+◌, ◌-◌, ◌*◌, ◌^◌, ◌≤◌, ◌<◌}
use native.Mathlib.Nat.{mul-one, mul-pos, le_of_mul-le-mul_right, mul-le-mul_right, zero-mul, mul_comm, mul-sub, add-mul, lt_of_not-le, not-le_of_lt}
use native.Mathlib.Omega.{arith}
use native.Mathlib.Numerals.{unary_clauses}
use lib.Dec.{T, ltb, ltb→lt, nltb→le, lit≤}
use lib.IntN.{ℤ, pos, negsuc, neg_ℤ, nat_abs, ◌+ℤ◌, ◌-ℤ◌, ◌*ℤ◌}
use lib.Ieee.{Float, nan, inf, fin, Format, prec, emax, up, down, unlike, round, sum, add, sub, mul, neg, of_int}
use lib.Ieee.Exact.{HasValue}
use lib.Ieee.Back.{round_whole}
use lib.Ieee.Fits.{down_pos}
use lib.Ieee.Scale.{round_same}
use Rattle.whole.proofs.Balance.{P, N, add_balance, sub_balanceℤ, neg_P, neg_N, pos_P, pos_N, balance_eq}
use Rattle.floats.specs.Value.{with_sign, Whole, Within, Near}
use Rattle.floats.proofs.Rounded.{round_within}

-- ---- with_sign numbers
signed_P : (s : Bool) (n : ℕ) → P (with_sign s n) + N (with_sign s n) ≡ n
signed_P true n = omega (arith, neg_P (pos n), neg_N (pos n), pos_P n, pos_N n)
signed_P false n = omega (arith, pos_P n, pos_N n)

pub nat_abs_signed : (s : Bool) (n : ℕ) → nat_abs (with_sign s n) ≡ n
nat_abs_signed true zero = refl
nat_abs_signed true (suc n) = refl
nat_abs_signed false n = refl

abs_PN : (z : ℤ) → nat_abs z ≡ P z + N z
unfolding P N
abs_PN (pos n) = omega arith
abs_PN (negsuc n) = omega arith

-- |x - y| from the two halves
pub close : (d : ℕ) (x y : ℤ) → P x + N y ≤ P y + N x + d → P y + N x ≤ P x + N y + d → Near d x y
unfolding P N
close d x y h k = go (x -ℤ y) (sub_balanceℤ x y)
  where
    go : (z : ℤ) → P z + (N x + P y) ≡ N z + (P x + N y) → nat_abs z ≤ d
    go (pos n) e = omega arith
    go (negsuc n) e = omega arith

pub halves : (d : ℕ) (x y : ℤ) → Near d x y → (P x + N y ≤ P y + N x + d) × (P y + N x ≤ P x + N y + d)
unfolding P N
halves d x y h = go (x -ℤ y) (sub_balanceℤ x y) h
  where
    go : (z : ℤ) → P z + (N x + P y) ≡ N z + (P x + N y) → nat_abs z ≤ d → (P x + N y ≤ P y + N x + d) × (P y + N x ≤ P x + N y + d)
    go (pos n) e h = (omega arith, omega arith)
    go (negsuc n) e h = (omega arith, omega arith)

signed_near : (s : Bool) (j d r n : ℕ) → 2 ^ j ≤ d * 2 + 1 → Within (2 ^ j) (r * 2) (n * 2) → Near d (with_sign s r) (with_sign s n)
signed_near true j d r n h w =
    close d (with_sign true r) (with_sign true n) (omega (arith, neg_P (pos r), neg_N (pos r), neg_P (pos n), neg_N (pos n), pos_P r, pos_N r, pos_P n, pos_N n))
    (omega (arith, neg_P (pos r), neg_N (pos r), neg_P (pos n), neg_N (pos n), pos_P r, pos_N r, pos_P n, pos_N n))
signed_near false j d r n h w =
    close d (with_sign false r) (with_sign false n) (omega (arith, pos_P r, pos_N r, pos_P n, pos_N n)) (omega (arith, pos_P r, pos_N r, pos_P n, pos_N n))

sub_mul : (a b c : ℕ) → (a - b) * c ≡ a * c - b * c
sub_mul a b c = mul_comm (a - b) c ∙ mul-sub c a b ∙ ap₂ ◌-◌ (mul_comm c a) (mul_comm c b)

-- ---- a rounded number
pub record Rounded (x : Float) (d : ℕ) (exact : ℤ) : Type 0 where
  pub near : ℤ
  pub whole : Whole x near
  pub by : Near d near exact

module _ (f : Format) (j d : ℕ) (room : prec f + j + 1 ≤ suc (emax f)) (half : 2 ^ j ≤ d * 2 + 1) where
  rounded : (s : Bool) (n : ℕ) (z : ℤ) → with_sign s n ≡ z → nat_abs z < 2 ^ (prec f + j) → Rounded (round f s n 1) d z
  rounded s n z e h =
      let m : n < 2 ^ (prec f + j) = subst (λ (x : ℕ). x < 2 ^ (prec f + j)) (ap nat_abs (sym e) ∙ nat_abs_signed s n) h in
      let r = round_within f s j n m room in
      record {
        near = with_sign s r.0;
        whole = record { negative = s; size = r.0; value = r.1; is = refl };
        by = subst (Near d (with_sign s r.0)) e (signed_near s j d r.0 n half r.2);
      }

  -- ---- products
  product : (s t : Bool) (a b : ℕ) → with_sign (unlike s t) (a * b) ≡ with_sign s a *ℤ with_sign t b
  product true true zero zero = refl
  product true true zero (suc b) = simp zero-mul
  product true true (suc a) zero = simp unary_clauses
  product true true (suc a) (suc b) = refl
  product true false zero b = simp zero-mul
  product true false (suc a) b = refl
  product false true a zero = simp unary_clauses
  product false true a (suc b) = refl
  product false false a b = refl

  mul_is : (x y : Float) (s t : Bool) (a b : ℕ) → HasValue x s a 1 → HasValue y t b 1 → mul f x y ≡ round f (unlike s t) (a * b) 1
  unfolding mul
  mul_is nan y s t a b v w = absurd v
  mul_is (inf u) y s t a b v w = absurd v
  mul_is (fin u m e) nan s t a b v w = absurd w
  mul_is (fin u m e) (inf o) s t a b v w = absurd w
  mul_is (fin u m e) (fin o n c) s t a b v w =
      ap₂ (λ (g h : Bool). round f (unlike g h) (m * up e * (n * up c)) (down e * down c)) v.0 w.0
      ∙ round_same f (unlike s t) (m * up e * (n * up c)) (down e * down c) (a * b) 1 (mul-pos (down_pos e) (down_pos c)) (lit≤ tt)
      (cross (m * up e) (n * up c) a b (down e) (down c) v.1 w.1)
    where
      cross : (x y a b p q : ℕ) → x * 1 ≡ a * p → y * 1 ≡ b * q → x * y * 1 ≡ a * b * (p * q)
      cross x y a b p q g h = mul-one (x * y) ∙ ap₂ ◌*◌ (sym (mul-one x) ∙ g) (sym (mul-one y) ∙ h) ∙ swap a b p q
        where
          swap : (a b p q : ℕ) → a * p * (b * q) ≡ a * b * (p * q)
          swap a b p q = omega arith

  pub mul_rounded : (x y : Float) (u v : ℤ) → Whole x u → Whole y v → nat_abs (u *ℤ v) < 2 ^ (prec f + j) → Rounded (mul f x y) d (u *ℤ v)
  mul_rounded x y u v p q h =
      subst (λ (z : Float). Rounded z d (u *ℤ v)) (sym (mul_is x y p.negative q.negative p.size q.size p.value q.value))
      (rounded (unlike p.negative q.negative) (p.size * q.size) (u *ℤ v)
      (product p.negative q.negative p.size q.size ∙ ap₂ ◌*ℤ◌ p.is q.is) h)

  -- ---- sums
  record Sum (x : Float) (z : ℤ) : Type 0 where
    pub negative : Bool
    pub size : ℕ
    pub float : x ≡ round f negative size 1
    pub is : with_sign negative size ≡ z

  over_one : (s : Bool) (a c : ℕ) → 0 < c → round f s (a * c) c ≡ round f s a 1
  over_one s a c h = round_same f s (a * c) c a 1 h (lit≤ tt) (mul-one (a * c))

  sum_is : (s t : Bool) (a b c : ℕ) → 0 < c → Sum (sum f s (a * c) t (b * c) c) (with_sign s a +ℤ with_sign t b)
  unfolding sum
  sum_is true true a b c h = record {
    negative = true;
    size = a + b;
    float = ap (λ (x : ℕ). round f true x c) (sym (add-mul a b c)) ∙ over_one true (a + b) c h;
    is = balance_eq (with_sign true (a + b)) (with_sign true a +ℤ with_sign true b) (omega (arith, add_balance (with_sign true a) (with_sign true b), neg_P (pos a), neg_N (pos a), neg_P (pos b), neg_N (pos b), neg_P (pos (a + b)), neg_N (pos (a + b)), pos_P a, pos_N a, pos_P b, pos_N b, pos_P (a + b), pos_N (a + b)));
  }
  sum_is false false a b c h = record {
    negative = false;
    size = a + b;
    float = ap (λ (x : ℕ). round f false x c) (sym (add-mul a b c)) ∙ over_one false (a + b) c h;
    is = refl;
  }
  sum_is true false a b c h = go (ltb (a * c) (b * c)) (ltb→lt (a * c) (b * c)) (nltb→le (a * c) (b * c))
    where
      less : a * c < b * c → a < b
      less g = lt_of_not-le (λ (k : b ≤ a). not-le_of_lt g (mul-le-mul_right c k))

      last : (t : Bool) → (T t → b * c < a * c) → (T (not t) → a * c ≤ b * c) → b ≤ a → Sum (round f t (a * c - b * c) c) (with_sign true a +ℤ with_sign false b)
      last true g k l = record {
        negative = true;
        size = a - b;
        float = ap (λ (x : ℕ). round f true x c) (sym (sub_mul a b c)) ∙ over_one true (a - b) c h;
        is = balance_eq (with_sign true (a - b)) (with_sign true a +ℤ with_sign false b) (omega (arith, add_balance (with_sign true a) (with_sign false b), neg_P (pos a), neg_N (pos a), neg_P (pos (a - b)), neg_N (pos (a - b)), pos_P a, pos_N a, pos_P b, pos_N b, pos_P (a - b), pos_N (a - b)));
      }
      last false g k l = record {
        negative = false;
        size = a - b;
        float = ap (λ (x : ℕ). round f false x c) (sym (sub_mul a b c)) ∙ over_one false (a - b) c h;
        is = balance_eq (with_sign false (a - b)) (with_sign true a +ℤ with_sign false b) (omega (arith, le_of_mul-le-mul_right (k tt) h, add_balance (with_sign true a) (with_sign false b), neg_P (pos a), neg_N (pos a), pos_P a, pos_N a, pos_P b, pos_N b, pos_P (a - b), pos_N (a - b)));
      }

      go : (t : Bool) → (T t → a * c < b * c) → (T (not t) → b * c ≤ a * c)
          → Sum (cond t (round f false (b * c - a * c) c) (round f (ltb (b * c) (a * c)) (a * c - b * c) c)) (with_sign true a +ℤ with_sign false b)
      go true g k = record {
        negative = false;
        size = b - a;
        float = ap (λ (x : ℕ). round f false x c) (sym (sub_mul b a c)) ∙ over_one false (b - a) c h;
        is = balance_eq (with_sign false (b - a)) (with_sign true a +ℤ with_sign false b) (omega (arith, less (g tt), add_balance (with_sign true a) (with_sign false b), neg_P (pos a), neg_N (pos a), pos_P a, pos_N a, pos_P b, pos_N b, pos_P (b - a), pos_N (b - a)));
      }
      go false g k = last (ltb (b * c) (a * c)) (ltb→lt (b * c) (a * c)) (nltb→le (b * c) (a * c)) (le_of_mul-le-mul_right (k tt) h)
  sum_is false true a b c h = go (ltb (a * c) (b * c)) (ltb→lt (a * c) (b * c)) (nltb→le (a * c) (b * c))
    where
      less : a * c < b * c → a < b
      less g = lt_of_not-le (λ (k : b ≤ a). not-le_of_lt g (mul-le-mul_right c k))

      go : (t : Bool) → (T t → a * c < b * c) → (T (not t) → b * c ≤ a * c)
          → Sum (cond t (round f true (b * c - a * c) c) (round f false (a * c - b * c) c)) (with_sign false a +ℤ with_sign true b)
      go true g k = record {
        negative = true;
        size = b - a;
        float = ap (λ (x : ℕ). round f true x c) (sym (sub_mul b a c)) ∙ over_one true (b - a) c h;
        is = balance_eq (with_sign true (b - a)) (with_sign false a +ℤ with_sign true b) (omega (arith, less (g tt), add_balance (with_sign false a) (with_sign true b), neg_P (pos b), neg_N (pos b), neg_P (pos (b - a)), neg_N (pos (b - a)), pos_P a, pos_N a, pos_P b, pos_N b, pos_P (b - a), pos_N (b - a)));
      }
      go false g k = record {
        negative = false;
        size = a - b;
        float = ap (λ (x : ℕ). round f false x c) (sym (sub_mul a b c)) ∙ over_one false (a - b) c h;
        is = balance_eq (with_sign false (a - b)) (with_sign false a +ℤ with_sign true b) (omega (arith, le_of_mul-le-mul_right (k tt) h, add_balance (with_sign false a) (with_sign true b), neg_P (pos b), neg_N (pos b), pos_P a, pos_N a, pos_P b, pos_N b, pos_P (a - b), pos_N (a - b)));
      }

  add_is : (x y : Float) (s t : Bool) (a b : ℕ) → HasValue x s a 1 → HasValue y t b 1 → Sum (add f x y) (with_sign s a +ℤ with_sign t b)
  unfolding add
  add_is nan y s t a b v w = absurd v
  add_is (inf u) y s t a b v w = absurd v
  add_is (fin u m e) nan s t a b v w = absurd w
  add_is (fin u m e) (inf o) s t a b v w = absurd w
  add_is (fin u m e) (fin o n c) s t a b v w =
      subst (λ (g : Bool). Sum (sum f g (m * up e * down c) o (n * up c * down e) (down e * down c)) (with_sign s a +ℤ with_sign t b)) (sym v.0)
      (subst (λ (g : Bool). Sum (sum f s (m * up e * down c) g (n * up c * down e) (down e * down c)) (with_sign s a +ℤ with_sign t b)) (sym w.0)
      (subst (λ (g : ℕ). Sum (sum f s g t (n * up c * down e) (down e * down c)) (with_sign s a +ℤ with_sign t b)) (left (m * up e) a (down e) (down c) v.1)
      (subst (λ (g : ℕ). Sum (sum f s (a * (down e * down c)) t g (down e * down c)) (with_sign s a +ℤ with_sign t b)) (right (n * up c) b (down e) (down c) w.1)
      (sum_is s t a b (down e * down c) (mul-pos (down_pos e) (down_pos c))))))
    where
      left : (x a p q : ℕ) → x * 1 ≡ a * p → a * (p * q) ≡ x * q
      left x a p q h = assoc a p q ∙ ap (λ (z : ℕ). z * q) (sym h ∙ mul-one x)
        where
          assoc : (a p q : ℕ) → a * (p * q) ≡ a * p * q
          assoc a p q = omega arith

      right : (x b p q : ℕ) → x * 1 ≡ b * q → b * (p * q) ≡ x * p
      right x b p q h = assoc b p q ∙ ap (λ (z : ℕ). z * p) (sym h ∙ mul-one x)
        where
          assoc : (b p q : ℕ) → b * (p * q) ≡ b * q * p
          assoc b p q = omega arith

  neg_value : (x : Float) (s : Bool) (a : ℕ) → HasValue x s a 1 → HasValue (neg x) (not s) a 1
  unfolding neg
  neg_value nan s a v = v
  neg_value (inf t) s a v = v
  neg_value (fin t m e) s a v = (ap not v.0, v.1)

  neg_signed : (s : Bool) (n : ℕ) → with_sign (not s) n ≡ neg_ℤ (with_sign s n)
  neg_signed true zero = refl
  neg_signed true (suc n) = refl
  neg_signed false n = refl

  pub sub_rounded : (x y : Float) (u v : ℤ) → Whole x u → Whole y v → nat_abs (u -ℤ v) < 2 ^ (prec f + j) → Rounded (sub f x y) d (u -ℤ v)
  unfolding sub
  sub_rounded x y u v p q h =
      let r = add_is x (neg y) p.negative (not q.negative) p.size q.size p.value (neg_value y q.negative q.size q.value) in
      subst (λ (z : Float). Rounded z d (u -ℤ v)) (sym r.float)
      (rounded r.negative r.size (u -ℤ v)
      (r.is ∙ ap₂ ◌+ℤ◌ p.is (neg_signed q.negative q.size ∙ ap neg_ℤ q.is)) h)

-- ---- conversions, which are exact
pub of_int_whole : (f : Format) (z : ℤ) → nat_abs z ≤ 2 ^ prec f → Whole (of_int f z) z
unfolding of_int
of_int_whole f (pos n) h = record { negative = false; size = n; value = round_whole f false n h; is = refl }
of_int_whole f (negsuc n) h = record { negative = true; size = suc n; value = round_whole f true (suc n) h; is = refl }

-- where nothing is lost the whole number is the exact one
pub exact : (x : Float) (z : ℤ) → Rounded x 0 z → Whole x z
exact x z r = subst (Whole x) (balance_eq r.near z (omega (arith, halves 0 r.near z r.by))) r.whole
