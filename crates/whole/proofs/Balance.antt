-- A whole number as a difference of naturals, z = P z − N z, with the balance of sums, negations and orders: so `omega` reads and proves
-- linear facts of ℤ, given the balances of the sums that occur.
use Prim.Native.Nat.{ℕ, zero, suc, ◌+◌, ◌-◌, ◌≤◌, ◌<◌}
use native.Mathlib.Omega.{arith}
use mathlib.Core.Path.{◌≡◌, refl, ap, subst}
use mathlib.Core.Bool.{Bool, true, false, not, cond}
use lib.Dec.{T, ltb, leb→le, le→leb, ltb→lt, lt→ltb, nltb→le, eqb→eq, eqb_refl}
use lib.IntN.{ℤ, pos, negsuc, neg_ℤ, sub_ℕ, ◌+ℤ◌, ◌-ℤ◌}
use lib.Signed.{lt_z, le_z}
use Rattle.whole.specs.Count.{eq_z}

unfoldable pub P : ℤ → ℕ
P (pos n) = n
P (negsuc n) = 0

unfoldable pub N : ℤ → ℕ
N (pos n) = 0
N (negsuc n) = suc n

-- ---- sums and negations

sub_balance : (a b : ℕ) → P (sub_ℕ a b) + b ≡ N (sub_ℕ a b) + a
unfolding P N
sub_balance a b = go (ltb a b) (ltb→lt a b) (nltb→le a b)
  where
    go : (t : Bool) → (T t → a < b) → (T (not t) → b ≤ a)
        → P (cond t (negsuc (b - suc a)) (pos (a - b))) + b ≡ N (cond t (negsuc (b - suc a)) (pos (a - b))) + a
    go true f g = let h : a < b = f tt in omega arith
    go false f g = let h : b ≤ a = g tt in omega arith

pub add_balance : (x y : ℤ) → P (x +ℤ y) + (N x + N y) ≡ N (x +ℤ y) + (P x + P y)
unfolding P N
add_balance (pos a) (pos b) = omega arith
add_balance (pos a) (negsuc b) = omega (arith, sub_balance a (suc b))
add_balance (negsuc a) (pos b) = omega (arith, sub_balance b (suc a))
add_balance (negsuc a) (negsuc b) = omega arith

pub neg_P : (x : ℤ) → P (neg_ℤ x) ≡ N x
unfolding P N
neg_P (pos zero) = refl
neg_P (pos (suc n)) = refl
neg_P (negsuc n) = refl

pub neg_N : (x : ℤ) → N (neg_ℤ x) ≡ P x
unfolding P N
neg_N (pos zero) = refl
neg_N (pos (suc n)) = refl
neg_N (negsuc n) = refl

pub sub_balanceℤ : (x y : ℤ) → P (x -ℤ y) + (N x + P y) ≡ N (x -ℤ y) + (P x + N y)
sub_balanceℤ x y = omega (arith, add_balance x (neg_ℤ y), neg_P y, neg_N y)

pub pos_P : (n : ℕ) → P (pos n) ≡ n
unfolding P
pos_P n = refl

pub pos_N : (n : ℕ) → N (pos n) ≡ 0
unfolding N
pos_N n = refl

-- ---- equality and order

pub balance_eq : (x y : ℤ) → P x + N y ≡ P y + N x → x ≡ y
unfolding P N
balance_eq (pos a) (pos b) e = ap pos (drop_zeros a b e)
  where
    drop_zeros : (a b : ℕ) → a + 0 ≡ b + 0 → a ≡ b
    drop_zeros a b e = omega arith
balance_eq (pos a) (negsuc b) e = absurd (no_sum a b e)
  where
    no_sum : (a b : ℕ) → a + suc b ≡ 0 + 0 → ⊥
    no_sum a b e = omega arith
balance_eq (negsuc a) (pos b) e = absurd (no_sum a b e)
  where
    no_sum : (a b : ℕ) → 0 + 0 ≡ b + suc a → ⊥
    no_sum a b e = omega arith
balance_eq (negsuc a) (negsuc b) e = ap negsuc (drop_sucs a b e)
  where
    drop_sucs : (a b : ℕ) → 0 + suc b ≡ 0 + suc a → a ≡ b
    drop_sucs a b e = omega arith

pub lt_z_read : (x y : ℤ) → T (lt_z x y) → P x + N y < P y + N x
unfolding P N
lt_z_read (pos a) (pos b) t = let h = ltb→lt a b t in omega arith
lt_z_read (pos a) (negsuc b) t = absurd t
lt_z_read (negsuc a) (pos b) t = omega arith
lt_z_read (negsuc a) (negsuc b) t = let h = ltb→lt b a t in omega arith

pub lt_z_make : (x y : ℤ) → P x + N y < P y + N x → T (lt_z x y)
unfolding P N
lt_z_make (pos a) (pos b) h = lt→ltb a b (omega arith)
lt_z_make (pos a) (negsuc b) h = impossible a b h
  where
    impossible : (a b : ℕ) → a + suc b < 0 + 0 → ⊥
    impossible a b h = omega arith
lt_z_make (negsuc a) (pos b) h = tt
lt_z_make (negsuc a) (negsuc b) h = lt→ltb b a (omega arith)

pub le_z_read : (x y : ℤ) → T (le_z x y) → P x + N y ≤ P y + N x
unfolding P N
le_z_read (pos a) (pos b) t = let h = leb→le a b t in omega arith
le_z_read (pos a) (negsuc b) t = absurd t
le_z_read (negsuc a) (pos b) t = omega arith
le_z_read (negsuc a) (negsuc b) t = let h = leb→le b a t in omega arith

pub le_z_make : (x y : ℤ) → P x + N y ≤ P y + N x → T (le_z x y)
unfolding P N
le_z_make (pos a) (pos b) h = le→leb a b (omega arith)
le_z_make (pos a) (negsuc b) h = impossible a b h
  where
    impossible : (a b : ℕ) → a + suc b ≤ 0 + 0 → ⊥
    impossible a b h = omega arith
le_z_make (negsuc a) (pos b) h = tt
le_z_make (negsuc a) (negsuc b) h = le→leb b a (omega arith)

pub eq_z_read : (x y : ℤ) → T (eq_z x y) → x ≡ y
eq_z_read (pos a) (pos b) t = ap pos (eqb→eq a b t)
eq_z_read (pos a) (negsuc b) t = absurd t
eq_z_read (negsuc a) (pos b) t = absurd t
eq_z_read (negsuc a) (negsuc b) t = ap negsuc (eqb→eq a b t)

eq_z_refl : (x : ℤ) → T (eq_z x x)
eq_z_refl (pos a) = eqb_refl a
eq_z_refl (negsuc a) = eqb_refl a

pub eq_z_make : (x y : ℤ) → x ≡ y → T (eq_z x y)
eq_z_make x y e = subst (λ z. T (eq_z x z)) e (eq_z_refl x)
