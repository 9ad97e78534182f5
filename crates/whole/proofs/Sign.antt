-- Signs of whole numbers, as records over the number so that it can be inferred: closure under sum and product, cancellation of a positive
-- factor, and the tests lt_z, le_z, eq_z as signs of a difference. An inequality is then an identity (Solver) and closure.
use Prim.Native.Nat.{ℕ, zero, suc, ◌≤◌, ◌<◌}
use native.Mathlib.Omega.{arith}
use mathlib.Core.Path.{◌≡◌, refl, sym, ap, ◌∙◌, subst}
use mathlib.Core.Bool.{Bool, not}
use lib.Dec.{T, T_not, not_T}
use lib.IntN.{ℤ, pos, negsuc, neg_ℤ, ◌+ℤ◌, ◌-ℤ◌, ◌*ℤ◌, zero-*ℤ, *ℤ_comm, neg_ℤ-neg_ℤ}
use lib.Signed.{lt_z, le_z}
use Rattle.whole.specs.Count.{eq_z}
use Rattle.whole.proofs.Balance.{P, N, add_balance, sub_balanceℤ, neg_P, neg_N, pos_P, pos_N, balance_eq, lt_z_read, lt_z_make, le_z_read, le_z_make, eq_z_read, eq_z_make}
use Rattle.whole.proofs.Logic.{same_test}
use Rattle.whole.proofs.Ring.{neg_mul, distrib_left}

pub record Pos (z : ℤ) : Type 0 where
  pub above : N z < P z

pub record NonNeg (z : ℤ) : Type 0 where
  pub least : N z ≤ P z

pub record Neg (z : ℤ) : Type 0 where
  pub below : P z < N z

pub record NonPos (z : ℤ) : Type 0 where
  pub most : P z ≤ N z

pub neg_pos : {z : ℤ} → Neg z → Pos (neg_ℤ z)
neg_pos {z} h = record { above = omega (arith, neg_P z, neg_N z) }

pub pos_neg : {z : ℤ} → Pos z → Neg (neg_ℤ z)
pos_neg {z} h = record { below = omega (arith, neg_P z, neg_N z) }

pub neg_of_pos : (z : ℤ) → Pos (neg_ℤ z) → Neg z
neg_of_pos z h = record { below = omega (arith, neg_P z, neg_N z) }

pub pos_of_neg : (z : ℤ) → Neg (neg_ℤ z) → Pos z
pos_of_neg z h = record { above = omega (arith, neg_P z, neg_N z) }

-- ---- the three signs

pub data Sign (z : ℤ) : Type 0 where
  minus : Neg z → Sign z
  nought : z ≡ pos 0 → Sign z
  plus : Pos z → Sign z

pub sign : (z : ℤ) → Sign z
unfolding P N
sign (pos zero) = nought refl
sign (pos (suc n)) = plus (record { above = omega arith })
sign (negsuc n) = minus (record { below = omega arith })

pub pos_nonneg : {z : ℤ} → Pos z → NonNeg z
pos_nonneg h = record { least = omega arith }

pub zero_nonneg : {z : ℤ} → z ≡ pos 0 → NonNeg z
zero_nonneg {z} e = subst NonNeg (sym e) (record { least = omega (arith, pos_P 0, pos_N 0) })

pub neg_nonpos : {z : ℤ} → Neg z → NonPos z
neg_nonpos h = record { most = omega arith }

pub zero_nonpos : {z : ℤ} → z ≡ pos 0 → NonPos z
zero_nonpos {z} e = subst NonPos (sym e) (record { most = omega (arith, pos_P 0, pos_N 0) })

pub one_pos : (n : ℕ) → Pos (pos (suc n))
one_pos n = record { above = omega (arith, pos_P (suc n), pos_N (suc n)) }

pub lit_pos : (n : ℕ) → 0 < n → Pos (pos n)
lit_pos n h = record { above = omega (arith, pos_P n, pos_N n) }

pub lit_nonneg : (n : ℕ) → NonNeg (pos n)
lit_nonneg n = record { least = omega (arith, pos_P n, pos_N n) }

pub data Weak (z : ℤ) : Type 0 where
  weak_zero : z ≡ pos 0 → Weak z
  weak_plus : Pos z → Weak z

pub weak : {z : ℤ} → NonNeg z → Weak z
weak {z} h = go (sign z)
  where
    clash : NonNeg z → Neg z → ⊥
    clash h k = omega arith

    go : Sign z → Weak z
    go (minus k) = absurd (clash h k)
    go (nought e) = weak_zero e
    go (plus k) = weak_plus k

-- z is at least zero, or below it
pub data Half (z : ℤ) : Type 0 where
  at_least_lem : NonNeg z → Half z
  under : Neg z → Half z

pub half : (z : ℤ) → Half z
half z = go (sign z)
  where
    go : Sign z → Half z
    go (minus k) = under k
    go (nought e) = at_least_lem (zero_nonneg e)
    go (plus k) = at_least_lem (pos_nonneg k)

-- two numbers: of one strict sign, or weakly opposite
pub data Signs (x y : ℤ) : Type 0 where
  both_plus : Pos x → Pos y → Signs x y
  both_minus : Neg x → Neg y → Signs x y
  falling : NonNeg x → NonNeg (neg_ℤ y) → Signs x y
  rising : NonNeg (neg_ℤ x) → NonNeg y → Signs x y

pub signs : (x y : ℤ) → Signs x y
signs x y = go (sign x) (sign y)
  where
    go : Sign x → Sign y → Signs x y
    go (minus h) (minus k) = both_minus h k
    go (minus h) (nought k) = rising (pos_nonneg (neg_pos h)) (zero_nonneg k)
    go (minus h) (plus k) = rising (pos_nonneg (neg_pos h)) (pos_nonneg k)
    go (nought h) (minus k) = falling (zero_nonneg h) (pos_nonneg (neg_pos k))
    go (nought h) (nought k) = falling (zero_nonneg h) (zero_nonneg (ap neg_ℤ k))
    go (nought h) (plus k) = rising (zero_nonneg (ap neg_ℤ h)) (pos_nonneg k)
    go (plus h) (minus k) = falling (pos_nonneg h) (pos_nonneg (neg_pos k))
    go (plus h) (nought k) = falling (pos_nonneg h) (zero_nonneg (ap neg_ℤ k))
    go (plus h) (plus k) = both_plus h k

-- a number above zero is a natural
pub pos_lit : (z : ℤ) → Pos z → (n : ℕ) × (0 < n) × (pos n ≡ z)
unfolding P N
pos_lit (pos n) h = (n, omega arith, refl)
pos_lit (negsuc n) h = absurd (below h)
  where
    below : Pos (negsuc n) → ⊥
    below k = omega arith

-- ---- clashes

pub pos_clash {ℓ} : {A : Type ℓ} {z : ℤ} → Pos z → Neg z → A
pos_clash {z = z} h k = absurd (clash h k)
  where
    clash : Pos z → Neg z → ⊥
    clash h k = omega arith

pub nonneg_clash {ℓ} : {A : Type ℓ} {z : ℤ} → NonNeg z → Neg z → A
nonneg_clash {z = z} h k = absurd (clash h k)
  where
    clash : NonNeg z → Neg z → ⊥
    clash h k = omega arith

pub nonpos_clash {ℓ} : {A : Type ℓ} {z : ℤ} → NonPos z → Pos z → A
nonpos_clash {z = z} h k = absurd (clash h k)
  where
    clash : NonPos z → Pos z → ⊥
    clash h k = omega arith

pub zero_pos {ℓ} : {A : Type ℓ} {z : ℤ} → z ≡ pos 0 → Pos z → A
zero_pos {z = z} e h = absurd (clash (subst Pos e h))
  where
    clash : Pos (pos 0) → ⊥
    clash k = omega (arith, pos_P 0, pos_N 0)

pub neg_zero : {z : ℤ} → z ≡ pos 0 → neg_ℤ z ≡ pos 0
neg_zero e = ap neg_ℤ e

pub zero_of_neg : {z : ℤ} → neg_ℤ z ≡ pos 0 → z ≡ pos 0
zero_of_neg {z} e = sym (neg_ℤ-neg_ℤ z) ∙ ap neg_ℤ e

pub zero_neg {ℓ} : {A : Type ℓ} {z : ℤ} → z ≡ pos 0 → Neg z → A
zero_neg e h = zero_pos (neg_zero e) (neg_pos h)

pub nonneg_both : {z : ℤ} → NonNeg z → NonNeg (neg_ℤ z) → z ≡ pos 0
nonneg_both {z} h k = balance_eq z (pos 0) (omega (arith, neg_P z, neg_N z, pos_P 0, pos_N 0))

-- ---- sums

pub pos_add : {x y : ℤ} → Pos x → Pos y → Pos (x +ℤ y)
pos_add {x} {y} h k = record { above = omega (arith, add_balance x y) }

pub pos_add_nonneg : {x y : ℤ} → Pos x → NonNeg y → Pos (x +ℤ y)
pos_add_nonneg {x} {y} h k = record { above = omega (arith, add_balance x y) }

pub nonneg_add_pos : {x y : ℤ} → NonNeg x → Pos y → Pos (x +ℤ y)
nonneg_add_pos {x} {y} h k = record { above = omega (arith, add_balance x y) }

pub nonneg_add : {x y : ℤ} → NonNeg x → NonNeg y → NonNeg (x +ℤ y)
nonneg_add {x} {y} h k = record { least = omega (arith, add_balance x y) }

-- summands that are not negative vanish with their sum
pub sum_zero_left : {x y : ℤ} → NonNeg x → NonNeg y → x +ℤ y ≡ pos 0 → x ≡ pos 0
sum_zero_left {x} {y} h k e = balance_eq x (pos 0) (omega (arith, add_balance x y, ap P e, ap N e, pos_P 0, pos_N 0))

pub sum_zero_right : {x y : ℤ} → NonNeg x → NonNeg y → x +ℤ y ≡ pos 0 → y ≡ pos 0
sum_zero_right {x} {y} h k e = balance_eq y (pos 0) (omega (arith, add_balance x y, ap P e, ap N e, pos_P 0, pos_N 0))

pub neg_sub_pos : {x y : ℤ} → Neg x → Pos y → Neg (x -ℤ y)
neg_sub_pos {x} {y} h k = record { below = omega (arith, sub_balanceℤ x y) }

-- ---- products

pub pos_mul : {x y : ℤ} → Pos x → Pos y → Pos (x *ℤ y)
unfolding P N
pos_mul {x = pos zero} h k = absurd (zero_pos refl h)
pos_mul {x = pos (suc a)} {y = pos zero} h k = absurd (zero_pos refl k)
pos_mul {x = pos (suc a)} {y = pos (suc b)} h k = record { above = omega arith }
pos_mul {x = pos (suc a)} {y = negsuc b} h k = absurd (below k)
  where
    below : {b : ℕ} → Pos (negsuc b) → ⊥
    below k = omega arith
pos_mul {x = negsuc a} h k = absurd (below h)
  where
    below : {b : ℕ} → Pos (negsuc b) → ⊥
    below k = omega arith

pub mul_zero_left : {x : ℤ} (y : ℤ) → x ≡ pos 0 → x *ℤ y ≡ pos 0
mul_zero_left y e = ap (λ z. z *ℤ y) e ∙ zero-*ℤ y

pub mul_zero_right : (x : ℤ) {y : ℤ} → y ≡ pos 0 → x *ℤ y ≡ pos 0
mul_zero_right x {y} e = *ℤ_comm x y ∙ mul_zero_left x e

pub nonneg_mul : {x y : ℤ} → NonNeg x → NonNeg y → NonNeg (x *ℤ y)
nonneg_mul {x} {y} h k = go (weak h) (weak k)
  where
    go : Weak x → Weak y → NonNeg (x *ℤ y)
    go (weak_zero e) w = zero_nonneg (mul_zero_left y e)
    go (weak_plus p) (weak_zero e) = zero_nonneg (mul_zero_right x e)
    go (weak_plus p) (weak_plus q) = pos_nonneg (pos_mul p q)

mul_neg : (x y : ℤ) → x *ℤ neg_ℤ y ≡ neg_ℤ (x *ℤ y)
mul_neg x y = *ℤ_comm x (neg_ℤ y) ∙ neg_mul y x ∙ ap neg_ℤ (*ℤ_comm y x)

pub pos_mul_neg : {x y : ℤ} → Pos x → Neg y → Neg (x *ℤ y)
pos_mul_neg {x} {y} h k = neg_of_pos (x *ℤ y) (subst Pos (mul_neg x y) (pos_mul h (neg_pos k)))

pub neg_mul_pos : {x y : ℤ} → Neg x → Pos y → Neg (x *ℤ y)
neg_mul_pos {x} {y} h k = neg_of_pos (x *ℤ y) (subst Pos (neg_mul x y) (pos_mul (neg_pos h) k))

pub neg_mul_neg : {x y : ℤ} → Neg x → Neg y → Pos (x *ℤ y)
neg_mul_neg {x} {y} h k =
    subst Pos (neg_mul x (neg_ℤ y) ∙ ap neg_ℤ (mul_neg x y) ∙ neg_ℤ-neg_ℤ (x *ℤ y)) (pos_mul (neg_pos h) (neg_pos k))

-- ---- cancellation of a positive factor

pub cancel_zero : {k z : ℤ} → Pos k → k *ℤ z ≡ pos 0 → z ≡ pos 0
cancel_zero {k} {z} h e = go (sign z)
  where
    go : Sign z → z ≡ pos 0
    go (minus m) = zero_neg e (pos_mul_neg h m)
    go (nought m) = m
    go (plus m) = zero_pos e (pos_mul h m)

pub cancel_zero_right : {z k : ℤ} → Pos k → z *ℤ k ≡ pos 0 → z ≡ pos 0
cancel_zero_right {z} {k} h e = cancel_zero h (*ℤ_comm k z ∙ e)

pub cancel_pos : {k z : ℤ} → Pos k → Pos (k *ℤ z) → Pos z
cancel_pos {k} {z} h p = go (sign z)
  where
    go : Sign z → Pos z
    go (minus m) = pos_clash p (pos_mul_neg h m)
    go (nought m) = zero_pos (mul_zero_right k m) p
    go (plus m) = m

pub cancel_nonneg : {k z : ℤ} → Pos k → NonNeg (k *ℤ z) → NonNeg z
cancel_nonneg {k} {z} h p = go (half z)
  where
    go : Half z → NonNeg z
    go (at_least_lem m) = m
    go (under m) = nonneg_clash p (pos_mul_neg h m)

pub cancel_neg : {k z : ℤ} → Pos k → Neg (k *ℤ z) → Neg z
cancel_neg {k} {z} h p = neg_of_pos z (cancel_pos h (subst Pos (sym (mul_neg k z)) (neg_pos p)))

-- the same with the positive factor unknown: a product with a weakly positive factor that is positive
pub pos_of_mul_nonneg : {k z : ℤ} → NonNeg k → Pos (k *ℤ z) → Pos k × Pos z
pos_of_mul_nonneg {k} {z} h p = go (weak h)
  where
    go : Weak k → Pos k × Pos z
    go (weak_zero e) = zero_pos (mul_zero_left z e) p
    go (weak_plus q) = (q, cancel_pos q p)

-- ---- the tests, as signs of a difference

pub lt_z_pos : (a b : ℤ) → T (lt_z a b) → Pos (b -ℤ a)
lt_z_pos a b t = record { above = omega (arith, lt_z_read a b t, sub_balanceℤ b a) }

pub pos_lt_z : (a b : ℤ) → Pos (b -ℤ a) → T (lt_z a b)
pos_lt_z a b h = lt_z_make a b (omega (arith, sub_balanceℤ b a))

pub le_z_nonneg : (a b : ℤ) → T (le_z a b) → NonNeg (b -ℤ a)
le_z_nonneg a b t = record { least = omega (arith, le_z_read a b t, sub_balanceℤ b a) }

pub nonneg_le_z : (a b : ℤ) → NonNeg (b -ℤ a) → T (le_z a b)
nonneg_le_z a b h = le_z_make a b (omega (arith, sub_balanceℤ b a))

pub eq_z_zero : (a b : ℤ) → T (eq_z a b) → b -ℤ a ≡ pos 0
eq_z_zero a b t = balance_eq (b -ℤ a) (pos 0) (omega (arith, ap P (eq_z_read a b t), ap N (eq_z_read a b t), sub_balanceℤ b a, pos_P 0, pos_N 0))

pub sub_zero_eq : (a b : ℤ) → b -ℤ a ≡ pos 0 → a ≡ b
sub_zero_eq a b e = balance_eq a b (omega (arith, ap P e, ap N e, sub_balanceℤ b a, pos_P 0, pos_N 0))

pub zero_eq_z : (a b : ℤ) → b -ℤ a ≡ pos 0 → T (eq_z a b)
zero_eq_z a b e = eq_z_make a b (sub_zero_eq a b e)

pub lt_z_le_z : (a b : ℤ) → lt_z a b ≡ not (le_z b a)
lt_z_le_z a b = same_test (lt_z a b) (not (le_z b a)) (λ t. not_T (le_z b a) (λ u. apart t u)) (λ t. pos_lt_z a b (back t (half (a -ℤ b))))
  where
    apart : T (lt_z a b) → T (le_z b a) → ⊥
    apart t u = omega (arith, lt_z_read a b t, le_z_read b a u)

    back : T (not (le_z b a)) → Half (a -ℤ b) → Pos (b -ℤ a)
    back t (at_least_lem h) = absurd (T_not (le_z b a) t (nonneg_le_z b a h))
    back t (under h) = record { above = omega (arith, sub_balanceℤ a b, sub_balanceℤ b a) }

-- of a single number
pub lt_z0_pos : (z : ℤ) → T (lt_z (pos 0) z) → Pos z
lt_z0_pos z t = record { above = omega (arith, lt_z_read (pos 0) z t, pos_P 0, pos_N 0) }

pub pos_lt_z0 : (z : ℤ) → Pos z → T (lt_z (pos 0) z)
pos_lt_z0 z h = lt_z_make (pos 0) z (omega (arith, pos_P 0, pos_N 0))

pub lt_z0_neg : (z : ℤ) → T (lt_z z (pos 0)) → Neg z
lt_z0_neg z t = record { below = omega (arith, lt_z_read z (pos 0) t, pos_P 0, pos_N 0) }

pub neg_lt_z0 : (z : ℤ) → Neg z → T (lt_z z (pos 0))
neg_lt_z0 z h = lt_z_make z (pos 0) (omega (arith, pos_P 0, pos_N 0))

pub le_z0_nonneg : (z : ℤ) → T (le_z (pos 0) z) → NonNeg z
le_z0_nonneg z t = record { least = omega (arith, le_z_read (pos 0) z t, pos_P 0, pos_N 0) }

pub nonneg_le_z0 : (z : ℤ) → NonNeg z → T (le_z (pos 0) z)
nonneg_le_z0 z h = le_z_make (pos 0) z (omega (arith, pos_P 0, pos_N 0))

pub lt_z_shift : (a b : ℤ) → lt_z a b ≡ lt_z (pos 0) (b -ℤ a)
lt_z_shift a b = same_test (lt_z a b) (lt_z (pos 0) (b -ℤ a)) (λ t. pos_lt_z0 (b -ℤ a) (lt_z_pos a b t)) (λ t. pos_lt_z a b (lt_z0_pos (b -ℤ a) t))

pub le_z_shift : (a b : ℤ) → le_z a b ≡ le_z (pos 0) (b -ℤ a)
le_z_shift a b = same_test (le_z a b) (le_z (pos 0) (b -ℤ a)) (λ t. nonneg_le_z0 (b -ℤ a) (le_z_nonneg a b t)) (λ t. nonneg_le_z a b (le_z0_nonneg (b -ℤ a) t))

-- no test sees a positive factor on both sides
module _ {k : ℤ} (h : Pos k) where
  times_test : (f : ℤ → ℤ → Bool) (A : ℤ → Type 0) → ((a b : ℤ) → T (f a b) → A (b -ℤ a)) → ((a b : ℤ) → A (b -ℤ a) → T (f a b))
      → ((z : ℤ) → A z → A (k *ℤ z)) → ((z : ℤ) → A (k *ℤ z) → A z) → (a b : ℤ) → f (k *ℤ a) (k *ℤ b) ≡ f a b
  times_test f A read make up down a b =
      same_test (f (k *ℤ a) (k *ℤ b)) (f a b) (λ t. make a b (down (b -ℤ a) (subst A apart (read (k *ℤ a) (k *ℤ b) t))))
      (λ t. make (k *ℤ a) (k *ℤ b) (subst A (sym apart) (up (b -ℤ a) (read a b t))))
    where
      apart : k *ℤ b -ℤ k *ℤ a ≡ k *ℤ (b -ℤ a)
      apart = sym (distrib_left k b (neg_ℤ a) ∙ ap (λ z. k *ℤ b +ℤ z) (mul_neg k a))

  pub lt_z_times : (a b : ℤ) → lt_z (k *ℤ a) (k *ℤ b) ≡ lt_z a b
  lt_z_times = times_test lt_z Pos lt_z_pos pos_lt_z (λ z. pos_mul h) (λ z. cancel_pos h)

  pub le_z_times : (a b : ℤ) → le_z (k *ℤ a) (k *ℤ b) ≡ le_z a b
  le_z_times = times_test le_z NonNeg le_z_nonneg nonneg_le_z (λ z. nonneg_mul (pos_nonneg h)) (λ z. cancel_nonneg h)

  pub eq_z_times : (a b : ℤ) → eq_z (k *ℤ a) (k *ℤ b) ≡ eq_z a b
  eq_z_times = times_test eq_z (λ z. z ≡ pos 0) eq_z_zero zero_eq_z (λ z. mul_zero_right k) (λ z. cancel_zero h)
