-- ℤ is a commutative ring: the laws that `lib.IntN` lacks, each by induction through successor and predecessor.
use mathlib.Core.Path.{◌≡◌, sym, ap, ◌∙◌, subst}
use lib.IntN.{ℤ, pos, neg_ℤ, suc_ℤ, pred_ℤ, one, ◌+ℤ◌, ◌-ℤ◌, ◌*ℤ◌, ℤ_ind, +ℤ_one, -ℤ_one, +ℤ_idl, +ℤ_idr, +ℤ_assoc, +ℤ_comm, +ℤ-suc_ℤ, +ℤ-pred_ℤ, +ℤ_invr, zero-*ℤ, *ℤ-one, *ℤ_comm, suc_ℤ-*ℤ, pred_ℤ-*ℤ}

pub by_steps : (A : ℤ → Type 0) → A (pos 0) → ((k : ℤ) → A k → A (suc_ℤ k)) → ((k : ℤ) → A k → A (pred_ℤ k)) → (k : ℤ) → A k
by_steps A z up down =
    ℤ_ind A z (λ n h. subst A (sym (+ℤ_one (pos n))) (up (pos n) h))
    (λ n h. subst A (sym (-ℤ_one (neg_ℤ (pos n)))) (down (neg_ℤ (pos n)) h))

pub add_left_comm : (a b c : ℤ) → a +ℤ (b +ℤ c) ≡ b +ℤ (a +ℤ c)
add_left_comm a b c = sym (+ℤ_assoc a b c) ∙ ap (λ x. x +ℤ c) (+ℤ_comm a b) ∙ +ℤ_assoc b a c

-- (m + k) c = m c + k c
pub distrib_right : (m k c : ℤ) → (m +ℤ k) *ℤ c ≡ m *ℤ c +ℤ k *ℤ c
distrib_right m k c = by_steps (λ k. (m +ℤ k) *ℤ c ≡ m *ℤ c +ℤ k *ℤ c) none up down k
  where
    none : (m +ℤ pos 0) *ℤ c ≡ m *ℤ c +ℤ pos 0 *ℤ c
    none = ap (λ x. x *ℤ c) (+ℤ_idr m) ∙ sym (ap (λ x. m *ℤ c +ℤ x) (zero-*ℤ c) ∙ +ℤ_idr (m *ℤ c))

    up : (k : ℤ) → (m +ℤ k) *ℤ c ≡ m *ℤ c +ℤ k *ℤ c → (m +ℤ suc_ℤ k) *ℤ c ≡ m *ℤ c +ℤ suc_ℤ k *ℤ c
    up k h =
        ap (λ x. x *ℤ c) (+ℤ-suc_ℤ m k) ∙ suc_ℤ-*ℤ (m +ℤ k) c ∙ ap (λ x. x +ℤ c) h
        ∙ +ℤ_assoc (m *ℤ c) (k *ℤ c) c ∙ ap (λ x. m *ℤ c +ℤ x) (sym (suc_ℤ-*ℤ k c))

    down : (k : ℤ) → (m +ℤ k) *ℤ c ≡ m *ℤ c +ℤ k *ℤ c → (m +ℤ pred_ℤ k) *ℤ c ≡ m *ℤ c +ℤ pred_ℤ k *ℤ c
    down k h =
        ap (λ x. x *ℤ c) (+ℤ-pred_ℤ m k) ∙ pred_ℤ-*ℤ (m +ℤ k) c ∙ ap (λ x. x -ℤ c) h
        ∙ +ℤ_assoc (m *ℤ c) (k *ℤ c) (neg_ℤ c) ∙ ap (λ x. m *ℤ c +ℤ x) (sym (pred_ℤ-*ℤ k c))

pub distrib_left : (c m k : ℤ) → c *ℤ (m +ℤ k) ≡ c *ℤ m +ℤ c *ℤ k
distrib_left c m k = *ℤ_comm c (m +ℤ k) ∙ distrib_right m k c ∙ ap (λ x. x +ℤ k *ℤ c) (*ℤ_comm m c) ∙ ap (λ x. c *ℤ m +ℤ x) (*ℤ_comm k c)

-- −(m c) = (−m) c: both are what m c lacks to zero
pub neg_mul : (m c : ℤ) → neg_ℤ m *ℤ c ≡ neg_ℤ (m *ℤ c)
neg_mul m c = opposite_unique (m *ℤ c) (neg_ℤ m *ℤ c) (sym (distrib_right m (neg_ℤ m) c) ∙ ap (λ x. x *ℤ c) (+ℤ_invr m) ∙ zero-*ℤ c)
  where
    opposite_unique : (a b : ℤ) → a +ℤ b ≡ pos 0 → b ≡ neg_ℤ a
    opposite_unique a b e =
        sym (+ℤ_idl b) ∙ ap (λ x. x +ℤ b) (sym (+ℤ_comm (neg_ℤ a) a ∙ +ℤ_invr a)) ∙ +ℤ_assoc (neg_ℤ a) a b
        ∙ ap (λ x. neg_ℤ a +ℤ x) e ∙ +ℤ_idr (neg_ℤ a)

pub mul_assoc : (m k c : ℤ) → (m *ℤ k) *ℤ c ≡ m *ℤ (k *ℤ c)
mul_assoc m k c = by_steps (λ m. (m *ℤ k) *ℤ c ≡ m *ℤ (k *ℤ c)) none up down m
  where
    none : (pos 0 *ℤ k) *ℤ c ≡ pos 0 *ℤ (k *ℤ c)
    none = ap (λ x. x *ℤ c) (zero-*ℤ k) ∙ zero-*ℤ c ∙ sym (zero-*ℤ (k *ℤ c))

    up : (m : ℤ) → (m *ℤ k) *ℤ c ≡ m *ℤ (k *ℤ c) → (suc_ℤ m *ℤ k) *ℤ c ≡ suc_ℤ m *ℤ (k *ℤ c)
    up m h =
        ap (λ x. x *ℤ c) (suc_ℤ-*ℤ m k) ∙ distrib_right (m *ℤ k) k c ∙ ap (λ x. x +ℤ k *ℤ c) h
        ∙ sym (suc_ℤ-*ℤ m (k *ℤ c))

    down : (m : ℤ) → (m *ℤ k) *ℤ c ≡ m *ℤ (k *ℤ c) → (pred_ℤ m *ℤ k) *ℤ c ≡ pred_ℤ m *ℤ (k *ℤ c)
    down m h =
        ap (λ x. x *ℤ c) (pred_ℤ-*ℤ m k) ∙ distrib_right (m *ℤ k) (neg_ℤ k) c ∙ ap (λ x. x +ℤ neg_ℤ k *ℤ c) h
        ∙ ap (λ x. m *ℤ (k *ℤ c) +ℤ x) (neg_mul k c) ∙ sym (pred_ℤ-*ℤ m (k *ℤ c))

pub one-mul : (m : ℤ) → pos 1 *ℤ m ≡ m
unfolding one
one-mul m = *ℤ_comm (pos 1) m ∙ *ℤ-one m
