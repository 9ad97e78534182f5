-- The side test without a wide product: what raised differences say of the side value, and where no product is needed.
use Prim.Native.Nat.{ℕ, zero, suc, ◌+◌, ◌*◌, ◌≤◌}
use native.Mathlib.Omega.{arith}
use mathlib.Core.Path.{◌≡◌, refl, sym, ap, ap₂, subst, ◌∙◌}
use mathlib.Core.Bool.{true, ◌&&◌}
use mathlib.Core.List.{[], ◌∷◌}
use lib.Dec.{T}
use lib.IntN.{ℤ, pos, negsuc, nat_abs, ◌+ℤ◌, ◌-ℤ◌, ◌*ℤ◌}
use lib.Signed.{lt_z, le_z}
use mir.Syntax.{w32}
use mir.Val.{to_z, of_z}
use mir.Facts.{to_z-of_z}
use Rattle.whole.proofs.Solver.{var, con, opp, ◌:+◌, ◌:-◌, ◌:*◌, solve}
use Rattle.whole.proofs.Balance.{P, N, add_balance, pos_P, pos_N}
use Rattle.whole.proofs.Sign.{Pos, NonNeg, Neg, Weak, weak, weak_zero, weak_plus, pos_nonneg, pos_mul, nonneg_mul, pos_add_nonneg, nonneg_add_pos, neg_of_pos, lt_z_pos, le_z_nonneg}
use Rattle.whole.proofs.Logic.{and_left, and_right, is_true}
use Rattle.plane.specs.declared.Point.{Point}
use Rattle.plane.specs.declared.Turn.TheVariants.{Left, Straight, Right}
use Rattle.plane.specs.Plane.{limit, within, side, turn_of, turn}
use Rattle.plane.proofs.Machine.{near_fits, within_x, within_y}

-- ---- the turn of a sign
left_turn : (z : ℤ) → Pos z → Left ≡ turn_of z
unfolding P N
left_turn (pos zero) h = absurd (clash h)
  where
    clash : Pos (pos zero) → ⊥
    clash k = omega arith
left_turn (pos (suc n)) h = refl
left_turn (negsuc n) h = absurd (clash h)
  where
    clash : Pos (negsuc n) → ⊥
    clash k = omega arith

right_turn : (z : ℤ) → Neg z → Right ≡ turn_of z
unfolding P N
right_turn (pos n) h = absurd (clash h)
  where
    clash : Neg (pos n) → ⊥
    clash k = omega arith
right_turn (negsuc n) h = refl

no_turn : (z : ℤ) → z ≡ pos 0 → Straight ≡ turn_of z
no_turn z e = ap turn_of (sym e)

-- ---- raised differences: the side value is what the first sum has above the second
abbrev pub Raised : ℕ → ℤ → Type 0
Raised u d = pos u ≡ d +ℤ pos 67108864

-- a difference of two coordinates, as the machine has it
abbrev pub gap : ℤ → ℤ → ℤ
gap a b = to_z w32 (of_z w32 a) -ℤ to_z w32 (of_z w32 b)

module _ (a b : ℤ) (h : nat_abs a ≤ 2 * limit) (k : nat_abs b ≤ 2 * limit) where
  gap_is : gap a b ≡ a -ℤ b
  gap_is = ap₂ ◌-ℤ◌ (to_z-of_z (near_fits a h)) (to_z-of_z (near_fits b k))

  -- what a call that is handed the two by their bits asks, and what it gives
  raised_asks : (nat_abs (to_z w32 (of_z w32 a)) ≤ 2 * limit) × (nat_abs (to_z w32 (of_z w32 b)) ≤ 2 * limit)
  raised_asks = (rw (to_z-of_z (near_fits a h)) h, rw (to_z-of_z (near_fits b k)) k)

  raised_of : (r : ℕ) → pos r ≡ gap a b +ℤ pos 67108864 → Raised r (a -ℤ b)
  raised_of r e = e ∙ ap (λ (z : ℤ). z +ℤ pos 67108864) gap_is

module _ (p q : Point) (hp : T (within (2 * limit) p)) (hq : T (within (2 * limit) q)) where
  pub raised_asks_x : (nat_abs (to_z w32 (of_z w32 p.x)) ≤ 2 * limit) × (nat_abs (to_z w32 (of_z w32 q.x)) ≤ 2 * limit)
  raised_asks_x = raised_asks p.x q.x (within_x (2 * limit) p hp) (within_x (2 * limit) q hq)

  pub raised_asks_y : (nat_abs (to_z w32 (of_z w32 p.y)) ≤ 2 * limit) × (nat_abs (to_z w32 (of_z w32 q.y)) ≤ 2 * limit)
  raised_asks_y = raised_asks p.y q.y (within_y (2 * limit) p hp) (within_y (2 * limit) q hq)

  pub raised_of_x : (r : ℕ) → pos r ≡ gap p.x q.x +ℤ pos 67108864 → Raised r (p.x -ℤ q.x)
  raised_of_x = raised_of p.x q.x (within_x (2 * limit) p hp) (within_x (2 * limit) q hq)

  pub raised_of_y : (r : ℕ) → pos r ≡ gap p.y q.y +ℤ pos 67108864 → Raised r (p.y -ℤ q.y)
  raised_of_y = raised_of p.y q.y (within_y (2 * limit) p hp) (within_y (2 * limit) q hq)

-- the two sums
raise_sums : (u v w z r : ℤ) →
    (u +ℤ r) *ℤ (v +ℤ r) +ℤ ((w +ℤ r) +ℤ (z +ℤ r)) *ℤ r -ℤ ((w +ℤ r) *ℤ (z +ℤ r) +ℤ ((u +ℤ r) +ℤ (v +ℤ r)) *ℤ r) ≡ u *ℤ v -ℤ w *ℤ z
raise_sums u v w z r =
    solve (u ∷ v ∷ w ∷ z ∷ r ∷ [])
    ((var 0 :+ var 4) :* (var 1 :+ var 4) :+ ((var 2 :+ var 4) :+ (var 3 :+ var 4)) :* var 4 :- ((var 2 :+ var 4) :* (var 3 :+ var 4) :+ ((var 0 :+ var 4) :+ (var 1 :+ var 4)) :* var 4))
    (var 0 :* var 1 :- var 2 :* var 3) tt

module _ (a b c : Point) (u v w z : ℕ)
    (hu : Raised u (b.x -ℤ a.x)) (hv : Raised v (c.y -ℤ a.y)) (hw : Raised w (b.y -ℤ a.y)) (hz : Raised z (c.x -ℤ a.x)) where
  abbrev pub first_sum : ℕ
  first_sum = u * v + (w + z) * 67108864

  abbrev pub second_sum : ℕ
  second_sum = w * z + (u + v) * 67108864

  pub sums_are : turn_of (pos first_sum -ℤ pos second_sum) ≡ turn a b c
  unfolding turn side
  sums_are =
      ap turn_of
      (ap₂ ◌-ℤ◌
      (ap₂ ◌+ℤ◌ (ap₂ ◌*ℤ◌ hu hv) (ap (λ (x : ℤ). x *ℤ pos 67108864) (ap₂ ◌+ℤ◌ hw hz)))
      (ap₂ ◌+ℤ◌ (ap₂ ◌*ℤ◌ hw hz) (ap (λ (x : ℤ). x *ℤ pos 67108864) (ap₂ ◌+ℤ◌ hu hv)))
      ∙ raise_sums (b.x -ℤ a.x) (c.y -ℤ a.y) (b.y -ℤ a.y) (c.x -ℤ a.x) (pos 67108864))

-- ---- over and under the box of a and b: the side value is a sum of two products of one sign
weighed : {p q r t : ℤ} → NonNeg p → NonNeg q → Pos (p +ℤ q) → Pos r → Pos t → Pos (p *ℤ r +ℤ q *ℤ t)
weighed {p} {q} {r} {t} hp hq h hr ht = go (weak hp)
  where
    rest : p ≡ pos 0 → Pos q
    rest e = record { above = omega (arith, ap P e, ap N e, pos_P 0, pos_N 0, add_balance p q, h.above) }

    go : Weak p → Pos (p *ℤ r +ℤ q *ℤ t)
    go (weak_zero e) = nonneg_add_pos (nonneg_mul hp (pos_nonneg hr)) (pos_mul (rest e) ht)
    go (weak_plus k) = pos_add_nonneg (pos_mul k hr) (nonneg_mul hq (pos_nonneg ht))

module _ (a b c : Point) (spanned : (lt_z a.x b.x && (le_z a.x c.x && le_z c.x b.x)) ≡ true) where
  between : T (le_z a.x c.x && le_z c.x b.x)
  between = and_right (lt_z a.x b.x) (le_z a.x c.x && le_z c.x b.x) (is_true _ spanned)

  after : NonNeg (c.x -ℤ a.x)
  after = le_z_nonneg a.x c.x (and_left (le_z a.x c.x) (le_z c.x b.x) between)

  upto : NonNeg (b.x -ℤ c.x)
  upto = le_z_nonneg c.x b.x (and_right (le_z a.x c.x) (le_z c.x b.x) between)

  wide : Pos (b.x -ℤ c.x +ℤ (c.x -ℤ a.x))
  wide =
      subst Pos (solve (a.x ∷ b.x ∷ c.x ∷ []) (var 1 :- var 0) (var 1 :- var 2 :+ (var 2 :- var 0)) tt)
      (lt_z_pos a.x b.x (and_left (lt_z a.x b.x) (le_z a.x c.x && le_z c.x b.x) (is_true _ spanned)))

  pub over_box : lt_z a.y c.y ≡ true → lt_z b.y c.y ≡ true → Left ≡ turn a b c
  unfolding turn side
  over_box h k =
      left_turn (side a b c)
      (subst Pos
      (solve (a.x ∷ a.y ∷ b.x ∷ b.y ∷ c.x ∷ c.y ∷ [])
      ((var 2 :- var 4) :* (var 5 :- var 1) :+ (var 4 :- var 0) :* (var 5 :- var 3))
      ((var 2 :- var 0) :* (var 5 :- var 1) :- (var 3 :- var 1) :* (var 4 :- var 0)) tt)
      (weighed upto after wide
      (lt_z_pos a.y c.y (is_true _ h))
      (lt_z_pos b.y c.y (is_true _ k))))

  pub under_box : lt_z c.y a.y ≡ true → lt_z c.y b.y ≡ true → Right ≡ turn a b c
  unfolding turn side
  under_box h k =
      right_turn (side a b c)
      (neg_of_pos (side a b c)
      (subst Pos
      (solve (a.x ∷ a.y ∷ b.x ∷ b.y ∷ c.x ∷ c.y ∷ [])
      ((var 2 :- var 4) :* (var 1 :- var 5) :+ (var 4 :- var 0) :* (var 3 :- var 5))
      (opp ((var 2 :- var 0) :* (var 5 :- var 1) :- (var 3 :- var 1) :* (var 4 :- var 0))) tt)
      (weighed upto after wide
      (lt_z_pos c.y a.y (is_true _ h))
      (lt_z_pos c.y b.y (is_true _ k)))))

-- ---- one of the two ends
module _ (a b c : Point) where
  -- the side value by the coordinates of c
  abbrev side_by : ℤ → ℤ → ℤ
  side_by x y = (b.x -ℤ a.x) *ℤ (y -ℤ a.y) -ℤ (b.y -ℤ a.y) *ℤ (x -ℤ a.x)

  at_point : (e : Point) → e ≡ c → side_by e.x e.y ≡ pos 0 → Straight ≡ turn a b c
  unfolding turn side
  at_point e h q = no_turn (side a b c) (sym (ap (λ (p : Point). side_by p.x p.y) h) ∙ q)

  pub at_second : b ≡ c → Straight ≡ turn a b c
  at_second h =
      at_point b h
      (solve (a.x ∷ a.y ∷ b.x ∷ b.y ∷ [])
      ((var 2 :- var 0) :* (var 3 :- var 1) :- (var 3 :- var 1) :* (var 2 :- var 0)) (con (pos 0)) tt)

  pub at_first : a ≡ c → Straight ≡ turn a b c
  at_first h =
      at_point a h
      (solve (a.x ∷ a.y ∷ b.x ∷ b.y ∷ [])
      ((var 2 :- var 0) :* (var 1 :- var 1) :- (var 3 :- var 1) :* (var 0 :- var 0)) (con (pos 0)) tt)
