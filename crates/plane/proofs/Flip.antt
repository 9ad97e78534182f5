-- The two sides of a segment: a small step from its midpoint up (left, if it is upright) or down (right) leaves every segment, and the count below
-- has there the parity that it has at the midpoint, turned for the upper side if the segment itself is in the list.
use Prim.Native.Nat.{ℕ}
use mathlib.Core.Path.{◌≡◌, refl, sym, ap, ap₂, ◌∙◌, subst}
use mathlib.Core.Logic.{◌⊎◌, inl, inr, ⊎_elim}
use mathlib.Core.Bool.{Bool, true, false, ◌&&◌}
use mathlib.Core.List.{List, [], ◌∷◌}
use lib.Dec.{T}
use lib.IntN.{ℤ, pos, negsuc, neg_ℤ, ◌+ℤ◌, ◌-ℤ◌, ◌*ℤ◌}
use lib.Signed.{lt_z}
use Rattle.whole.specs.Count.{eq_z, ◌∈◌}
use Rattle.whole.proofs.Solver.{var, con, opp, ◌:+◌, ◌:-◌, ◌:*◌, solve}
use Rattle.whole.proofs.Sign.{Half, at_least_lem, under, half, nonneg_mul, Pos, Neg, Sign, minus, nought, plus, sign, pos_nonneg, zero_nonneg, zero_nonpos, neg_nonpos, neg_pos, pos_neg, neg_of_pos, pos_clash, zero_pos, zero_neg, pos_add, pos_mul, pos_mul_neg, mul_zero_right, eq_z_zero, zero_eq_z, lt_z_shift, one_pos}
use Rattle.whole.proofs.Logic.{true_is, refute, and_never}
use Rattle.whole.proofs.Parity.{◌⊻◌, xor_same, xor_false, xor_move, parity, parity_same, parity_xor}
use Rattle.plane.specs.declared.Point.{Point}
use Rattle.plane.specs.declared.Segment.{Segment}
use Rattle.plane.specs.Plane.{HPoint, midpoint, side_at, is_same_segment, counts_below, counts_below_left}
use Rattle.plane.proofs.Homogeneous.{values₁, side_atᵉ, first, triple}
use Rattle.plane.proofs.Means.{middle}
use Rattle.plane.proofs.OnSegment.{on_line, on_away, Away, over, beneath, leftward, rightward, short, past, Ordered, slanting, upright}
use Rattle.plane.proofs.Path.{Even, even_ends}
use Rattle.plane.proofs.Equal.{same_segment_read, same_segment_refl}
use Rattle.plane.proofs.Steps.{grows, stays, positive_is, Large, large_all, large_map, large_and, large_each, step, side_moved, past_left_moved, to_right_moved, away_moved, count_moved, count_moved_left, upright_never, upright_never_left, positive, at_least, positive_yes, positive_no, at_least_yes, at_least_no, count_tests, left_count_tests, in_count, in_left_count}

-- ---- directions

abbrev pub upwards : HPoint
upwards = record { X = pos 0; Y = pos 1; W = pos 0 }

abbrev pub downwards : HPoint
downwards = record { X = pos 0; Y = negsuc 0; W = pos 0 }

abbrev pub rightwards : HPoint
rightwards = record { X = pos 1; Y = pos 0; W = pos 0 }

abbrev pub leftwards : HPoint
leftwards = record { X = negsuc 0; Y = pos 0; W = pos 0 }

-- a direction's x, seen from any point
pub seen_x : (x c : ℤ) → x -ℤ c *ℤ pos 0 ≡ x
seen_x x c = solve (x ∷ c ∷ []) (var 0 :- var 1 :* con (pos 0)) (var 0) tt

pub seen_back : (x c : ℤ) → c *ℤ pos 0 -ℤ x ≡ neg_ℤ x
seen_back x c = solve (x ∷ c ∷ []) (var 1 :* con (pos 0) :- var 0) (opp (var 0)) tt

-- ---- below a point on its upright line

-- v lies straight under p
unfoldable pub straight_under : HPoint → Point → Bool
straight_under p v = eq_z (v.x *ℤ p.W) p.X && lt_z (v.y *ℤ p.W) p.Y

module _ (p : HPoint) (v : Point) where
  under_none : Pos (p.X -ℤ v.x *ℤ p.W) ⊎ Neg (p.X -ℤ v.x *ℤ p.W) → straight_under p v ≡ false
  unfolding straight_under
  under_none h =
      and_never (eq_z (v.x *ℤ p.W) p.X) (lt_z (v.y *ℤ p.W) p.Y)
      (λ t u. ⊎_elim (zero_pos (eq_z_zero (v.x *ℤ p.W) p.X t)) (zero_neg (eq_z_zero (v.x *ℤ p.W) p.X t)) h)

  under_some : p.X -ℤ v.x *ℤ p.W ≡ pos 0 → straight_under p v ≡ positive (p.Y -ℤ v.y *ℤ p.W)
  unfolding straight_under positive
  under_some e = ap₂ (λ a b. a && b) (true_is (eq_z (v.x *ℤ p.W) p.X) (zero_eq_z (v.x *ℤ p.W) p.X e)) (lt_z_shift (v.y *ℤ p.W) p.Y)

pub positive_times : {k : ℤ} (z : ℤ) → Pos k → positive (k *ℤ z) ≡ positive z
positive_times {k} z h = go (sign z)
  where
    go : Sign z → positive (k *ℤ z) ≡ positive z
    go (minus m) = positive_no (neg_nonpos (pos_mul_neg h m)) ∙ sym (positive_no (neg_nonpos m))
    go (nought m) = positive_no (zero_nonpos (mul_zero_right k m)) ∙ sym (positive_no (zero_nonpos m))
    go (plus m) = positive_yes (pos_mul h m) ∙ sym (positive_yes m)

pub at_least_times : {k : ℤ} (z : ℤ) → Pos k → at_least (k *ℤ z) ≡ at_least z
at_least_times {k} z h = go (half z)
  where
    go : Half z → at_least (k *ℤ z) ≡ at_least z
    go (at_least_lem m) = at_least_yes (nonneg_mul (pos_nonneg h) m) ∙ sym (at_least_yes m)
    go (under m) = at_least_no (pos_mul_neg h m) ∙ sym (at_least_no m)

-- ---- the left count differs from the count by the ends straight under the point

module _ (p : HPoint) (p_pos : Pos p.W) (t : Segment) where
  abbrev A : ℤ
  A = p.X -ℤ t.left.x *ℤ p.W

  abbrev B : ℤ
  B = t.right.x *ℤ p.W -ℤ p.X

  abbrev Claim : Type 0
  Claim = counts_below_left p t ⊻ counts_below p t ≡ straight_under p t.left ⊻ straight_under p t.right

  -- right of the right end, as the right end sees it
  B_turned : neg_ℤ B ≡ p.X -ℤ t.right.x *ℤ p.W
  B_turned = solve (t.right.x ∷ p.X ∷ p.W ∷ []) (opp (var 0 :* var 2 :- var 1)) (var 1 :- var 0 :* var 2) tt

  B_none : Pos B ⊎ Neg B → straight_under p t.right ≡ false
  B_none h = under_none p t.right (⊎_elim (λ b. inr (subst Neg B_turned (pos_neg b))) (λ b. inl (subst Pos B_turned (neg_pos b))) h)

  B_some : B ≡ pos 0 → straight_under p t.right ≡ positive (p.Y -ℤ t.right.y *ℤ p.W)
  B_some e = under_some p t.right (sym B_turned ∙ ap neg_ℤ e)

  -- A + B is the width, times the denominator
  B_from : B ≡ (t.right.x -ℤ t.left.x) *ℤ p.W +ℤ neg_ℤ A
  B_from = solve (values₁ t p) (var 2 :* var 6 :- var 4) ((var 2 :- var 0) :* var 6 :+ opp (var 4 :- var 0 :* var 6)) tt

  four : {a b c d : Bool} → counts_below_left p t ≡ a → counts_below p t ≡ b → straight_under p t.left ≡ c → straight_under p t.right ≡ d → a ⊻ b ≡ c ⊻ d → Claim
  four e f g h k = ap₂ (λ m n. m ⊻ n) e f ∙ k ∙ sym (ap₂ (λ m n. m ⊻ n) g h)

  -- the counts by the signs of A and B
  count_by : {a b : Bool} → at_least A ≡ a → positive B ≡ b → counts_below p t ≡ a && b && positive (side_at t p)
  unfolding in_count
  count_by e f = count_tests t p ∙ ap₂ (λ m n. m && n && positive (side_at t p)) e f

  left_count_by : {a b : Bool} → positive A ≡ a → at_least B ≡ b → counts_below_left p t ≡ a && b && positive (side_at t p)
  unfolding in_left_count
  left_count_by e f = left_count_tests t p ∙ ap₂ (λ m n. m && n && positive (side_at t p)) e f

  slanting_claim : Pos (t.right.x -ℤ t.left.x) → Sign A → Sign B → Claim
  unfolding side_at
  slanting_claim w (minus a) b =
      four (left_count_by {b = at_least B} (positive_no (neg_nonpos a)) refl) (count_by {b = positive B} (at_least_no a) refl)
      (under_none p t.left (inr a)) (B_none (inl (subst Pos (sym B_from) (pos_add (pos_mul w p_pos) (neg_pos a))))) refl
  slanting_claim w (nought a) b =
      four (left_count_by {b = at_least B} (positive_no (zero_nonpos a)) refl) (count_by (at_least_yes (zero_nonneg a)) (positive_yes B_pos))
      (under_some p t.left a) (B_none (inl B_pos)) (by_left ∙ sym (xor_false (positive (p.Y -ℤ t.left.y *ℤ p.W))))
    where
      B_pos : Pos B
      B_pos = subst Pos (sym (B_from ∙ ap (λ x. (t.right.x -ℤ t.left.x) *ℤ p.W +ℤ neg_ℤ x) a ∙ solve (t.right.x ∷ t.left.x ∷ p.W ∷ []) ((var 0 :- var 1) :* var 2 :+ opp (con (pos 0))) ((var 0 :- var 1) :* var 2) tt)) (pos_mul w p_pos)

      by_left : positive (side_at t p) ≡ positive (p.Y -ℤ t.left.y *ℤ p.W)
      by_left =
          ap positive (ap (λ x. (t.right.x -ℤ t.left.x) *ℤ (p.Y -ℤ t.left.y *ℤ p.W) -ℤ (t.right.y -ℤ t.left.y) *ℤ x) a
          ∙ solve (values₁ t p) ((var 2 :- var 0) :* (var 5 :- var 1 :* var 6) :- (var 3 :- var 1) :* con (pos 0)) ((var 2 :- var 0) :* (var 5 :- var 1 :* var 6)) tt)
          ∙ positive_times (p.Y -ℤ t.left.y *ℤ p.W) w
  slanting_claim w (plus a) (plus b) =
      four (left_count_by (positive_yes a) (at_least_yes (pos_nonneg b))) (count_by (at_least_yes (pos_nonneg a)) (positive_yes b))
      (under_none p t.left (inl a)) (B_none (inl b)) (xor_same (positive (side_at t p)))
  slanting_claim w (plus a) (nought b) =
      four (left_count_by (positive_yes a) (at_least_yes (zero_nonneg b))) (count_by (at_least_yes (pos_nonneg a)) (positive_no (zero_nonpos b)))
      (under_none p t.left (inl a)) (B_some b) (xor_false (positive (side_at t p)) ∙ by_right)
    where
      by_right : positive (side_at t p) ≡ positive (p.Y -ℤ t.right.y *ℤ p.W)
      by_right =
          ap positive (solve (values₁ t p) (side_atᵉ first) ((var 2 :- var 0) :* (var 5 :- var 3 :* var 6) :+ (var 3 :- var 1) :* (var 2 :* var 6 :- var 4)) tt
          ∙ ap (λ x. (t.right.x -ℤ t.left.x) *ℤ (p.Y -ℤ t.right.y *ℤ p.W) +ℤ (t.right.y -ℤ t.left.y) *ℤ x) b
          ∙ solve (values₁ t p) ((var 2 :- var 0) :* (var 5 :- var 3 :* var 6) :+ (var 3 :- var 1) :* con (pos 0)) ((var 2 :- var 0) :* (var 5 :- var 3 :* var 6)) tt)
          ∙ positive_times (p.Y -ℤ t.right.y *ℤ p.W) w
  slanting_claim w (plus a) (minus b) =
      four (left_count_by (positive_yes a) (at_least_no b)) (count_by (at_least_yes (pos_nonneg a)) (positive_no (neg_nonpos b)))
      (under_none p t.left (inl a)) (B_none (inr b)) refl

  -- an upright segment has both ends straight under a point away from it, or none
  upright_ends : t.right.x -ℤ t.left.x ≡ pos 0 → Pos (t.right.y -ℤ t.left.y) → Away t p → Sign A → straight_under p t.left ⊻ straight_under p t.right ≡ false
  unfolding side_at
  upright_ends e w away (plus a) = ap₂ (λ m n. m ⊻ n) (under_none p t.left (inl a)) (B_none (inr (neg_of_pos B (subst Pos (A_turned e) a))))
    where
      A_turned : t.right.x -ℤ t.left.x ≡ pos 0 → A ≡ neg_ℤ B
      A_turned e = sym (solve (values₁ t p) ((var 2 :- var 0) :* var 6 :- (var 2 :* var 6 :- var 4)) (var 4 :- var 0 :* var 6) tt) ∙ ap (λ x. x *ℤ p.W -ℤ B) e ∙ solve (values₁ t p) (con (pos 0) :* var 6 :- (var 2 :* var 6 :- var 4)) (opp (var 2 :* var 6 :- var 4)) tt
  upright_ends e w away (minus a) = ap₂ (λ m n. m ⊻ n) (under_none p t.left (inr a)) (B_none (inl (subst Pos (A_turned e) (neg_pos a))))
    where
      A_turned : t.right.x -ℤ t.left.x ≡ pos 0 → neg_ℤ A ≡ B
      A_turned e = solve (values₁ t p) (opp (var 4 :- var 0 :* var 6)) (var 2 :* var 6 :- var 4 :- (var 2 :- var 0) :* var 6) tt ∙ ap (λ x. B -ℤ x *ℤ p.W) e ∙ solve (values₁ t p) (var 2 :* var 6 :- var 4 :- con (pos 0) :* var 6) (var 2 :* var 6 :- var 4) tt
  upright_ends e w away (nought a) = ap₂ (λ m n. m ⊻ n) (under_some p t.left a) (B_some B_zero) ∙ go away
    where
      B_zero : B ≡ pos 0
      B_zero = B_from ∙ ap₂ (λ x y. x *ℤ p.W +ℤ neg_ℤ y) e a ∙ solve (p.W ∷ []) (con (pos 0) :* var 0 :+ opp (con (pos 0))) (con (pos 0)) tt

      flat : side_at t p ≡ pos 0
      flat = ap₂ (λ x y. x *ℤ (p.Y -ℤ t.left.y *ℤ p.W) -ℤ (t.right.y -ℤ t.left.y) *ℤ y) e a ∙ solve (values₁ t p) (con (pos 0) :* (var 5 :- var 1 :* var 6) :- (var 3 :- var 1) :* con (pos 0)) (con (pos 0)) tt

      lower : p.Y -ℤ t.left.y *ℤ p.W ≡ p.Y -ℤ t.right.y *ℤ p.W +ℤ (t.right.y -ℤ t.left.y) *ℤ p.W
      lower = solve (values₁ t p) (var 5 :- var 1 :* var 6) (var 5 :- var 3 :* var 6 :+ (var 3 :- var 1) :* var 6) tt

      upper : neg_ℤ (p.Y -ℤ t.right.y *ℤ p.W) ≡ neg_ℤ (p.Y -ℤ t.left.y *ℤ p.W) +ℤ (t.right.y -ℤ t.left.y) *ℤ p.W
      upper = solve (values₁ t p) (opp (var 5 :- var 3 :* var 6)) (opp (var 5 :- var 1 :* var 6) :+ (var 3 :- var 1) :* var 6) tt

      turned : neg_ℤ (t.right.y *ℤ p.W -ℤ p.Y) ≡ p.Y -ℤ t.right.y *ℤ p.W
      turned = solve (values₁ t p) (opp (var 3 :* var 6 :- var 5)) (var 5 :- var 3 :* var 6) tt

      go : Away t p → positive (p.Y -ℤ t.left.y *ℤ p.W) ⊻ positive (p.Y -ℤ t.right.y *ℤ p.W) ≡ false
      go (over h) = zero_pos flat h
      go (beneath h) = zero_neg flat h
      go (leftward h) = zero_neg a h
      go (rightward h) = zero_neg B_zero h
      go (short f h) =
          ap₂ (λ m n. m ⊻ n) (positive_no (neg_nonpos h)) (positive_no (neg_nonpos (neg_of_pos _ (subst Pos (sym upper) (pos_add (neg_pos h) (pos_mul w p_pos))))))
      go (past f h) =
          let r = subst Pos turned (neg_pos h) in
          ap₂ (λ m n. m ⊻ n) (positive_yes (subst Pos (sym lower) (pos_add r (pos_mul w p_pos)))) (positive_yes r)

  pub left_count : Ordered t → Away t p → counts_below_left p t ⊻ counts_below p t ≡ straight_under p t.left ⊻ straight_under p t.right
  left_count (slanting w) away = slanting_claim w (sign A) (sign B)
  left_count (upright e w) away =
      ap₂ (λ m n. m ⊻ n) (upright_never_left t p e) (upright_never t p e) ∙ sym (upright_ends e w away (sign A))

-- ---- the steps from a segment's midpoint

abbrev pub upper_way : {s : Segment} → Ordered s → HPoint
upper_way (slanting w) = upwards
upper_way (upright e w) = leftwards

abbrev pub lower_way : {s : Segment} → Ordered s → HPoint
lower_way (slanting w) = downwards
lower_way (upright e w) = rightwards

abbrev pub upper : (s : Segment) → Ordered s → ℕ → HPoint
upper s o n = step (upper_way o) (midpoint s) n

abbrev pub lower : (s : Segment) → Ordered s → ℕ → HPoint
lower s o n = step (lower_way o) (midpoint s) n

module _ (s : Segment) where
  ends_of : List ℤ
  ends_of = s.left.x ∷ s.left.y ∷ s.right.x ∷ s.right.y ∷ []

  on_middle : side_at s (midpoint s) ≡ pos 0
  on_middle = on_line s (midpoint s) (middle s)

  side_of_step : (d : HPoint) (n : ℕ) → side_at s (step d (midpoint s) n) ≡ side_at s d
  side_of_step d n = side_moved s d (midpoint s) n ∙ stays n (side_at s d) on_middle

  side_up : side_at s upwards ≡ s.right.x -ℤ s.left.x
  unfolding side_at ends_of
  side_up = solve ends_of (side_atᵉ (triple (con (pos 0)) (con (pos 1)) (con (pos 0)))) (var 2 :- var 0) tt

  pub side_down : side_at s downwards ≡ neg_ℤ (s.right.x -ℤ s.left.x)
  unfolding side_at ends_of
  side_down = solve ends_of (side_atᵉ (triple (con (pos 0)) (con (negsuc 0)) (con (pos 0)))) (opp (var 2 :- var 0)) tt

  half_left : (midpoint s).X -ℤ s.left.x *ℤ pos 2 ≡ s.right.x -ℤ s.left.x
  unfolding ends_of
  half_left = solve ends_of (var 0 :+ var 2 :- var 0 :* con (pos 2)) (var 2 :- var 0) tt

  half_right : s.right.x *ℤ pos 2 -ℤ (midpoint s).X ≡ s.right.x -ℤ s.left.x
  unfolding ends_of
  half_right = solve ends_of (var 2 :* con (pos 2) :- (var 0 :+ var 2)) (var 2 :- var 0) tt

  -- a step leaves the segment itself
  own_upper : (o : Ordered s) (n : ℕ) → Away s (upper s o n)
  own_upper (slanting w) n = over (subst Pos (sym (side_of_step upwards n ∙ side_up)) w)
  own_upper (upright e w) n =
      leftward (subst Neg (sym (past_left_moved s leftwards (midpoint s) n ∙ stays n _ (half_left ∙ e) ∙ seen_x (negsuc 0) s.left.x)) (pos_neg (one_pos 0)))

  own_lower : (o : Ordered s) (n : ℕ) → Away s (lower s o n)
  own_lower (slanting w) n = beneath (subst Neg (sym (side_of_step downwards n ∙ side_down)) (pos_neg w))
  own_lower (upright e w) n =
      rightward (subst Neg (sym (to_right_moved s rightwards (midpoint s) n ∙ stays n _ (half_right ∙ e) ∙ seen_back (pos 1) s.right.x)) (pos_neg (one_pos 0)))

  -- and counts above it alone
  own_count : counts_below (midpoint s) s ≡ false
  own_count = count_tests s (midpoint s) ∙ and_never (in_count s (midpoint s)) (positive (side_at s (midpoint s))) (λ t u. zero_pos on_middle (positive_is (side_at s (midpoint s)) u))

  own_count_up : Pos (s.right.x -ℤ s.left.x) → Large (λ n. counts_below (step upwards (midpoint s) n) s ≡ true)
  unfolding in_count
  own_count_up w =
      large_map (λ n h. count_tests s (step upwards (midpoint s) n) ∙ three (at_least_yes (pos_nonneg (subst Pos (sym (past_left_moved s upwards (midpoint s) n)) h.0))) (positive_yes (subst Pos (sym (to_right_moved s upwards (midpoint s) n)) h.1)) (positive_yes (subst Pos (sym (side_of_step upwards n ∙ side_up)) w)))
      (large_and (grows _ (subst Pos (sym half_left) w)) (grows _ (subst Pos (sym half_right) w)))
    where
      three : {a b c : Bool} → a ≡ true → b ≡ true → c ≡ true → a && b && c ≡ true
      three {a} {b} {c} e f g = ap₂ (λ m n. m && n && c) e f ∙ g

  own_count_down : Pos (s.right.x -ℤ s.left.x) → (n : ℕ) → counts_below (step downwards (midpoint s) n) s ≡ false
  own_count_down w n =
      count_tests s (step downwards (midpoint s) n)
      ∙ and_never (in_count s (step downwards (midpoint s) n)) (positive (side_at s (step downwards (midpoint s) n)))
      (λ t u. pos_clash (positive_is (side_at s (step downwards (midpoint s) n)) u) (subst Neg (sym (side_of_step downwards n ∙ side_down)) (pos_neg w)))

  -- its left end alone is straight under the midpoint, where it is upright
  own_under : s.right.x -ℤ s.left.x ≡ pos 0 → Pos (s.right.y -ℤ s.left.y) → straight_under (midpoint s) s.left ⊻ straight_under (midpoint s) s.right ≡ true
  own_under e w =
      ap₂ (λ m n. m ⊻ n) (under_some (midpoint s) s.left (half_left ∙ e) ∙ positive_yes (subst Pos (sym low) w))
      (under_some (midpoint s) s.right (right_x ∙ ap neg_ℤ e) ∙ positive_no (neg_nonpos (subst Neg (sym high) (pos_neg w))))
    where
      right_x : (midpoint s).X -ℤ s.right.x *ℤ pos 2 ≡ neg_ℤ (s.right.x -ℤ s.left.x)
      right_x = solve (s.left.x ∷ s.right.x ∷ []) (var 0 :+ var 1 :- var 1 :* con (pos 2)) (opp (var 1 :- var 0)) tt

      low : (midpoint s).Y -ℤ s.left.y *ℤ pos 2 ≡ s.right.y -ℤ s.left.y
      low = solve (s.left.y ∷ s.right.y ∷ []) (var 0 :+ var 1 :- var 0 :* con (pos 2)) (var 1 :- var 0) tt

      high : (midpoint s).Y -ℤ s.right.y *ℤ pos 2 ≡ neg_ℤ (s.right.y -ℤ s.left.y)
      high = solve (s.left.y ∷ s.right.y ∷ []) (var 0 :+ var 1 :- var 1 :* con (pos 2)) (opp (var 1 :- var 0)) tt

-- ---- the flip lemma

module _ (s : Segment) (o : Ordered s) (l : List Segment) (others : (t : Segment) → t ∈ l → (s ≡ t) ⊎ Away t (midpoint s)) where
  -- a segment that the midpoint is away from is not s
  another : (t : Segment) → Away t (midpoint s) → is_same_segment s t ≡ false
  another t away = refute (is_same_segment s t) (λ h. on_away s (midpoint s) o (middle s) (subst (λ r. Away r (midpoint s)) (sym (same_segment_read s t h)) away))

  itself : (t : Segment) → s ≡ t → is_same_segment s t ≡ true
  itself t e = true_is (is_same_segment s t) (subst (λ r. T (is_same_segment s r)) e (same_segment_refl s))

  pub upper_away : Large (λ n. (t : Segment) → t ∈ l → Away t (upper s o n))
  upper_away =
      large_each l (λ t m. ⊎_elim (λ e. large_all (λ n. subst (λ r. Away r (upper s o n)) e (own_upper s o n))) (away_moved t (upper_way o) (midpoint s)) (others t m))

  pub lower_away : Large (λ n. (t : Segment) → t ∈ l → Away t (lower s o n))
  lower_away =
      large_each l (λ t m. ⊎_elim (λ e. large_all (λ n. subst (λ r. Away r (lower s o n)) e (own_lower s o n))) (away_moved t (lower_way o) (midpoint s)) (others t m))

  -- the sum over the list of what is so for each of its segments
  summed : (q : ℕ → HPoint) (g : Segment → Bool) → ((t : Segment) → t ∈ l → Large (λ n. counts_below (q n) t ≡ counts_below (midpoint s) t ⊻ g t))
      → Large (λ n. parity (counts_below (q n)) l ≡ parity (counts_below (midpoint s)) l ⊻ parity g l)
  summed q g f =
      large_map (λ n h. parity_same (counts_below (q n)) (λ t. counts_below (midpoint s) t ⊻ g t) l h ∙ parity_xor (counts_below (midpoint s)) g l) (large_each l f)

  -- one step down, or right: as at the midpoint
  lower_each : (o : Ordered s) (t : Segment) → (s ≡ t) ⊎ Away t (midpoint s) → Large (λ n. counts_below (lower s o n) t ≡ counts_below (midpoint s) t)
  lower_each (slanting w) t (inl e) =
      large_all (λ n. subst (λ r. counts_below (step downwards (midpoint s) n) r ≡ counts_below (midpoint s) r) e (own_count_down s w n ∙ sym (own_count s)))
  lower_each (slanting w) t (inr away) =
      count_moved t downwards (midpoint s) away (zero_nonneg (seen_x (pos 0) t.left.x)) (zero_nonpos (seen_back (pos 0) t.right.x))
  lower_each (upright f w) t (inl e) =
      large_all (λ n. subst (λ r. counts_below (step rightwards (midpoint s) n) r ≡ counts_below (midpoint s) r) e (upright_never s (step rightwards (midpoint s) n) f ∙ sym (own_count s)))
  lower_each (upright f w) t (inr away) =
      count_moved t rightwards (midpoint s) away (pos_nonneg (subst Pos (sym (seen_x (pos 1) t.left.x)) (one_pos 0))) (neg_nonpos (subst Neg (sym (seen_back (pos 1) t.right.x)) (pos_neg (one_pos 0))))

  pub flip_lower : Large (λ n. parity (counts_below (lower s o n)) l ≡ parity (counts_below (midpoint s)) l)
  flip_lower = large_map (λ n h. parity_same (counts_below (lower s o n)) (counts_below (midpoint s)) l h) (large_each l (λ t m. lower_each o t (others t m)))

  -- one step up: turned by the segment itself
  up_each : Pos (s.right.x -ℤ s.left.x) → (t : Segment) → (s ≡ t) ⊎ Away t (midpoint s) → Large (λ n. counts_below (step upwards (midpoint s) n) t ≡ counts_below (midpoint s) t ⊻ is_same_segment s t)
  up_each w t (inl e) =
      large_map (λ n h. subst (λ r. counts_below (step upwards (midpoint s) n) r ≡ counts_below (midpoint s) r ⊻ is_same_segment s r) e (h ∙ sym (ap₂ (λ a b. a ⊻ b) (own_count s) (itself s refl)))) (own_count_up s w)
  up_each w t (inr away) =
      large_map (λ n h. h ∙ sym (ap (λ b. counts_below (midpoint s) t ⊻ b) (another t away) ∙ xor_false (counts_below (midpoint s) t)))
      (count_moved t upwards (midpoint s) away (zero_nonneg (seen_x (pos 0) t.left.x)) (zero_nonpos (seen_back (pos 0) t.right.x)))

  -- left of an upright segment: turned by it, and by the ends straight under its midpoint, which are even
  abbrev ends_under : Segment → Bool
  ends_under t = straight_under (midpoint s) t.left ⊻ straight_under (midpoint s) t.right

  module _ (f : s.right.x -ℤ s.left.x ≡ pos 0) (w : Pos (s.right.y -ℤ s.left.y)) where
    left_each : (t : Segment) → Ordered t → (s ≡ t) ⊎ Away t (midpoint s) → counts_below_left (midpoint s) t ≡ counts_below (midpoint s) t ⊻ (ends_under t ⊻ is_same_segment s t)
    left_each t ord (inl e) =
        subst (λ r. counts_below_left (midpoint s) r ≡ counts_below (midpoint s) r ⊻ (ends_under r ⊻ is_same_segment s r)) e
        (upright_never_left s (midpoint s) f ∙ sym (ap₂ (λ a b. a ⊻ b) (own_count s) (ap₂ (λ a b. a ⊻ b) (own_under s f w) (itself s refl))))
    left_each t ord (inr away) =
        xor_move (counts_below_left (midpoint s) t) (counts_below (midpoint s) t) (ends_under t) (left_count (midpoint s) (one_pos 1) t ord away)
        ∙ sym (ap (λ b. counts_below (midpoint s) t ⊻ (ends_under t ⊻ b)) (another t away) ∙ ap (λ b. counts_below (midpoint s) t ⊻ b) (xor_false (ends_under t)))

    pub left_parity : Even l → ((t : Segment) → t ∈ l → Ordered t) → parity (counts_below_left (midpoint s)) l ≡ parity (counts_below (midpoint s)) l ⊻ parity (is_same_segment s) l
    left_parity even ord =
        parity_same (counts_below_left (midpoint s)) (λ t. counts_below (midpoint s) t ⊻ (ends_under t ⊻ is_same_segment s t)) l (λ t m. left_each t (ord t m) (others t m))
        ∙ parity_xor (counts_below (midpoint s)) (λ t. ends_under t ⊻ is_same_segment s t) l
        ∙ ap (λ b. parity (counts_below (midpoint s)) l ⊻ b) (parity_xor ends_under (is_same_segment s) l ∙ ap (λ b. b ⊻ parity (is_same_segment s) l) (even_ends l even (straight_under (midpoint s))))

    left_step : (t : Segment) → (s ≡ t) ⊎ Away t (midpoint s) → Large (λ n. counts_below (step leftwards (midpoint s) n) t ≡ counts_below_left (midpoint s) t)
    left_step t (inl e) =
        large_all (λ n. subst (λ r. counts_below (step leftwards (midpoint s) n) r ≡ counts_below_left (midpoint s) r) e (upright_never s (step leftwards (midpoint s) n) f ∙ sym (upright_never_left s (midpoint s) f)))
    left_step t (inr away) =
        count_moved_left t leftwards (midpoint s) away (subst Neg (sym (seen_x (negsuc 0) t.left.x)) (pos_neg (one_pos 0))) (subst Pos (sym (seen_back (negsuc 0) t.right.x)) (one_pos 0))

  pub flip_upper : Even l → ((t : Segment) → t ∈ l → Ordered t)
      → Large (λ n. parity (counts_below (upper s o n)) l ≡ parity (counts_below (midpoint s)) l ⊻ parity (is_same_segment s) l)
  flip_upper even ord = go o
    where
      go : (o : Ordered s) → Large (λ n. parity (counts_below (upper s o n)) l ≡ parity (counts_below (midpoint s)) l ⊻ parity (is_same_segment s) l)
      go (slanting w) = summed (step upwards (midpoint s)) (is_same_segment s) (λ t m. up_each w t (others t m))
      go (upright f w) =
          large_map (λ n h. parity_same (counts_below (step leftwards (midpoint s) n)) (counts_below_left (midpoint s)) l h ∙ left_parity f w even ord)
          (large_each l (λ t m. left_step f w t (others t m)))
