-- Side values against a step of a segment: as often as there are steps they are those against the whole, so they have the same signs; and they are as far apart as
-- the other segment's side values change with a step.
use Prim.Native.Nat.{ℕ, ◌<◌}
use native.Mathlib.Omega.{arith}
use mathlib.Core.Path.{◌≡◌, refl, sym, ap, ap₂, subst, ◌∙◌}
use mathlib.Core.Bool.{Bool, true, false, true≢false, ◌&&◌, ◌||◌}
use mathlib.Core.List.{[], ◌∷◌}
use lib.IntN.{ℤ, pos, ◌-ℤ◌, ◌*ℤ◌}
use lib.Signed.{lt_z}
use Rattle.whole.specs.Count.{eq_z}
use Rattle.whole.proofs.Solver.{var, ◌:-◌, ◌:*◌, solve}
use Rattle.whole.proofs.Balance.{pos_P, pos_N}
use Rattle.whole.proofs.Logic.{true_is, refute}
use Rattle.whole.proofs.Sign.{Pos, Neg, Sign, minus, nought, plus, sign, lit_pos, pos_mul, pos_mul_neg, mul_zero_right, lt_z0_pos, pos_lt_z0, lt_z0_neg, neg_lt_z0}
use Rattle.plane.proofs.Machine.{eq_z_no}
use Rattle.plane.specs.declared.Point.{Point}
use Rattle.plane.specs.declared.Segment.{Segment}
use Rattle.plane.specs.Plane.{before, side, opposite, cross, end_within}
use Rattle.split_crossing.specs.Steps.{InSteps}
use Rattle.split_crossing.proofs.Inside.{inside_is}

-- ---- signs

clash : {z : ℤ} → Pos z → Neg z → ⊥
clash p n = omega (arith, p.above, n.below)

-- the tests of a sign
record Tests (z : ℤ) (above below none : Bool) : Type 0 where
  is_above : lt_z (pos 0) z ≡ above
  is_below_lem : lt_z z (pos 0) ≡ below
  is_none_lem : eq_z z (pos 0) ≡ none

of_pos : (z : ℤ) → Pos z → Tests z true false false
of_pos z p =
    record {
      is_above = true_is (lt_z (pos 0) z) (pos_lt_z0 z p);
      is_below_lem = refute (lt_z z (pos 0)) (λ t. clash p (lt_z0_neg z t));
      is_none_lem = eq_z_no z (pos 0) (λ e. let q = subst Pos e p in omega (arith, q.above, pos_P 0, pos_N 0));
    }

of_neg : (z : ℤ) → Neg z → Tests z false true false
of_neg z n =
    record {
      is_above = refute (lt_z (pos 0) z) (λ t. clash (lt_z0_pos z t) n);
      is_below_lem = true_is (lt_z z (pos 0)) (neg_lt_z0 z n);
      is_none_lem = eq_z_no z (pos 0) (λ e. let q = subst Neg e n in omega (arith, q.below, pos_P 0, pos_N 0));
    }

-- so many times a number has its sign
record Kept (k : ℕ) (z : ℤ) : Type 0 where
  above : lt_z (pos 0) (pos k *ℤ z) ≡ lt_z (pos 0) z
  below : lt_z (pos k *ℤ z) (pos 0) ≡ lt_z z (pos 0)
  none : eq_z (pos k *ℤ z) (pos 0) ≡ eq_z z (pos 0)

same_tests : (k : ℕ) (z : ℤ) {a b c : Bool} → Tests (pos k *ℤ z) a b c → Tests z a b c → Kept k z
same_tests k z t u = record { above = t.is_above ∙ sym u.is_above; below = t.is_below_lem ∙ sym u.is_below_lem; none = t.is_none_lem ∙ sym u.is_none_lem }

kept : (k : ℕ) → 0 < k → (z : ℤ) → Kept k z
kept k h z = go (sign z)
  where
    go : Sign z → Kept k z
    go (plus p) = same_tests k z (of_pos (pos k *ℤ z) (pos_mul (lit_pos k h) p)) (of_pos z p)
    go (minus n) = same_tests k z (of_neg (pos k *ℤ z) (pos_mul_neg (lit_pos k h) n)) (of_neg z n)
    go (nought e) =
        let same = mul_zero_right (pos k) e ∙ sym e in
        record { above = ap (λ x. lt_z (pos 0) x) same; below = ap (λ x. lt_z x (pos 0)) same; none = ap (λ x. eq_z x (pos 0)) same }

-- ---- side values

module _ (s : Segment) (next : Point) (steps : ℕ) (h : InSteps s next steps) where
  times_side : (p : Point) → pos steps *ℤ side s.left next p ≡ side s.left s.right p
  unfolding side
  times_side p =
      solve (pos steps ∷ next.x ∷ next.y ∷ s.left.x ∷ s.left.y ∷ p.x ∷ p.y ∷ [])
      (var 0 :* ((var 1 :- var 3) :* (var 6 :- var 4) :- (var 2 :- var 4) :* (var 5 :- var 3)))
      (var 0 :* (var 1 :- var 3) :* (var 6 :- var 4) :- var 0 :* (var 2 :- var 4) :* (var 5 :- var 3)) tt
      ∙ ap₂ (λ u v. u *ℤ (p.y -ℤ s.left.y) -ℤ v *ℤ (p.x -ℤ s.left.x)) h.by_x h.by_y

  pub on_line_by : (p : Point) → eq_z (side s.left next p) (pos 0) ≡ eq_z (side s.left s.right p) (pos 0)
  on_line_by p = sym (kept steps h.above_zero (side s.left next p)).none ∙ ap (λ z. eq_z z (pos 0)) (times_side p)

  pub opposite_by : (p q : Point) → opposite (side s.left next p) (side s.left next q) ≡ opposite (side s.left s.right p) (side s.left s.right q)
  unfolding opposite
  opposite_by p q =
      sym (ap₂ (λ a b. a || b) (ap₂ (λ a b. a && b) (kept steps h.above_zero (side s.left next p)).below (kept steps h.above_zero (side s.left next q)).above)
      (ap₂ (λ a b. a && b) (kept steps h.above_zero (side s.left next p)).above (kept steps h.above_zero (side s.left next q)).below))
      ∙ ap₂ (λ x y. opposite_of x y) (times_side p) (times_side q)
    where
      opposite_of : ℤ → ℤ → Bool
      opposite_of a b = (lt_z a (pos 0) && lt_z (pos 0) b) || (lt_z (pos 0) a && lt_z b (pos 0))

  -- a point strictly inside, by that side value
  pub inside_by : (p : Point) {value : ℤ} → value ≡ side s.left next p → (eq_z value (pos 0) && before s.left p && before p s.right) ≡ end_within s p
  inside_by p e = ap (λ b. b && before s.left p && before p s.right) (ap (λ z. eq_z z (pos 0)) e ∙ on_line_by p) ∙ inside_is s p

  pub none_by : (p : Point) {value : ℤ} → value ≡ side s.left next p → eq_z value (pos 0) ≡ false → end_within s p ≡ false
  none_by p e n = sym (inside_by p e) ∙ ap (λ b. b && before s.left p && before p s.right) n

  -- with ends that are not on opposite sides they do not cross
  pub apart_by : (t : Segment) → opposite (side s.left next t.left) (side s.left next t.right) ≡ false → cross s t ≡ false
  unfolding cross
  apart_by t e = ap (λ b. b && opposite (side t.left t.right s.left) (side t.left t.right s.right)) (sym (opposite_by t.left t.right) ∙ e)

-- opposite values are not zero
pub zero_apart : (a b : ℤ) → a ≡ pos 0 → opposite a b ≡ false
unfolding opposite
zero_apart a b e = rw e refl

apart_zero : (a b : ℤ) → b ≡ pos 0 → opposite a b ≡ false
unfolding opposite
apart_zero a b e = rw e (none (lt_z a (pos 0)) (lt_z (pos 0) a))
  where
    none : (x y : Bool) → ((x && false) || (y && false)) ≡ false
    none true true = refl
    none true false = refl
    none false true = refl
    none false false = refl

pub opposite_some : (a b : ℤ) → opposite a b ≡ true → (eq_z a (pos 0) ≡ false) × (eq_z b (pos 0) ≡ false)
opposite_some a b e = (eq_z_no a (pos 0) (λ q. true≢false (sym e ∙ zero_apart a b q)), eq_z_no b (pos 0) (λ q. true≢false (sym e ∙ apart_zero a b q)))

-- so far apart
pub same_change : (s t : Segment) (next : Point) → side s.left next t.right -ℤ side s.left next t.left ≡ side t.left t.right s.left -ℤ side t.left t.right next
unfolding side
same_change s t next =
    solve (s.left.x ∷ s.left.y ∷ next.x ∷ next.y ∷ t.left.x ∷ t.left.y ∷ t.right.x ∷ t.right.y ∷ [])
    (((var 2 :- var 0) :* (var 7 :- var 1) :- (var 3 :- var 1) :* (var 6 :- var 0)) :- ((var 2 :- var 0) :* (var 5 :- var 1) :- (var 3 :- var 1) :* (var 4 :- var 0)))
    (((var 6 :- var 4) :* (var 1 :- var 5) :- (var 7 :- var 5) :* (var 0 :- var 4)) :- ((var 6 :- var 4) :* (var 3 :- var 5) :- (var 7 :- var 5) :* (var 2 :- var 4)))
    tt
