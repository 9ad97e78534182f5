-- The column of a midpoint: a segment whose right end has a key below it, or whose left end has one beyond it, does not count for ia.
use Prim.Native.Nat.{ℕ, ◌+◌, ◌*◌, ◌/◌, ◌<◌, ◌≤◌}
use native.Mathlib.Omega.{arith}
use mathlib.Core.Path.{◌≡◌, refl, sym, ap, ap₂, ◌∙◌, subst}
use mathlib.Core.Bool.{Bool, true, false, not, ◌&&◌, ◌||◌, cond, beq, or-false}
use mathlib.Core.List.{List, [], ◌∷◌}
use lib.Dec.{T}
use lib.IntN.{ℤ, pos, nat_abs, ◌+ℤ◌, ◌-ℤ◌, ◌*ℤ◌}
use Rattle.whole.specs.Count.{odd, count}
use Rattle.whole.proofs.Balance.{sub_balanceℤ, pos_P, pos_N}
use Rattle.whole.proofs.Sign.{Neg}
use Rattle.whole.proofs.Solver.{var, con, ◌:+◌, ◌:-◌, ◌:*◌, solve}
use Rattle.plane.specs.declared.Segment.{Segment}
use Rattle.plane.specs.Plane.{limit, segment_in_range, midpoint, counts_below, counts_below_left, interior_above}
use Rattle.plane.proofs.Machine.{within_x, within_y, left_in_range, right_in_range}
use Rattle.scene_segments.specs.Walked.{vertical, is_below}
use Rattle.scene_segments.proofs.Beyond.{begins_after, ends_before}
use Rattle.scene_keys.specs.declared.Ends.{Ends}
use Rattle.scene_keys.specs.Keyed.{raised, room, key, top, IsKey, GoodEnds, keyed_point, keyed_segment}
use Rattle.scene_keys.proofs.Keys.{raised_is, raised_digit, key_digits, keyed_in_range, keyed_key}
use Rattle.scene_writing.proofs.Rows.{good_segment}
use Rattle.wkb_interiors.specs.Interiors.{column_of}

-- a difference of numbers
less_neg : (m n : ℕ) → m < n → Neg (pos m -ℤ pos n)
less_neg m n h = record { below = omega (arith, sub_balanceℤ (pos m) (pos n), pos_P m, pos_N m, pos_P n, pos_N n) }

-- twice a coordinate beside the sum of two, by what they are above the least
module _ (x y z : ℤ) (hx : nat_abs x ≤ limit) (hy : nat_abs y ≤ limit) (hz : nat_abs z ≤ limit) where
  left_of : raised x * 2 < raised y + raised z → Neg (x *ℤ pos 2 -ℤ (y +ℤ z))
  left_of h =
      subst Neg
      (ap₂ (λ (u v : ℤ). u *ℤ pos 2 -ℤ v) (sym (raised_is x hx)) (ap₂ ◌+ℤ◌ (sym (raised_is y hy)) (sym (raised_is z hz)))
      ∙ solve (x ∷ y ∷ z ∷ pos limit ∷ []) ((var 0 :+ var 3) :* con (pos 2) :- (var 1 :+ var 3 :+ (var 2 :+ var 3))) (var 0 :* con (pos 2) :- (var 1 :+ var 2)) tt)
      (less_neg (raised x * 2) (raised y + raised z) h)

  right_of : raised y + raised z < raised x * 2 → Neg (y +ℤ z -ℤ x *ℤ pos 2)
  right_of h =
      subst Neg
      (ap₂ (λ (u v : ℤ). u -ℤ v *ℤ pos 2) (ap₂ ◌+ℤ◌ (sym (raised_is y hy)) (sym (raised_is z hz))) (sym (raised_is x hx))
      ∙ solve (x ∷ y ∷ z ∷ pos limit ∷ []) (var 1 :+ var 3 :+ (var 2 :+ var 3) :- (var 0 :+ var 3) :* con (pos 2)) (var 1 :+ var 2 :- var 0 :* con (pos 2)) tt)
      (less_neg (raised y + raised z) (raised x * 2) h)

-- ---- keys below the column, and beyond it

key_left : (x y c : ℕ) → room * x + y < c / 2 * room → x * 2 < c
key_left x y c h = omega arith

key_right : (x y c : ℕ) → y < room → c / 2 * room + room ≤ room * x + y → c < x * 2
key_right x y c k h = omega arith

module _ (t u : Segment) (h : T (segment_in_range t)) (k : T (segment_in_range u)) where
  pub passed : key u.right < column_of t → is_below t u ≡ false
  unfolding key
  passed l =
      ends_before t u
      (left_of u.right.x t.left.x t.right.x (within_x limit u.right (right_in_range u k)) (within_x limit t.left (left_in_range t h)) (within_x limit t.right (right_in_range t h))
      (key_left (raised u.right.x) (raised u.right.y) (raised t.left.x + raised t.right.x) l))

  pub beyond_column : column_of t + room ≤ key u.left → is_below t u ≡ false
  unfolding key
  beyond_column l =
      begins_after t u
      (right_of u.left.x t.left.x t.right.x (within_x limit u.left (left_in_range u k)) (within_x limit t.left (left_in_range t h)) (within_x limit t.right (right_in_range t h))
      (key_right (raised u.left.x) (raised u.left.y) (raised t.left.x + raised t.right.x) (raised_digit u.left.y (within_y limit u.left (left_in_range u k))) l))

-- ---- segments by keys

module _ (e : Ends) (g : GoodEnds e) where
  pub in_range_lem : T (segment_in_range (keyed_segment e))
  in_range_lem = (good_segment e g).in_range_lem

  -- the column by the keys
  pub column_is : (e.left / room + e.right / room) / 2 * room ≡ column_of (keyed_segment e)
  column_is = ap₂ (λ x y. (x + y) / 2 * room) (digit e.left g.left_key) (digit e.right g.right_key)
    where
      digit : (k : ℕ) → IsKey k → k / room ≡ raised (keyed_point k).x
      digit k h = ap (λ n. n / room) (sym (keyed_key k h)) ∙ (key_digits (keyed_point k) (keyed_in_range k h)).0

  module _ (t : Segment) (h : T (segment_in_range t)) where
    pub passed_over : e.right < column_of t → is_below t (keyed_segment e) ≡ false
    passed_over l = passed t (keyed_segment e) h in_range_lem (subst (λ k. k < column_of t) (sym (keyed_key e.right g.right_key)) l)

    pub not_reached : column_of t + room ≤ e.left → is_below t (keyed_segment e) ≡ false
    not_reached l = beyond_column t (keyed_segment e) h in_range_lem (subst (λ k. column_of t + room ≤ k) (sym (keyed_key e.left g.left_key)) l)

pub column_small : (t : Segment) → T (segment_in_range t) → column_of t < top
column_small t h =
    omega (arith, raised_digit t.left.x (within_x limit t.left (left_in_range t h)), raised_digit t.right.x (within_x limit t.right (right_in_range t h)))

-- ---- the rule for ia by the number of those that count

module _ (l : List Segment) (t : Segment) where
  by_count : interior_above l t ≡ cond (vertical t) (odd (count (is_below t) l)) (not (odd (count (is_below t) l)))
  unfolding interior_above
  by_count = go (vertical t)
    where
      counted : Bool → ℕ
      counted v = count (λ u. cond v (counts_below_left (midpoint t) u) (counts_below (midpoint t) u)) l

      go : (v : Bool) →
          (v && odd (count (counts_below_left (midpoint t)) l)) || (not v && not (odd (count (counts_below (midpoint t)) l))) ≡ cond v (odd (counted v)) (not (odd (counted v)))
      go true = or-false (odd (count (counts_below_left (midpoint t)) l))
      go false = refl

  -- a test of oddness beside one for a vertical segment
  pub by_tests : beq (odd (count (is_below t) l)) (vertical t) ≡ interior_above l t
  by_tests = both (odd (count (is_below t) l)) (vertical t) ∙ sym by_count
    where
      both : (a b : Bool) → beq a b ≡ cond b a (not a)
      both true true = refl
      both true false = refl
      both false true = refl
      both false false = refl
