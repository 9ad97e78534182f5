-- A segment's value, by the sides: added, taken away, or neither; and its size.
use Prim.Native.Nat.{◌≤◌, ◌^◌}
use native.Mathlib.Omega.{arith}
use mathlib.Core.Path.{◌≡◌, sym, ap, ap₂, ◌∙◌}
use mathlib.Core.Bool.{Bool, true, false}
use lib.Dec.{T}
use lib.IntN.{ℤ, pos, neg_ℤ, nat_abs, ◌+ℤ◌, ◌-ℤ◌, ◌*ℤ◌, +ℤ_idr, *ℤ_comm}
use mir.Syntax.{w64}
use mir.Val.{SFits, to_z, of_z}
use mir.Facts.{to_z-of_z}
use Rattle.whole.proofs.Ring.{one-mul, neg_mul}
use Rattle.plane.specs.declared.Point.{Point}
use Rattle.plane.specs.declared.Segment.{Segment}
use Rattle.plane.specs.Plane.{limit, segment_in_range, side}
use Rattle.plane.proofs.Machine.{nat_abs_sum, nat_abs_difference, small_fits, left_in_range, right_in_range}
use Rattle.plane.specs.Shoelace.{shoelace, weighed}
use Rattle.areas.proofs.Weighed.{weighed_same}
use Rattle.areas.proofs.Bounds.{most_term, shoelace_most, weighed_most}

pub added_none : (sum v : ℤ) (b : Bool) → sum ≡ sum +ℤ weighed b b v
added_none sum v b = sym (ap (λ z. sum +ℤ z) (weighed_same b v) ∙ +ℤ_idr sum)

pub added_plus : (sum v : ℤ) → sum +ℤ v ≡ sum +ℤ weighed true false v
unfolding weighed
added_plus sum v = ap (λ z. sum +ℤ z) (sym (one-mul v))

pub added_minus : (sum v : ℤ) → sum -ℤ v ≡ sum +ℤ weighed false true v
unfolding weighed
added_minus sum v = ap (λ z. sum +ℤ z) (sym (neg_mul (pos 1) v ∙ ap neg_ℤ (one-mul v)))

module _ (a b : ℤ) (h : nat_abs a ≤ 2 ^ 61) (k : nat_abs b ≤ 2 ^ 61) where
  sum_fits : SFits w64 (a +ℤ b)
  sum_fits = small_fits (a +ℤ b) (omega (arith, nat_abs_sum a b))

  difference_fits : SFits w64 (a -ℤ b)
  difference_fits = small_fits (a -ℤ b) (omega (arith, nat_abs_difference a b))

pub back : (z : ℤ) → nat_abs z ≤ 2 ^ 61 → to_z w64 (of_z w64 z) ≡ z
back z h = to_z-of_z (small_fits z (omega arith))

pub back_as : {r z : ℤ} → r ≡ z → nat_abs z ≤ 2 ^ 61 → to_z w64 (of_z w64 r) ≡ z
back_as {z = z} e h = ap (λ z. to_z w64 (of_z w64 z)) e ∙ back z h

-- as the machine has them, each read from its bits
module _ (a b : ℤ) (h : nat_abs a ≤ 2 ^ 61) (k : nat_abs b ≤ 2 ^ 61) where
  pub machine_sum : SFits w64 (to_z w64 (of_z w64 a) +ℤ to_z w64 (of_z w64 b))
  machine_sum = rw (back a h, back b k) (sum_fits a b h k)

  pub machine_sum_is : to_z w64 (of_z w64 (to_z w64 (of_z w64 a) +ℤ to_z w64 (of_z w64 b))) ≡ a +ℤ b
  machine_sum_is = to_z-of_z machine_sum ∙ ap₂ ◌+ℤ◌ (back a h) (back b k)

  pub machine_difference : SFits w64 (to_z w64 (of_z w64 a) -ℤ to_z w64 (of_z w64 b))
  machine_difference = rw (back a h, back b k) (difference_fits a b h k)

  pub machine_difference_is : to_z w64 (of_z w64 (to_z w64 (of_z w64 a) -ℤ to_z w64 (of_z w64 b))) ≡ a -ℤ b
  machine_difference_is = to_z-of_z machine_difference ∙ ap₂ ◌-ℤ◌ (back a h) (back b k)

-- ---- the value

abbrev pub origin : Point
origin = record { x = pos 0; y = pos 0 }

pub origin_side : (t : Segment) → side origin t.left t.right ≡ shoelace t
unfolding side shoelace
origin_side t =
    ap₂ ◌-ℤ◌ (ap₂ ◌*ℤ◌ (+ℤ_idr t.left.x) (+ℤ_idr t.right.y)) (ap₂ ◌*ℤ◌ (+ℤ_idr t.left.y) (+ℤ_idr t.right.x) ∙ *ℤ_comm t.left.y t.right.x)

pub value_most : (t : Segment) → T (segment_in_range t) → nat_abs (shoelace t) ≤ most_term
value_most t r = shoelace_most {n = limit} (omega arith) (record { of_left = left_in_range t r; of_right = right_in_range t r })

pub value_small : (t : Segment) → T (segment_in_range t) → nat_abs (shoelace t) ≤ 2 ^ 61
value_small t r = omega (arith, value_most t r)

-- one sum with the segment, each part as a call is handed it and gives it back
pub sum_added : (t : Segment) → T (segment_in_range t) → (sum : ℤ) {v r : ℤ} {a b x y : Bool} → nat_abs sum ≤ 2 ^ 61 → v ≡ shoelace t → a ≡ x → b ≡ y
    → r ≡ to_z w64 (of_z w64 sum) +ℤ weighed a b (to_z w64 (of_z w64 v)) → to_z w64 (of_z w64 r) ≡ sum +ℤ weighed x y (shoelace t)
sum_added t range sum {v} {r} {a} {b} {x} {y} h e p q is = ap (λ z. to_z w64 (of_z w64 z)) whole ∙ to_z-of_z fits
  where
    whole : r ≡ sum +ℤ weighed x y (shoelace t)
    whole =
        is ∙ ap₂ (λ m n. m +ℤ weighed a b n) (back sum h) (back_as e (value_small t range)) ∙ ap₂ (λ m n. sum +ℤ weighed m n (shoelace t)) p q

    fits : SFits w64 (sum +ℤ weighed x y (shoelace t))
    fits =
        small_fits (sum +ℤ weighed x y (shoelace t))
        (omega (arith, nat_abs_sum sum (weighed x y (shoelace t)), weighed_most x y (shoelace t), value_most t range))
