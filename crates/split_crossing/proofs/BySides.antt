-- A crossing by the side values of t's ends against a step: how far these are apart is the change of the side value against t with a step.
use Prim.Native.Nat.{ℕ, ◌+◌, ◌*◌, ◌≤◌}
use native.Mathlib.Omega.{arith}
use mathlib.Core.Path.{◌≡◌, sym, ap, ap₂, ◌∙◌}
use mathlib.Core.Bool.{false, ◌&&◌, cond}
use mathlib.Core.List.{[], ◌∷◌}
use lib.Dec.{T}
use lib.IntN.{ℤ, pos, nat_abs, ◌-ℤ◌, ◌*ℤ◌}
use mir.Syntax.{w64}
use mir.Val.{to_z, of_z}
use mir.Facts.{to_z-of_z}
use Rattle.std.proofs.lemmas.Int.{to_z_pos}
use Rattle.whole.proofs.Logic.{true_is}
use Rattle.whole.proofs.Solver.{var, ◌:-◌, solve}
use Rattle.plane.specs.declared.Point.{Point}
use Rattle.plane.specs.declared.Segment.{Segment}
use Rattle.plane.specs.Plane.{limit, in_range, segment_in_range, side, opposite, cross}
use Rattle.plane.proofs.Machine.{nat_abs_difference, nat_abs_product, small_fits, left_in_range, right_in_range}
use Rattle.split_crossing.specs.declared.Crossing.TheVariants.{Apart}
use Rattle.split_crossing.specs.declared.Stepped.{Stepped}
use Rattle.split_crossing.specs.Crossing.{size_left, size_right, placed_on, crossing_of_point, crossing_of}
use Rattle.split_crossing.specs.Steps.{BySteps}
use Rattle.split_crossing.proofs.Sides.{opposite_by, same_change}
use Rattle.split_crossing.proofs.Sizes.{side_small, side_back}
use Rattle.split_crossing.proofs.Stepping.{change, even_change}

pub apart_is : (s t : Segment) → cross s t ≡ false → Apart ≡ crossing_of s t
unfolding crossing_of
apart_is s t e = sym (ap (λ b. cond b (crossing_of_point (placed_on s (size_left s t) (size_left s t + size_right s t))) Apart) e)

-- a side value against a step is read from its bits
pub held_back : (o : Stepped) (p : Point) → T (in_range p) → {z : ℤ} → z ≡ side o.segment.left o.next p → to_z w64 (of_z w64 z) ≡ z
held_back o p r {z} e = side_back e (side_small o.segment.left o.next p (left_in_range o.segment o.in_range) o.steps.next_in_range r) ∙ sym e

module _ (o : Stepped) (t : Segment) (r : T (segment_in_range t)) (left right : ℤ) (by : BySteps o.segment o.next t left right) where
  -- t's side values of the ends of o, and of its first step
  abbrev pub A : ℤ
  A = side t.left t.right o.segment.left

  abbrev pub B : ℤ
  B = side t.left t.right o.segment.right

  abbrev N : ℤ
  N = side t.left t.right o.next

  abbrev pub by_step : ℤ
  by_step = right -ℤ left

  pub step_is : by_step ≡ A -ℤ N
  step_is = ap₂ (λ a b. a -ℤ b) by.1 by.0 ∙ same_change o.segment t o.next

  all_is : pos o.count *ℤ by_step ≡ A -ℤ B
  all_is = ap (λ z. pos o.count *ℤ z) step_is ∙ even_change o.segment o.next o.count o.steps t

  pub right_is : A -ℤ pos o.count *ℤ by_step ≡ B
  right_is = ap (λ z. A -ℤ z) all_is ∙ solve (A ∷ B ∷ []) (var 0 :- (var 0 :- var 1)) (var 1) tt

  -- ---- as the machine has them

  a_small : nat_abs A ≤ 8 * (limit * limit)
  a_small = side_small t.left t.right o.segment.left (left_in_range t r) (right_in_range t r) (left_in_range o.segment o.in_range)

  b_small : nat_abs B ≤ 8 * (limit * limit)
  b_small = side_small t.left t.right o.segment.right (left_in_range t r) (right_in_range t r) (right_in_range o.segment o.in_range)

  n_small : nat_abs N ≤ 8 * (limit * limit)
  n_small = side_small t.left t.right o.next (left_in_range t r) (right_in_range t r) o.steps.next_in_range

  left_small : nat_abs left ≤ 8 * (limit * limit)
  left_small = omega (arith, ap nat_abs by.0, side_small o.segment.left o.next t.left (left_in_range o.segment o.in_range) o.steps.next_in_range (left_in_range t r))

  right_small : nat_abs right ≤ 8 * (limit * limit)
  right_small = omega (arith, ap nat_abs by.1, side_small o.segment.left o.next t.right (left_in_range o.segment o.in_range) o.steps.next_in_range (right_in_range t r))

  pub step_small : nat_abs by_step ≤ 16 * (limit * limit)
  step_small = omega (arith, ap nat_abs step_is, nat_abs_difference A N, a_small, n_small)

  pub all_small : nat_abs (pos o.count *ℤ by_step) ≤ 16 * (limit * limit)
  all_small = omega (arith, ap nat_abs all_is, nat_abs_difference A B, a_small, b_small)

  pub total_small : nat_abs (A -ℤ pos o.count *ℤ by_step) ≤ 8 * (limit * limit)
  total_small = omega (arith, ap nat_abs right_is, b_small)

  pub before_back : {z : ℤ} → z ≡ A → to_z w64 (of_z w64 z) ≡ A
  before_back {z} e = ap (λ x. to_z w64 (of_z w64 x)) e ∙ to_z-of_z (small_fits A (omega (arith, a_small)))

  pub step_held : to_z w64 (of_z w64 right) -ℤ to_z w64 (of_z w64 left) ≡ by_step
  step_held = ap₂ (λ a b. a -ℤ b) (to_z-of_z (small_fits right (omega (arith, right_small)))) (to_z-of_z (small_fits left (omega (arith, left_small))))

  pub step_back : to_z w64 (of_z w64 by_step) ≡ by_step
  step_back = to_z-of_z (small_fits by_step (omega (arith, step_small)))

  pub all_back : to_z w64 (of_z w64 (pos o.count *ℤ by_step)) ≡ pos o.count *ℤ by_step
  all_back = to_z-of_z (small_fits (pos o.count *ℤ by_step) (omega (arith, all_small)))

  pub total_back : to_z w64 (of_z w64 (A -ℤ pos o.count *ℤ by_step)) ≡ B
  total_back = to_z-of_z (small_fits (A -ℤ pos o.count *ℤ by_step) (omega (arith, total_small))) ∙ right_is

  pub count_back : to_z w64 o.count ≡ pos o.count
  count_back = to_z_pos w64 o.count (omega (arith, o.steps.few))

  -- ---- whether they cross

  module _ (x : T (opposite left right)) where
    pub cross_is : cross o.segment t ≡ opposite A B
    unfolding cross
    cross_is = ap (λ b. b && opposite A B) (sym (opposite_by o.segment o.next o.count o.steps t.left t.right) ∙ sym (ap₂ opposite by.0 by.1) ∙ true_is (opposite left right) x)

    -- as the machine asks it
    pub machine_cross : {b : ℤ} → b ≡ A
        → opposite (to_z w64 (of_z w64 b)) (to_z w64 (of_z w64 (to_z w64 (of_z w64 b) -ℤ to_z w64 (of_z w64 (to_z w64 o.count *ℤ to_z w64 (of_z w64 (to_z w64 (of_z w64 right) -ℤ to_z w64 (of_z w64 left)))))))) ≡ cross o.segment t
    machine_cross {b} e = rw (before_back e, count_back, step_held, step_back, all_back, total_back) (sym cross_is)

  -- ---- sizes

  pub size_is : {b : ℤ} {n : ℕ} → b ≡ A → n ≡ nat_abs (to_z w64 (of_z w64 b)) → n ≡ size_left o.segment t
  size_is e f = f ∙ ap nat_abs (before_back e)

  step_size : {n : ℕ} → n ≡ nat_abs (to_z w64 (of_z w64 (to_z w64 (of_z w64 right) -ℤ to_z w64 (of_z w64 left)))) → n ≡ nat_abs by_step
  step_size f = f ∙ ap nat_abs (ap (λ z. to_z w64 (of_z w64 z)) step_held ∙ step_back)

  pub change_is : {n : ℕ} → n ≡ nat_abs (to_z w64 (of_z w64 (to_z w64 (of_z w64 right) -ℤ to_z w64 (of_z w64 left)))) → n ≡ change o.segment o.next o.count o.steps t
  change_is f = step_size f ∙ ap nat_abs step_is

  pub all_fit : {n : ℕ} → n ≡ nat_abs (to_z w64 (of_z w64 (to_z w64 (of_z w64 right) -ℤ to_z w64 (of_z w64 left)))) → o.count * n ≤ 16 * (limit * limit)
  all_fit f = omega (arith, all_small, nat_abs_product (pos o.count) by_step, ap (λ m. o.count * m) (step_size f))
