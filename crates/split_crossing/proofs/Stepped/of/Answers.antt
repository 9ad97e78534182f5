-- The number of steps divides the way across and the way up.
use Rattle.std.proofs.Common.{arith, ℕ, ℤ, nat_abs, ◌≡◌, ◌≤◌, ◌*◌, ◌/◌, ◌-ℤ◌, ◌∙◌, ap, ap₂, sym, subst, subst₂}
use Rattle.std.proofs.lemmas.Int.{ints}
use mir.Syntax.{w32}
use mir.Val.{to_z, of_z}
use mir.Facts.{to_z-of_z}
use Rattle.std.specs.Int.{IsGcd}
use Rattle.plane.specs.declared.Segment.{Segment}
use Rattle.plane.specs.Plane.{limit}
use Rattle.plane.proofs.Machine.{near_fits, within_x, within_y, left_in_range, right_in_range}
use Rattle.split_crossing.specs.Crossing.{steps_from}
use Rattle.split_crossing.specs.Steps.{InSteps}
use Rattle.split_crossing.proofs.Divided.{count_above, steps_across, steps_up, in_steps}
use Rattle.split_crossing.proofs.Stepped.of.Goals as goal

abbrev across : Segment → ℕ
across s = nat_abs (s.right.x -ℤ s.left.x)

abbrev up : Segment → ℕ
up s = nat_abs (s.right.y -ℤ s.left.y)

divisor : (s : Segment) (a b count : ℕ) → a ≡ across s → b ≡ up s → ((n : ℕ) → IsGcd (a * n) (b * n) (count * n)) → (n : ℕ) → IsGcd (across s * n) (up s * n) (count * n)
divisor s a b count e f g n = subst₂ (λ a b. IsGcd (a * n) (b * n) (count * n)) e f (g n)

-- each end is read from its bits
taken : (l r : ℤ) (count : ℕ) {a b : ℕ} → nat_abs l ≤ limit → nat_abs r ≤ limit → a ≡ b → steps_from (to_z w32 (of_z w32 l)) (to_z w32 (of_z w32 r)) (a / count) ≡ steps_from l r (b / count)
taken l r count {a} {b} h k e =
    ap₂ (λ l r. steps_from l r (a / count)) (to_z-of_z (near_fits l (omega (arith, h)))) (to_z-of_z (near_fits r (omega (arith, k)))) ∙ ap (λ a. steps_from l r (a / count)) e

pub nonzero_div-across : goal.nonzero_div-across
nonzero_div-across c =
    let s = c.args.segment in
    let count = c.common_divisor-count.result in
    count_above s count c.requires.1 c.requires.0 (divisor s c.abs_diff-across.result c.abs_diff-up.result count (grind (arith, ints)) (grind (arith, ints)) c.common_divisor-count.ensures)

pub towards-requires : goal.towards-requires
towards-requires c =
    let s = c.args.segment in
    let left = within_x limit s.left (left_in_range s c.requires.0) in
    let count = c.common_divisor-count.result in
    let a : c.abs_diff-across.result ≡ across s = grind (arith, ints) in
    (omega (arith, ints, left), subst (λ a. a / count ≤ 20000000) (sym a) (steps_across s count c.requires.1 c.requires.0))

pub nonzero_div-up : goal.nonzero_div-up
nonzero_div-up c =
    let s = c.args.segment in
    let count = c.common_divisor-count.result in
    count_above s count c.requires.1 c.requires.0 (divisor s c.abs_diff-across.result c.abs_diff-up.result count (grind (arith, ints)) (grind (arith, ints)) c.common_divisor-count.ensures)

pub towards-requires-2 : goal.towards-requires-2
towards-requires-2 c =
    let s = c.args.segment in
    let left = within_y limit s.left (left_in_range s c.requires.0) in
    let count = c.common_divisor-count.result in
    let b : c.abs_diff-up.result ≡ up s = grind (arith, ints) in
    (omega (arith, ints, left), subst (λ b. b / count ≤ 20000000) (sym b) (steps_up s count c.requires.1 c.requires.0))

pub invariant_of-result : goal.invariant_of-result
invariant_of-result c =
    let s = c.args.segment in
    let count = c.common_divisor-count.result in
    let a : c.abs_diff-across.result ≡ across s = grind (arith, ints) in
    let b : c.abs_diff-up.result ≡ up s = grind (arith, ints) in
    let all = in_steps s count c.requires.1 c.requires.0 (divisor s c.abs_diff-across.result c.abs_diff-up.result count a b c.common_divisor-count.ensures) in
    let x = c.towards.ensures ∙ taken s.left.x s.right.x count (within_x limit s.left (left_in_range s c.requires.0)) (within_x limit s.right (right_in_range s c.requires.0)) a in
    let y = c.towards-2.ensures ∙ taken s.left.y s.right.y count (within_y limit s.left (left_in_range s c.requires.0)) (within_y limit s.right (right_in_range s c.requires.0)) b in
    let x_small = within_x limit _ all.next_in_range in
    let y_small = within_y limit _ all.next_in_range in
    record {
      in_range = c.requires.0;
      steps = subst₂ (λ x y. InSteps s (record { x = x; y = y }) count)
          (sym (ap (λ z. to_z w32 (of_z w32 z)) x ∙ to_z-of_z (near_fits (steps_from s.left.x s.right.x (across s / count)) (omega (arith, x_small)))))
          (sym (ap (λ z. to_z w32 (of_z w32 z)) y ∙ to_z-of_z (near_fits (steps_from s.left.y s.right.y (up s / count)) (omega (arith, y_small))))) all;
    }
