-- A grid point of a segment in range is in range: its coordinates are weighted means of those of the ends.
use Prim.Native.Nat.{ℕ, ◌+◌, ◌*◌, ◌≤◌, ◌<◌}
use native.Mathlib.Nat.{mul-le-mul, le_of_mul-le-mul_left, le_refl, add-mul}
use native.Mathlib.Omega.{arith}
use mathlib.Core.Path.{◌≡◌, sym, ap, ap₂, ◌∙◌, subst}
use mathlib.Core.Bool.{not}
use mathlib.Core.List.{[], ◌∷◌}
use lib.Dec.{T}
use lib.IntN.{ℤ, pos, nat_abs, ◌+ℤ◌, ◌*ℤ◌}
use Rattle.whole.proofs.Balance.{pos_P, pos_N}
use Rattle.whole.proofs.Solver.{var, con, ◌:+◌, ◌:*◌, solve}
use Rattle.whole.proofs.Sign.{Pos, NonNeg}
use Rattle.whole.proofs.Logic.{and_left}
use Rattle.plane.specs.declared.Point.{Point}
use Rattle.plane.specs.declared.Segment.{Segment}
use Rattle.plane.specs.Plane.{limit, in_range, segment_in_range, grid, on, is_end, end_within}
use Rattle.plane.proofs.Machine.{nat_abs_sum, nat_abs_product, within_x, within_y, is_within, left_in_range, right_in_range}
use Rattle.plane.proofs.OnSegment.{Ordered, Along, on_along}
use Rattle.split_crossing.proofs.Proportion.{pos_size, nonneg_size}

-- a mean of numbers within n
pub mean_within : (n : ℕ) (k a b x l r : ℤ) → Pos k → NonNeg a → NonNeg b → k *ℤ x ≡ a *ℤ l +ℤ b *ℤ r → k ≡ a +ℤ b → nat_abs l ≤ n → nat_abs r ≤ n → nat_abs x ≤ n
mean_within n k a b x l r k_pos a_least b_least e whole hl hr = le_of_mul-le-mul_left wide above
  where
    sizes : nat_abs k * nat_abs x ≤ nat_abs a * n + nat_abs b * n
    sizes =
        omega (arith, sym (nat_abs_product k x) ∙ ap nat_abs e, nat_abs_sum (a *ℤ l) (b *ℤ r), nat_abs_product a l, nat_abs_product b r, mul-le-mul (le_refl (nat_abs a)) hl, mul-le-mul (le_refl (nat_abs b)) hr)

    total : nat_abs k ≡ nat_abs a + nat_abs b
    total = ap nat_abs whole ∙ sym (ap₂ (λ u v. nat_abs (u +ℤ v)) (nonneg_size a_least) (nonneg_size b_least))

    wide : nat_abs k * nat_abs x ≤ nat_abs k * n
    wide = omega (arith, sizes, ap (λ m. m * n) total, add-mul (nat_abs a) (nat_abs b) n)

    above : 0 < nat_abs k
    above = omega (arith, (subst Pos (sym (pos_size k_pos)) k_pos).above, pos_P (nat_abs k), pos_N (nat_abs k))

module _ (s : Segment) (o : Ordered s) (in_range_lem : T (segment_in_range s)) (c : Point) where
  along_range : Along s (grid c) → T (in_range c)
  along_range h =
      is_within limit c
      (mean_within limit h.k h.a h.b c.x s.left.x s.right.x h.k_pos h.a_least h.b_least (ap (λ p. p.X) h.mean) whole
      (within_x limit s.left (left_in_range s in_range_lem)) (within_x limit s.right (right_in_range s in_range_lem)))
      (mean_within limit h.k h.a h.b c.y s.left.y s.right.y h.k_pos h.a_least h.b_least (ap (λ p. p.Y) h.mean) whole
      (within_y limit s.left (left_in_range s in_range_lem)) (within_y limit s.right (right_in_range s in_range_lem)))
    where
      whole : h.k ≡ h.a +ℤ h.b
      whole =
          solve (h.k ∷ []) (var 0) (var 0 :* con (pos 1)) tt ∙ ap (λ p. p.W) h.mean
          ∙ solve (h.a ∷ h.b ∷ []) (var 0 :* con (pos 1) :+ var 1 :* con (pos 1)) (var 0 :+ var 1) tt

  pub inside_range : T (end_within s c) → T (in_range c)
  unfolding end_within
  inside_range h = along_range (on_along s (grid c) o (and_left (on s (grid c)) (not (is_end s (grid c))) h))
