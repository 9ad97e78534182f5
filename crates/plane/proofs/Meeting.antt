-- The meeting lemma: a path from p to q and a segment have a common point, or the signs of four determinants keep them apart.
use mathlib.Core.Path.{◌≡◌, sym, ap, ap₂, ◌∙◌, subst}
use mathlib.Core.Logic.{◌⊎◌, inl, inr, ⊎_elim}
use lib.IntN.{ℤ, pos, neg_ℤ, ◌+ℤ◌, ◌*ℤ◌, +ℤ_comm, *ℤ_comm, neg_ℤ-neg_ℤ, neg_ℤ-+ℤ}
use Rattle.whole.proofs.Ring.{one-mul}
use Rattle.whole.proofs.Sign.{Pos, NonNeg, Neg, Weak, weak_zero, weak_plus, weak, Signs, both_plus, both_minus, falling, rising, signs, pos_nonneg, nonneg_both, nonneg_add, nonneg_mul, neg_pos, pos_neg, sum_zero_left, sum_zero_right, cancel_zero_right, zero_of_neg, neg_zero, one_pos}
use Rattle.plane.specs.declared.Segment.{Segment}
use Rattle.plane.specs.Plane.{HPoint, grid, side_at}
use Rattle.plane.proofs.Homogeneous.{◌⋆◌, ◌⊞◌, triple_eq, det, det_swap, crossing, cramer, one_times}
use Rattle.plane.proofs.OnSegment.{Between, Along}

-- The path from p to q and s have no common point, unless all four points lie on one line
pub data Clear (p q : HPoint) (s : Segment) : Type 0 where
  aligned : side_at s p ≡ pos 0 → side_at s q ≡ pos 0 → det p q (grid s.left) ≡ pos 0 → det p q (grid s.right) ≡ pos 0 → Clear p q s
  path_over : Pos (side_at s p) → Pos (side_at s q) → Clear p q s
  path_under : Neg (side_at s p) → Neg (side_at s q) → Clear p q s
  ends_over : Pos (det p q (grid s.left)) → Pos (det p q (grid s.right)) → Clear p q s
  ends_under : Neg (det p q (grid s.left)) → Neg (det p q (grid s.right)) → Clear p q s

pub record Meets (p q : HPoint) (s : Segment) : Type 0 where
  pub z : HPoint
  pub z_pos : Pos z.W
  pub on_path : Between p q z
  pub on_segment : Along s z

-- ---- the path may be turned round

pub between_swap : {p q z : HPoint} → Between p q z → Between q p z
between_swap {p} {q} h =
    record {
      k = h.k;
      a = h.b;
      b = h.a;
      k_pos = h.k_pos;
      a_least = h.b_least;
      b_least = h.a_least;
      mean =
          h.mean
          ∙ triple_eq (+ℤ_comm (h.a *ℤ p.X) (h.b *ℤ q.X)) (+ℤ_comm (h.a *ℤ p.Y) (h.b *ℤ q.Y)) (+ℤ_comm (h.a *ℤ p.W) (h.b *ℤ q.W));
    }

pub clear_swap : {p q : HPoint} {s : Segment} → Clear p q s → Clear q p s
clear_swap {p} {q} {s} (aligned a b c d) =
    aligned b a (det_swap p q s.left ∙ neg_zero c) (det_swap p q s.right ∙ neg_zero d)
clear_swap (path_over a b) = path_over b a
clear_swap (path_under a b) = path_under b a
clear_swap {p} {q} {s} (ends_over a b) =
    ends_under (subst Neg (sym (det_swap p q s.left)) (pos_neg a)) (subst Neg (sym (det_swap p q s.right)) (pos_neg b))
clear_swap {p} {q} {s} (ends_under a b) =
    ends_over (subst Pos (sym (det_swap p q s.left)) (neg_pos a)) (subst Pos (sym (det_swap p q s.right)) (neg_pos b))

meets_swap : {p q : HPoint} {s : Segment} → Meets p q s → Meets q p s
meets_swap m = record { z = m.z; z_pos = m.z_pos; on_path = between_swap m.on_path; on_segment = m.on_segment }

-- ---- the sides of p and q weakly opposite, p's not negative

module _ (p q : HPoint) (p_pos : Pos p.W) (q-pos : Pos q.W) (s : Segment) (a : NonNeg (side_at s p)) (b : NonNeg (neg_ℤ (side_at s q))) where
  one_of : (x : ℤ) → x *ℤ pos 1 ≡ x
  one_of x = *ℤ_comm x (pos 1) ∙ one-mul x

  -- the crossing's denominator, by the points and by the ends
  w_least : NonNeg (crossing s p q).W
  w_least = nonneg_add (nonneg_mul b (pos_nonneg p_pos)) (nonneg_mul a (pos_nonneg q-pos))

  w_ends : (crossing s p q).W ≡ det p q (grid s.right) +ℤ neg_ℤ (det p q (grid s.left))
  w_ends =
      ap (λ z. z.W) (cramer s p q)
      ∙ ap₂ (λ m n. m +ℤ n) (one_of (det p q (grid s.right))) (one_of (neg_ℤ (det p q (grid s.left))))

  -- where it is zero, so are the sides
  sides_zero : (crossing s p q).W ≡ pos 0 → (side_at s p ≡ pos 0) × (side_at s q ≡ pos 0)
  sides_zero e = (
    cancel_zero_right q-pos (sum_zero_right (nonneg_mul b (pos_nonneg p_pos)) (nonneg_mul a (pos_nonneg q-pos)) e),
    zero_of_neg (cancel_zero_right p_pos (sum_zero_left (nonneg_mul b (pos_nonneg p_pos)) (nonneg_mul a (pos_nonneg q-pos)) e)),
  )

  meet_falling : NonNeg (det p q (grid s.right)) → NonNeg (neg_ℤ (det p q (grid s.left))) → Weak (crossing s p q).W → Clear p q s ⊎ Meets p q s
  meet_falling d c (weak_zero e) =
      let sum = sym w_ends ∙ e in
      inl (aligned (sides_zero e).0 (sides_zero e).1 (zero_of_neg (sum_zero_right d c sum)) (sum_zero_left d c sum))
  meet_falling d c (weak_plus h) =
      inr (record { z = crossing s p q; z_pos = h; on_path = by b a (one_times (crossing s p q)); on_segment = by d c (one_times (crossing s p q) ∙ cramer s p q) })
    where
      by : {x y : ℤ} {u v : HPoint} → NonNeg x → NonNeg y → pos 1 ⋆ crossing s p q ≡ x ⋆ u ⊞ y ⋆ v → Between u v (crossing s p q)
      by {x} {y} g h m = record { k = pos 1; a = x; b = y; k_pos = one_pos 0; a_least = g; b_least = h; mean = m }

  meet_rising : NonNeg (neg_ℤ (det p q (grid s.right))) → NonNeg (det p q (grid s.left)) → Clear p q s ⊎ Meets p q s
  meet_rising d c = inl (aligned (sides_zero zero).0 (sides_zero zero).1 (sum_zero_right d c sum) (zero_of_neg (sum_zero_left d c sum)))
    where
      turned : neg_ℤ (crossing s p q).W ≡ neg_ℤ (det p q (grid s.right)) +ℤ det p q (grid s.left)
      turned =
          ap neg_ℤ w_ends ∙ neg_ℤ-+ℤ (det p q (grid s.right)) (neg_ℤ (det p q (grid s.left)))
          ∙ ap (λ x. neg_ℤ (det p q (grid s.right)) +ℤ x) (neg_ℤ-neg_ℤ (det p q (grid s.left)))

      zero : (crossing s p q).W ≡ pos 0
      zero = nonneg_both w_least (subst NonNeg (sym turned) (nonneg_add d c))

      sum : neg_ℤ (det p q (grid s.right)) +ℤ det p q (grid s.left) ≡ pos 0
      sum = sym turned ∙ neg_zero zero

  meet_half : Clear p q s ⊎ Meets p q s
  meet_half = go (signs (det p q (grid s.right)) (det p q (grid s.left)))
    where
      go : Signs (det p q (grid s.right)) (det p q (grid s.left)) → Clear p q s ⊎ Meets p q s
      go (both_plus d c) = inl (ends_over c d)
      go (both_minus d c) = inl (ends_under c d)
      go (falling d c) = meet_falling d c (weak w_least)
      go (rising d c) = meet_rising d c

pub clear_or_meets : (p q : HPoint) → Pos p.W → Pos q.W → (s : Segment) → Clear p q s ⊎ Meets p q s
clear_or_meets p q p_pos q-pos s = go (signs (side_at s p) (side_at s q))
  where
    go : Signs (side_at s p) (side_at s q) → Clear p q s ⊎ Meets p q s
    go (both_plus a b) = inl (path_over a b)
    go (both_minus a b) = inl (path_under a b)
    go (falling a b) = meet_half p q p_pos q-pos s a b
    go (rising a b) = ⊎_elim (λ c. inl (clear_swap c)) (λ m. inr (meets_swap m)) (meet_half q p q-pos p_pos s b a)
