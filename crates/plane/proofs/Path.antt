-- Parity along a path: where no segment of a list with even ends meets the path from p to q, the counts below p and below q have the same
-- parity. First the claim for one segment, from the signs that keep it clear; then the sum over the list.
use mathlib.Core.Path.{◌≡◌, refl, sym, ap, ap₂, ◌∙◌, subst}
use mathlib.Core.Bool.{Bool, true, false, not, ◌&&◌}
use mathlib.Core.List.{List, [], ◌∷◌}
use lib.Dec.{T}
use lib.IntN.{ℤ, pos, neg_ℤ, ◌+ℤ◌, ◌-ℤ◌, ◌*ℤ◌, *ℤ_comm}
use lib.Signed.{lt_z, le_z}
use Rattle.whole.specs.Count.{◌∈◌}
use Rattle.whole.proofs.Solver.{var, opp, ◌:+◌, ◌:-◌, ◌:*◌, solve}
use Rattle.whole.proofs.Sign.{Pos, NonNeg, Neg, Half, at_least_lem, under, half, pos_nonneg, neg_pos, neg_of_pos, pos_clash, zero_pos, zero_neg, pos_add_nonneg, nonneg_add_pos, nonneg_add, pos_mul, nonneg_mul, pos_of_mul_nonneg, cancel_nonneg, lt_z_pos, le_z_nonneg, nonneg_le_z, lt_z_le_z, lt_z0_pos, pos_lt_z0, lt_z0_neg, neg_lt_z0}
use Rattle.whole.proofs.Logic.{and_left, and_right, and_follows, and_never}
use Rattle.whole.proofs.Parity.{◌⊻◌, xor_none, xor_assoc, parity, parity_same, parity_xor, even_all}
use Rattle.plane.specs.declared.Point.{Point}
use Rattle.plane.specs.declared.Segment.{Segment}
use Rattle.plane.specs.Plane.{HPoint, grid, side_at, is_same_point, counts_below}
use Rattle.plane.proofs.Homogeneous.{det, dx, dx_swap, first, second, dxᵉ, seen_from_left, seen_from_right, seen_from_first, seen_from_second}
use Rattle.plane.proofs.Equal.{same_point_read, same_point_refl}
use Rattle.plane.proofs.Meeting.{Clear, aligned, path_over, path_under, ends_over, ends_under, clear_swap}

-- v lies under the path from p to q: past p, not past q, and right of p → q
unfoldable pub under_path : HPoint → HPoint → Point → Bool
under_path p q v = lt_z p.X (v.x *ℤ p.W) && le_z (v.x *ℤ q.W) q.X && lt_z (det p q (grid v)) (pos 0)

-- ---- signs of a difference of products

difference : (a u b w : ℤ) → a *ℤ u -ℤ b *ℤ w ≡ a *ℤ u +ℤ b *ℤ neg_ℤ w
difference a u b w = solve (a ∷ u ∷ b ∷ w ∷ []) (var 0 :* var 1 :- var 2 :* var 3) (var 0 :* var 1 :+ var 2 :* opp (var 3)) tt

difference_neg : (a u b w : ℤ) → neg_ℤ (a *ℤ u -ℤ b *ℤ w) ≡ neg_ℤ a *ℤ u +ℤ neg_ℤ b *ℤ neg_ℤ w
difference_neg a u b w =
    solve (a ∷ u ∷ b ∷ w ∷ []) (opp (var 0 :* var 1 :- var 2 :* var 3)) (opp (var 0) :* var 1 :+ opp (var 2) :* opp (var 3)) tt

-- where a u − b w = −c r with r not negative, the sign of the left side settles that of c
pos_gives_neg : {c r : ℤ} (z : ℤ) → z ≡ neg_ℤ c *ℤ r → NonNeg r → Pos z → Neg c
pos_gives_neg {c} {r} z e h k = neg_of_pos c (pos_of_mul_nonneg h (subst Pos (e ∙ *ℤ_comm (neg_ℤ c) r) k)).1

neg_gives_pos : {c r : ℤ} (z : ℤ) → z ≡ neg_ℤ c *ℤ r → NonNeg r → Pos (neg_ℤ z) → Pos c
neg_gives_pos {c} {r} z e h k = (pos_of_mul_nonneg h (subst Pos (ap neg_ℤ e ∙ turn c r) k)).1
  where
    turn : (c r : ℤ) → neg_ℤ (neg_ℤ c *ℤ r) ≡ r *ℤ c
    turn c r = solve (c ∷ r ∷ []) (opp (opp (var 0) :* var 1)) (var 1 :* var 0) tt

-- ---- the four ranges of x

module _ (p q : HPoint) (p_pos : Pos p.W) (q-pos : Pos q.W) (forward : NonNeg (dx p q)) (s : Segment) (wide : NonNeg (s.right.x -ℤ s.left.x)) where
  -- from "the right end is not past p" to "the left end is not past p"
  left_too : (u : HPoint) → Pos u.W → T (le_z (s.right.x *ℤ u.W) u.X) → T (le_z (s.left.x *ℤ u.W) u.X)
  left_too u u_pos t =
      nonneg_le_z (s.left.x *ℤ u.W) u.X
      (subst NonNeg (solve (s.left.x ∷ s.right.x ∷ u.X ∷ u.W ∷ []) (var 2 :- var 1 :* var 3 :+ (var 1 :- var 0) :* var 3) (var 2 :- var 0 :* var 3) tt)
      (nonneg_add (le_z_nonneg (s.right.x *ℤ u.W) u.X t) (nonneg_mul wide (pos_nonneg u_pos))))

  -- from "not past p" to "not past q"
  later : (e : ℤ) → T (le_z (e *ℤ p.W) p.X) → T (le_z (e *ℤ q.W) q.X)
  unfolding dx
  later e t =
      nonneg_le_z (e *ℤ q.W) q.X
      (cancel_nonneg p_pos
      (subst NonNeg (solve (e ∷ pos 0 ∷ pos 0 ∷ pos 0 ∷ p.X ∷ p.Y ∷ p.W ∷ q.X ∷ q.Y ∷ q.W ∷ []) (dxᵉ first second :+ (var 4 :- var 0 :* var 6) :* var 9) (var 6 :* (var 7 :- var 0 :* var 9)) tt)
      (nonneg_add forward (nonneg_mul (le_z_nonneg (e *ℤ p.W) p.X t) (pos_nonneg q-pos)))))

  -- ---- where the sides of p and q have one sign, an end between them lies on the other side

  end_sign : (v : Point)
      → side_at s p *ℤ (q.X -ℤ v.x *ℤ q.W) -ℤ side_at s q *ℤ (p.X -ℤ v.x *ℤ p.W) ≡ neg_ℤ (det p q (grid v)) *ℤ (s.right.x -ℤ s.left.x)
      → T (lt_z p.X (v.x *ℤ p.W) && le_z (v.x *ℤ q.W) q.X)
      → (Pos (side_at s p) → Pos (side_at s q) → Neg (det p q (grid v))) × (Neg (side_at s p) → Neg (side_at s q) → Pos (det p q (grid v)))
  end_sign v seen t = (
    λ a b. pos_gives_neg _ seen wide (subst Pos (sym (difference (side_at s p) (q.X -ℤ v.x *ℤ q.W) (side_at s q) (p.X -ℤ v.x *ℤ p.W))) (nonneg_add_pos (nonneg_mul (pos_nonneg a) u) (pos_mul b w))),
    λ a b. neg_gives_pos _ seen wide (subst Pos (sym (difference_neg (side_at s p) (q.X -ℤ v.x *ℤ q.W) (side_at s q) (p.X -ℤ v.x *ℤ p.W))) (nonneg_add_pos (nonneg_mul (pos_nonneg (neg_pos a)) u) (pos_mul (neg_pos b) w))),
  )
    where
      u : NonNeg (q.X -ℤ v.x *ℤ q.W)
      u = le_z_nonneg (v.x *ℤ q.W) q.X (and_right (lt_z p.X (v.x *ℤ p.W)) (le_z (v.x *ℤ q.W) q.X) t)

      w : Pos (neg_ℤ (p.X -ℤ v.x *ℤ p.W))
      w =
          subst Pos (solve (v.x ∷ p.X ∷ p.W ∷ []) (var 0 :* var 2 :- var 1) (opp (var 1 :- var 0 :* var 2)) tt)
          (lt_z_pos p.X (v.x *ℤ p.W) (and_left (lt_z p.X (v.x *ℤ p.W)) (le_z (v.x *ℤ q.W) q.X) t))

  -- ---- where both ends lie on one side of the path, the segment passes p, or q, on that side

  point_sign : (u : HPoint)
      → det p q (grid s.left) *ℤ (s.right.x *ℤ u.W -ℤ u.X) -ℤ det p q (grid s.right) *ℤ (s.left.x *ℤ u.W -ℤ u.X) ≡ neg_ℤ (side_at s u) *ℤ dx p q
      → T (le_z (s.left.x *ℤ u.W) u.X && lt_z u.X (s.right.x *ℤ u.W))
      → (Pos (det p q (grid s.left)) → Pos (det p q (grid s.right)) → Neg (side_at s u)) × (Neg (det p q (grid s.left)) → Neg (det p q (grid s.right)) → Pos (side_at s u))
  point_sign u seen t = (
    λ a b. pos_gives_neg _ seen forward (subst Pos (sym (difference (det p q (grid s.left)) (s.right.x *ℤ u.W -ℤ u.X) (det p q (grid s.right)) (s.left.x *ℤ u.W -ℤ u.X))) (pos_add_nonneg (pos_mul a r) (nonneg_mul (pos_nonneg b) l))),
    λ a b. neg_gives_pos _ seen forward (subst Pos (sym (difference_neg (det p q (grid s.left)) (s.right.x *ℤ u.W -ℤ u.X) (det p q (grid s.right)) (s.left.x *ℤ u.W -ℤ u.X))) (pos_add_nonneg (pos_mul (neg_pos a) r) (nonneg_mul (pos_nonneg (neg_pos b)) l))),
  )
    where
      r : Pos (s.right.x *ℤ u.W -ℤ u.X)
      r = lt_z_pos u.X (s.right.x *ℤ u.W) (and_right (le_z (s.left.x *ℤ u.W) u.X) (lt_z u.X (s.right.x *ℤ u.W)) t)

      l : NonNeg (neg_ℤ (s.left.x *ℤ u.W -ℤ u.X))
      l =
          subst NonNeg (solve (s.left.x ∷ u.X ∷ u.W ∷ []) (var 1 :- var 0 :* var 2) (opp (var 0 :* var 2 :- var 1)) tt)
          (le_z_nonneg (s.left.x *ℤ u.W) u.X (and_left (le_z (s.left.x *ℤ u.W) u.X) (lt_z u.X (s.right.x *ℤ u.W)) t))

  -- ---- a count or an end's place is its range, or nothing

  count_all : (u : HPoint) → (T (le_z (s.left.x *ℤ u.W) u.X && lt_z u.X (s.right.x *ℤ u.W)) → Pos (side_at s u))
      → counts_below u s ≡ le_z (s.left.x *ℤ u.W) u.X && not (le_z (s.right.x *ℤ u.W) u.X)
  unfolding counts_below
  count_all u f =
      and_follows (le_z (s.left.x *ℤ u.W) u.X && lt_z u.X (s.right.x *ℤ u.W)) (lt_z (pos 0) (side_at s u)) (λ t. pos_lt_z0 (side_at s u) (f t))
      ∙ ap (λ b. le_z (s.left.x *ℤ u.W) u.X && b) (lt_z_le_z u.X (s.right.x *ℤ u.W))

  count_none : (u : HPoint) → (T (le_z (s.left.x *ℤ u.W) u.X && lt_z u.X (s.right.x *ℤ u.W)) → Pos (side_at s u) → ⊥) → counts_below u s ≡ false
  unfolding counts_below
  count_none u f =
      and_never (le_z (s.left.x *ℤ u.W) u.X && lt_z u.X (s.right.x *ℤ u.W)) (lt_z (pos 0) (side_at s u)) (λ t k. f t (lt_z0_pos (side_at s u) k))

  end_all : (v : Point) → (T (lt_z p.X (v.x *ℤ p.W) && le_z (v.x *ℤ q.W) q.X) → Neg (det p q (grid v)))
      → under_path p q v ≡ not (le_z (v.x *ℤ p.W) p.X) && le_z (v.x *ℤ q.W) q.X
  unfolding under_path
  end_all v f =
      and_follows (lt_z p.X (v.x *ℤ p.W) && le_z (v.x *ℤ q.W) q.X) (lt_z (det p q (grid v)) (pos 0)) (λ t. neg_lt_z0 (det p q (grid v)) (f t))
      ∙ ap (λ b. b && le_z (v.x *ℤ q.W) q.X) (lt_z_le_z p.X (v.x *ℤ p.W))

  end_none : (v : Point) → (T (lt_z p.X (v.x *ℤ p.W) && le_z (v.x *ℤ q.W) q.X) → Neg (det p q (grid v)) → ⊥) → under_path p q v ≡ false
  unfolding under_path
  end_none v f =
      and_never (lt_z p.X (v.x *ℤ p.W) && le_z (v.x *ℤ q.W) q.X) (lt_z (det p q (grid v)) (pos 0)) (λ t k. f t (lt_z0_neg (det p q (grid v)) k))

  -- ---- the claim for one segment

  Claim : Type 0
  Claim = counts_below p s ⊻ counts_below q s ≡ under_path p q s.left ⊻ under_path p q s.right

  nothing : counts_below p s ≡ false → counts_below q s ≡ false → under_path p q s.left ≡ false → under_path p q s.right ≡ false → Claim
  unfolding Claim
  nothing a b c d = ap₂ (λ m n. m ⊻ n) a b ∙ sym (ap₂ (λ m n. m ⊻ n) c d)

  everything : counts_below p s ≡ le_z (s.left.x *ℤ p.W) p.X && not (le_z (s.right.x *ℤ p.W) p.X)
      → counts_below q s ≡ le_z (s.left.x *ℤ q.W) q.X && not (le_z (s.right.x *ℤ q.W) q.X)
      → under_path p q s.left ≡ not (le_z (s.left.x *ℤ p.W) p.X) && le_z (s.left.x *ℤ q.W) q.X
      → under_path p q s.right ≡ not (le_z (s.right.x *ℤ p.W) p.X) && le_z (s.right.x *ℤ q.W) q.X
      → Claim
  unfolding Claim
  everything a b c d =
      ap₂ (λ m n. m ⊻ n) a b
      ∙ ranges (le_z (s.left.x *ℤ p.W) p.X) (le_z (s.right.x *ℤ p.W) p.X) (le_z (s.left.x *ℤ q.W) q.X) (le_z (s.right.x *ℤ q.W) q.X) (left_too p p_pos) (left_too q q-pos) (later s.left.x) (later s.right.x)
      ∙ sym (ap₂ (λ m n. m ⊻ n) c d)
    where
      -- l and r say which ends are not past p, m and n which are not past q
      ranges : (l r m n : Bool) → (T r → T l) → (T n → T m) → (T l → T m) → (T r → T n) → (l && not r) ⊻ (m && not n) ≡ (not l && m) ⊻ (not r && n)
      ranges true true true true f g h k = refl
      ranges true true true false f g h k = absurd (k tt)
      ranges true true false n f g h k = absurd (h tt)
      ranges true false true true f g h k = refl
      ranges true false true false f g h k = refl
      ranges true false false n f g h k = absurd (h tt)
      ranges false true m n f g h k = absurd (f tt)
      ranges false false true true f g h k = refl
      ranges false false true false f g h k = refl
      ranges false false false true f g h k = absurd (g tt)
      ranges false false false false f g h k = refl

  pub one_segment : Clear p q s → counts_below p s ⊻ counts_below q s ≡ under_path p q s.left ⊻ under_path p q s.right
  unfolding Claim
  one_segment (aligned a b c d) =
      nothing (count_none p (λ t h. zero_pos a h)) (count_none q (λ t h. zero_pos b h)) (end_none s.left (λ t h. zero_neg c h)) (end_none s.right (λ t h. zero_neg d h))
  one_segment (path_over a b) =
      everything (count_all p (λ t. a)) (count_all q (λ t. b)) (end_all s.left (λ t. (end_sign s.left (seen_from_left s p q) t).0 a b)) (end_all s.right (λ t. (end_sign s.right (seen_from_right s p q) t).0 a b))
  one_segment (path_under a b) =
      nothing (count_none p (λ t h. pos_clash h a)) (count_none q (λ t h. pos_clash h b)) (end_none s.left (λ t h. pos_clash ((end_sign s.left (seen_from_left s p q) t).1 a b) h)) (end_none s.right (λ t h. pos_clash ((end_sign s.right (seen_from_right s p q) t).1 a b) h))
  one_segment (ends_over a b) =
      nothing (count_none p (λ t h. pos_clash h ((point_sign p (seen_from_first s p q) t).0 a b))) (count_none q (λ t h. pos_clash h ((point_sign q (seen_from_second s p q) t).0 a b))) (end_none s.left (λ t h. pos_clash a h)) (end_none s.right (λ t h. pos_clash b h))
  one_segment (ends_under a b) =
      everything (count_all p (λ t. (point_sign p (seen_from_first s p q) t).1 a b)) (count_all q (λ t. (point_sign q (seen_from_second s p q) t).1 a b)) (end_all s.left (λ t. a)) (end_all s.right (λ t. b))

-- ---- even ends

-- Every point is an end of an even number of the segments
abbrev pub Even : List Segment → Type 0
Even l = (v : Point) → parity (λ s. is_same_point s.left v ⊻ is_same_point s.right v) l ≡ false

ends : List Segment → List Point
ends [] = []
ends (s ∷ l) = s.left ∷ s.right ∷ ends l

-- a test over the ends, segment by segment
over_ends : (f : Point → Bool) (l : List Segment) → parity f (ends l) ≡ parity (λ s. f s.left ⊻ f s.right) l
unfolding ends parity
over_ends f [] = refl
over_ends f (s ∷ l) = ap (λ b. f s.left ⊻ (f s.right ⊻ b)) (over_ends f l) ∙ sym (xor_assoc (f s.left) (f s.right) (parity (λ t. f t.left ⊻ f t.right) l))

-- so any test of points holds at an even number of ends
pub even_ends : (l : List Segment) → Even l → (f : Point → Bool) → parity (λ s. f s.left ⊻ f s.right) l ≡ false
even_ends l h f =
    sym (over_ends f l)
    ∙ even_all (λ a b. is_same_point b a) (λ a b t. sym (same_point_read b a t)) same_point_refl (ends l) (λ v m. over_ends (λ b. is_same_point b v) l ∙ h v) f

-- ---- the path lemma

forward_path : (p q : HPoint) → Pos p.W → Pos q.W → NonNeg (dx p q) → (l : List Segment) → Even l
    → ((s : Segment) → s ∈ l → NonNeg (s.right.x -ℤ s.left.x)) → ((s : Segment) → s ∈ l → Clear p q s)
    → parity (counts_below p) l ≡ parity (counts_below q) l
forward_path p q p_pos q-pos f l even wide clear =
    xor_none (parity (counts_below p) l) (parity (counts_below q) l)
    (sym (parity_xor (counts_below p) (counts_below q) l)
    ∙ parity_same (λ s. counts_below p s ⊻ counts_below q s) (λ s. under_path p q s.left ⊻ under_path p q s.right) l (λ s m. one_segment p q p_pos q-pos f s (wide s m) (clear s m))
    ∙ even_ends l even (under_path p q))

pub path : (p q : HPoint) → Pos p.W → Pos q.W → (l : List Segment) → Even l
    → ((s : Segment) → s ∈ l → NonNeg (s.right.x -ℤ s.left.x)) → ((s : Segment) → s ∈ l → Clear p q s)
    → parity (counts_below p) l ≡ parity (counts_below q) l
path p q p_pos q-pos l even wide clear = go (half (dx p q))
  where
    turned : dx q p ≡ neg_ℤ (dx p q)
    turned = dx_swap p q

    go : Half (dx p q) → parity (counts_below p) l ≡ parity (counts_below q) l
    go (at_least_lem h) = forward_path p q p_pos q-pos h l even wide clear
    go (under h) = sym (forward_path q p q-pos p_pos (subst NonNeg (sym turned) (pos_nonneg (neg_pos h))) l even wide (λ s m. clear_swap (clear s m)))
