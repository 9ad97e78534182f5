-- The line of t parts s in the proportion of the side values of its ends: a point of s is on that line exactly if it lies size_left of size_left + size_right parts
-- of the way from the left end to the right.
use Prim.Native.Nat.{ℕ, ◌+◌, ◌*◌, ◌/◌, ◌%◌, ◌<◌}
use native.Mathlib.Omega.{arith}
use native.Mathlib.Nat.{div-add-mod', mul-mod_left}
use mathlib.Core.Path.{◌≡◌, refl, sym, ap, ap₂, ◌∙◌, subst}
use mathlib.Core.Bool.{Bool, true, false, cond, true≢false}
use mathlib.Core.List.{[], ◌∷◌}
use lib.Dec.{eqb}
use borrow.Author.Tests.{eqb-true, eq-eqb}
use lib.IntN.{ℤ, pos, negsuc, nat_abs, neg_ℤ, ◌+ℤ◌, ◌-ℤ◌, ◌*ℤ◌}
use lib.Signed.{lt_z}
use Rattle.std.specs.Prelude.{Option, Some, None, option_map}
use Rattle.std.proofs.lemmas.Option.{none-some, same_Some}
use Rattle.whole.proofs.Balance.{P, N, pos_P, pos_N}
use Rattle.whole.proofs.Solver.{var, con, opp, ◌:+◌, ◌:-◌, ◌:*◌, solve}
use Rattle.whole.proofs.Sign.{Pos, NonNeg, Neg, Half, at_least_lem, under, half, Weak, weak_zero, weak_plus, weak, pos_neg, neg_pos, pos_add, lit_pos, lit_nonneg, cancel_zero, mul_zero_right, sub_zero_eq, lt_z_pos, pos_lt_z}
use Rattle.whole.proofs.Logic.{is_true, true_is}
use Rattle.plane.specs.declared.Point.{Point}
use Rattle.plane.specs.declared.Segment.{Segment}
use Rattle.plane.specs.Plane.{grid, side_at}
use Rattle.plane.proofs.Machine.{nat_abs_product}
use Rattle.plane.proofs.Homogeneous.{triple_eq}
use Rattle.plane.proofs.OnSegment.{Along, right_of_left, above_left}
use Rattle.plane.proofs.Grid.{side_grid}
use Rattle.plane.proofs.Touch.{Opposite, falls, rises, side_at_mean}
use Rattle.split_crossing.specs.Crossing.{size_left, size_right, steps_from, part, moved, grid_point, placed_on}

-- ---- sizes

size_pos : (z : ℤ) → Pos z → pos (nat_abs z) ≡ z
unfolding P N
size_pos (pos n) h = refl
size_pos (negsuc n) h = absurd (omega (arith, h.above))

size_neg : (z : ℤ) → Neg z → pos (nat_abs z) ≡ neg_ℤ z
unfolding P N
size_neg (pos n) h = absurd (omega (arith, h.below))
size_neg (negsuc n) h = refl

pub pos_size : {z : ℤ} → Pos z → pos (nat_abs z) ≡ z
pos_size {z} h = size_pos z h

pub neg_size : {z : ℤ} → Neg z → pos (nat_abs z) ≡ neg_ℤ z
neg_size {z} h = size_neg z h

same_by : {k : ℤ} (x y : ℤ) → Pos k → k *ℤ x ≡ k *ℤ y → x ≡ y
same_by {k} x y h e =
    sub_zero_eq x y
    (cancel_zero h (solve (k ∷ x ∷ y ∷ []) (var 0 :* (var 2 :- var 1)) (var 0 :* var 2 :- var 0 :* var 1) tt ∙ ap (λ z. k *ℤ y -ℤ z) e ∙ solve (k ∷ y ∷ []) (var 0 :* var 1 :- var 0 :* var 1) (con (pos 0)) tt))

pub nonneg_size : {z : ℤ} → NonNeg z → pos (nat_abs z) ≡ z
nonneg_size {z} h = go (weak h)
  where
    go : Weak z → pos (nat_abs z) ≡ z
    go (weak_plus k) = pos_size k
    go (weak_zero e) = ap (λ x. pos (nat_abs x)) e ∙ sym e

-- ---- a point of s in that proportion

pub record Parted (s t : Segment) (c : Point) : Type 0 where
  pub by_x : (c.x -ℤ s.left.x) *ℤ pos (size_left s t + size_right s t) ≡ (s.right.x -ℤ s.left.x) *ℤ pos (size_left s t)
  pub by_y : (c.y -ℤ s.left.y) *ℤ pos (size_left s t + size_right s t) ≡ (s.right.y -ℤ s.left.y) *ℤ pos (size_left s t)

module _ (s t : Segment) (across : Opposite (side_at t (grid s.left)) (side_at t (grid s.right))) where
  abbrev A : ℤ
  A = side_at t (grid s.left)

  abbrev B : ℤ
  B = side_at t (grid s.right)

  -- the sizes are those of A and B, so above zero, and they weigh A and B to zero
  m_is : pos (size_left s t) ≡ pos (nat_abs A)
  m_is = ap (λ z. pos (nat_abs z)) (sym (side_grid t s.left))

  n_is : pos (size_right s t) ≡ pos (nat_abs B)
  n_is = ap (λ z. pos (nat_abs z)) (sym (side_grid t s.right))

  m_pos : Pos (pos (size_left s t))
  m_pos = subst Pos (sym m_is) (go across)
    where
      go : Opposite A B → Pos (pos (nat_abs A))
      go (falls h k) = subst Pos (sym (pos_size h)) h
      go (rises h k) = subst Pos (sym (neg_size h)) (neg_pos h)

  n_pos : Pos (pos (size_right s t))
  n_pos = subst Pos (sym n_is) (go across)
    where
      go : Opposite A B → Pos (pos (nat_abs B))
      go (falls h k) = subst Pos (sym (neg_size k)) (neg_pos k)
      go (rises h k) = subst Pos (sym (pos_size k)) k

  -- the right end is off the line of t
  pub right_size : 0 < size_right s t
  right_size = omega (arith, n_pos.above, pos_P (size_right s t), pos_N (size_right s t))

  weighed_out : pos (size_right s t) *ℤ A +ℤ pos (size_left s t) *ℤ B ≡ pos 0
  weighed_out = ap₂ (λ n m. n *ℤ A +ℤ m *ℤ B) n_is m_is ∙ go across
    where
      go : Opposite A B → pos (nat_abs B) *ℤ A +ℤ pos (nat_abs A) *ℤ B ≡ pos 0
      go (falls h k) =
          ap₂ (λ n m. n *ℤ A +ℤ m *ℤ B) (neg_size k) (pos_size h) ∙ solve (A ∷ B ∷ []) (opp (var 1) :* var 0 :+ var 0 :* var 1) (con (pos 0)) tt
      go (rises h k) =
          ap₂ (λ n m. n *ℤ A +ℤ m *ℤ B) (pos_size k) (neg_size h) ∙ solve (A ∷ B ∷ []) (var 1 :* var 0 :+ opp (var 0) :* var 1) (con (pos 0)) tt

  module _ (c : Point) where
    -- a point so parted is on s and on the line of t
    pub parted_along : Parted s t c → Along s (grid c)
    parted_along h =
        record {
          k = pos (size_left s t + size_right s t);
          a = pos (size_right s t);
          b = pos (size_left s t);
          k_pos = pos_add m_pos n_pos;
          a_least = lit_nonneg (size_right s t);
          b_least = lit_nonneg (size_left s t);
          mean = triple_eq (coordinate c.x s.left.x s.right.x h.by_x) (coordinate c.y s.left.y s.right.y h.by_y) whole;
        }
      where
        coordinate : (v l r : ℤ) → (v -ℤ l) *ℤ pos (size_left s t + size_right s t) ≡ (r -ℤ l) *ℤ pos (size_left s t)
            → pos (size_left s t + size_right s t) *ℤ v ≡ pos (size_right s t) *ℤ l +ℤ pos (size_left s t) *ℤ r
        coordinate v l r e =
            solve (pos (size_left s t + size_right s t) ∷ v ∷ l ∷ []) (var 0 :* var 1) ((var 1 :- var 2) :* var 0 :+ var 0 :* var 2) tt
            ∙ ap (λ z. z +ℤ pos (size_left s t + size_right s t) *ℤ l) e
            ∙ solve (pos (size_left s t) ∷ pos (size_right s t) ∷ l ∷ r ∷ []) ((var 3 :- var 2) :* var 0 :+ (var 0 :+ var 1) :* var 2) (var 1 :* var 2 :+ var 0 :* var 3) tt

        whole : pos (size_left s t + size_right s t) *ℤ pos 1 ≡ pos (size_right s t) *ℤ pos 1 +ℤ pos (size_left s t) *ℤ pos 1
        whole = solve (pos (size_left s t) ∷ pos (size_right s t) ∷ []) ((var 0 :+ var 1) :* con (pos 1)) (var 1 :* con (pos 1) :+ var 0 :* con (pos 1)) tt

    pub parted_line : Parted s t c → side_at t (grid c) ≡ pos 0
    unfolding parted_along
    parted_line h = cancel_zero (parted_along h).k_pos (side_at_mean t (parted_along h) ∙ weighed_out)

    -- and the other way round
    module _ (h : Along s (grid c)) (e : side_at t (grid c) ≡ pos 0) where
      balanced : h.a *ℤ A +ℤ h.b *ℤ B ≡ pos 0
      balanced = sym (side_at_mean t h) ∙ mul_zero_right h.k e

      whole : h.k ≡ h.a +ℤ h.b
      whole =
          solve (h.k ∷ []) (var 0) (var 0 :* con (pos 1)) tt ∙ ap (λ p. p.W) h.mean
          ∙ solve (h.a ∷ h.b ∷ []) (var 0 :* con (pos 1) :+ var 1 :* con (pos 1)) (var 0 :+ var 1) tt

      -- the weights of c are in the proportion
      weights : h.b *ℤ pos (size_left s t + size_right s t) ≡ h.k *ℤ pos (size_left s t)
      weights =
          solve (h.b ∷ pos (size_left s t) ∷ pos (size_right s t) ∷ []) (var 0 :* (var 1 :+ var 2)) (var 0 :* var 1 :+ var 0 :* var 2) tt
          ∙ ap₂ (λ m n. h.b *ℤ m +ℤ h.b *ℤ n) m_is n_is ∙ go across ∙ sym (ap₂ (λ k m. k *ℤ m) whole m_is)
        where
          -- b B is minus a A
          turned : h.b *ℤ B ≡ neg_ℤ (h.a *ℤ A)
          turned =
              solve ((h.a *ℤ A) ∷ (h.b *ℤ B) ∷ []) (var 1) (var 0 :+ var 1 :- var 0) tt ∙ ap (λ z. z -ℤ h.a *ℤ A) balanced
              ∙ solve ((h.a *ℤ A) ∷ []) (con (pos 0) :- var 0) (opp (var 0)) tt

          go : Opposite A B → h.b *ℤ pos (nat_abs A) +ℤ h.b *ℤ pos (nat_abs B) ≡ (h.a +ℤ h.b) *ℤ pos (nat_abs A)
          go (falls u v) =
              ap₂ (λ m n. h.b *ℤ m +ℤ h.b *ℤ n) (pos_size u) (neg_size v)
              ∙ solve (h.b ∷ A ∷ B ∷ []) (var 0 :* var 1 :+ var 0 :* opp (var 2)) (var 0 :* var 1 :- var 0 :* var 2) tt
              ∙ ap (λ z. h.b *ℤ A -ℤ z) turned
              ∙ solve (h.a ∷ h.b ∷ A ∷ []) (var 1 :* var 2 :- opp (var 0 :* var 2)) ((var 0 :+ var 1) :* var 2) tt
              ∙ ap (λ z. (h.a +ℤ h.b) *ℤ z) (sym (pos_size u))
          go (rises u v) =
              ap₂ (λ m n. h.b *ℤ m +ℤ h.b *ℤ n) (neg_size u) (pos_size v) ∙ ap (λ z. h.b *ℤ neg_ℤ A +ℤ z) turned
              ∙ solve (h.a ∷ h.b ∷ A ∷ []) (var 1 :* opp (var 2) :+ opp (var 0 :* var 2)) ((var 0 :+ var 1) :* opp (var 2)) tt
              ∙ ap (λ z. (h.a +ℤ h.b) *ℤ z) (sym (neg_size u))

      pub along_parted : Parted s t c
      along_parted = record { by_x = coordinate c.x s.left.x s.right.x (right_of_left s (grid c) h); by_y = coordinate c.y s.left.y s.right.y (above_left s (grid c) h) }
        where
          coordinate : (v l r : ℤ) → h.k *ℤ (v -ℤ l *ℤ pos 1) ≡ h.b *ℤ (r -ℤ l) → (v -ℤ l) *ℤ pos (size_left s t + size_right s t) ≡ (r -ℤ l) *ℤ pos (size_left s t)
          coordinate v l r e =
              same_by ((v -ℤ l) *ℤ pos (size_left s t + size_right s t)) ((r -ℤ l) *ℤ pos (size_left s t)) h.k_pos
              (solve (h.k ∷ v ∷ l ∷ pos (size_left s t + size_right s t) ∷ []) (var 0 :* ((var 1 :- var 2) :* var 3)) (var 0 :* (var 1 :- var 2 :* con (pos 1)) :* var 3) tt
              ∙ ap (λ z. z *ℤ pos (size_left s t + size_right s t)) e
              ∙ solve (h.b ∷ r ∷ l ∷ pos (size_left s t + size_right s t) ∷ []) (var 0 :* (var 1 :- var 2) :* var 3) (var 0 :* var 3 :* (var 1 :- var 2)) tt
              ∙ ap (λ z. z *ℤ (r -ℤ l)) weights
              ∙ solve (h.k ∷ pos (size_left s t) ∷ r ∷ l ∷ []) (var 0 :* var 1 :* (var 2 :- var 3)) (var 0 :* ((var 2 :- var 3) :* var 1)) tt)

-- ---- one coordinate, by division

module _ (m n : ℤ) (num den : ℕ) where
  abbrev way : ℕ
  way = nat_abs (n -ℤ m)

  -- so many steps from m are num of den parts of the way
  pub steps_parted : (q : ℕ) → q * den ≡ way * num → (steps_from m n q -ℤ m) *ℤ pos den ≡ (n -ℤ m) *ℤ pos num
  unfolding steps_from
  steps_parted q exact = go (lt_z n m) refl
    where
      go : (b : Bool) → lt_z n m ≡ b → (cond b (m -ℤ pos q) (m +ℤ pos q) -ℤ m) *ℤ pos den ≡ (n -ℤ m) *ℤ pos num
      go true e =
          solve (m ∷ pos q ∷ pos den ∷ []) ((var 0 :- var 1 :- var 0) :* var 2) (opp (var 1 :* var 2)) tt
          ∙ ap neg_ℤ (ap pos exact ∙ ap (λ z. z *ℤ pos num) (down (lt_z_pos n m (is_true (lt_z n m) e))))
          ∙ solve (m ∷ n ∷ pos num ∷ []) (opp ((var 0 :- var 1) :* var 2)) ((var 1 :- var 0) :* var 2) tt
        where
          back : neg_ℤ (m -ℤ n) ≡ n -ℤ m
          back = solve (m ∷ n ∷ []) (opp (var 0 :- var 1)) (var 1 :- var 0) tt

          forth : neg_ℤ (n -ℤ m) ≡ m -ℤ n
          forth = solve (m ∷ n ∷ []) (opp (var 1 :- var 0)) (var 0 :- var 1) tt

          down : Pos (m -ℤ n) → pos way ≡ m -ℤ n
          down h = neg_size (subst Neg back (pos_neg h)) ∙ forth
      go false e =
          solve (m ∷ pos q ∷ pos den ∷ []) ((var 0 :+ var 1 :- var 0) :* var 2) (var 1 :* var 2) tt
          ∙ ap pos exact ∙ ap (λ z. z *ℤ pos num) (up (half (n -ℤ m)))
        where
          up : Half (n -ℤ m) → pos way ≡ n -ℤ m
          up (at_least_lem h) = nonneg_size h
          up (under h) = absurd (true≢false (sym (true_is (lt_z n m) (pos_lt_z n m (subst Pos (solve (m ∷ n ∷ []) (opp (var 1 :- var 0)) (var 0 :- var 1) tt) (neg_pos h)))) ∙ e))

  -- where den divides, the division is exact
  exactly : eqb (way * num % den) 0 ≡ true → way * num / den * den ≡ way * num
  exactly e = omega (arith, div-add-mod' (way * num) den, eqb-true (way * num % den) 0 e)

  moved_parted : (v : ℤ) → moved m n num den ≡ Some v → (v -ℤ m) *ℤ pos den ≡ (n -ℤ m) *ℤ pos num
  unfolding moved part
  moved_parted v = go (eqb (way * num % den) 0) refl
    where
      go : (b : Bool) → eqb (way * num % den) 0 ≡ b → option_map (steps_from m n) (cond b (Some (way * num / den)) None) ≡ Some v
          → (v -ℤ m) *ℤ pos den ≡ (n -ℤ m) *ℤ pos num
      go true e f = subst (λ z. (z -ℤ m) *ℤ pos den ≡ (n -ℤ m) *ℤ pos num) (same_Some (steps_from m n (way * num / den)) v f) (steps_parted (way * num / den) (exactly e))
      go false e f = absurd (none-some v f)

  parted_moved : 0 < den → (v : ℤ) → (v -ℤ m) *ℤ pos den ≡ (n -ℤ m) *ℤ pos num → moved m n num den ≡ Some v
  unfolding moved part
  parted_moved h v e = ap (λ b. option_map (steps_from m n) (cond b (Some (way * num / den)) None)) divides ∙ ap Some same
    where
      sizes : way * num ≡ nat_abs (v -ℤ m) * den
      sizes = sym (nat_abs_product (n -ℤ m) (pos num)) ∙ ap nat_abs (sym e) ∙ nat_abs_product (v -ℤ m) (pos den)

      divides : eqb (way * num % den) 0 ≡ true
      divides = eq-eqb (way * num % den) 0 (ap (λ k. k % den) sizes ∙ mul-mod_left (nat_abs (v -ℤ m)) den)

      times : (z : ℤ) → (z -ℤ m) *ℤ pos den ≡ (n -ℤ m) *ℤ pos num → pos den *ℤ (z -ℤ m) ≡ (n -ℤ m) *ℤ pos num
      times z f = solve (z ∷ m ∷ pos den ∷ []) (var 2 :* (var 0 :- var 1)) ((var 0 :- var 1) :* var 2) tt ∙ f

      same : steps_from m n (way * num / den) ≡ v
      same =
          by_gap (steps_from m n (way * num / den))
          (same_by (steps_from m n (way * num / den) -ℤ m) (v -ℤ m) (lit_pos den h)
          (times (steps_from m n (way * num / den)) (steps_parted (way * num / den) (exactly divides)) ∙ sym (times v e)))
        where
          by_gap : (z : ℤ) → z -ℤ m ≡ v -ℤ m → z ≡ v
          by_gap z f = solve (z ∷ m ∷ []) (var 0) (var 0 :- var 1 :+ var 1) tt ∙ ap (λ k. k +ℤ m) f ∙ solve (v ∷ m ∷ []) (var 0 :- var 1 :+ var 1) (var 0) tt

-- ---- both coordinates

module _ (s t : Segment) where
  pub placed_parted : (c : Point) → placed_on s (size_left s t) (size_left s t + size_right s t) ≡ Some c → Parted s t c
  unfolding placed_on
  placed_parted c = go (moved s.left.x s.right.x num den) (moved s.left.y s.right.y num den) refl refl
    where
      num : ℕ
      num = size_left s t

      den : ℕ
      den = size_left s t + size_right s t

      go : (u v : Option ℤ) → moved s.left.x s.right.x (size_left s t) (size_left s t + size_right s t) ≡ u
          → moved s.left.y s.right.y (size_left s t) (size_left s t + size_right s t) ≡ v → grid_point u v ≡ Some c → Parted s t c
      go (Some x) (Some y) e f g =
          subst (Parted s t) (same_Some (record { x = x; y = y }) c g)
          (record { by_x = moved_parted s.left.x s.right.x (size_left s t) (size_left s t + size_right s t) x e; by_y = moved_parted s.left.y s.right.y (size_left s t) (size_left s t + size_right s t) y f })
      go (Some x) None e f g = absurd (none-some c g)
      go None v e f g = absurd (none-some c g)

  pub parted_placed : 0 < size_right s t → (c : Point) → Parted s t c → placed_on s (size_left s t) (size_left s t + size_right s t) ≡ Some c
  unfolding placed_on
  parted_placed h c k =
      ap₂ grid_point
      (parted_moved s.left.x s.right.x (size_left s t) (size_left s t + size_right s t) (omega (arith, h)) c.x k.by_x)
      (parted_moved s.left.y s.right.y (size_left s t) (size_left s t + size_right s t) (omega (arith, h)) c.y k.by_y)
