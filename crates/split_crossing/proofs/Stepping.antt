-- From a grid point on s to the next one its side value against t changes by the same: so a crossing is on the grid exactly if that divides the side value of the left end,
-- and lies as many steps from there.
use Prim.Native.Nat.{ℕ, zero, suc, ◌+◌, ◌*◌, ◌/◌, ◌%◌, ◌<◌, ◌≤◌, ◌∣◌}
use native.Mathlib.Omega.{arith}
use native.Mathlib.Nat.{le_refl, mul-le-mul, add-mul, mul_assoc, mul_comm, div-add-mod', div-le_of_le-mul, dvd-add_iff_right, dvd-mul_left_of_dvd, dvd_of_mul-dvd-mul_left, dvd_of_mod-eq-zero, mod-eq-zero_of_dvd, mul-mod_left}
use mathlib.Core.Path.{◌≡◌, refl, sym, ap, ap₂, ◌∙◌, subst, subst₂}
use mathlib.Core.Bool.{cond}
use mathlib.Core.List.{[], ◌∷◌}
use lib.Dec.{T}
use lib.IntN.{ℤ, pos, negsuc, neg_ℤ, nat_abs, ◌+ℤ◌, ◌-ℤ◌, ◌*ℤ◌}
use Rattle.std.specs.Prelude.{Option, Some, None}
use Rattle.std.specs.Int.{IsGcd}
use Rattle.whole.proofs.Solver.{var, opp, ◌:+◌, ◌:-◌, ◌:*◌, solve}
use Rattle.whole.proofs.Logic.{true_is}
use Rattle.plane.specs.declared.Point.{Point}
use Rattle.plane.specs.declared.Segment.{Segment}
use Rattle.plane.specs.Plane.{limit, segment_in_range, grid, side, side_at, cross}
use Rattle.plane.proofs.Machine.{nat_abs_product, nat_abs_difference, within_x, within_y, left_in_range, right_in_range}
use Rattle.plane.proofs.Grid.{side_grid}
use Rattle.plane.proofs.Touch.{Opposite, falls, rises, cross_read}
use Rattle.split_crossing.specs.declared.Crossing.TheVariants.{Apart, OffGrid, At}
use Rattle.split_crossing.specs.Crossing.{size_left, size_right, placed_on, crossing_of_point, crossing_of}
use Rattle.split_crossing.specs.Steps.{InSteps, reached}
use Rattle.split_crossing.proofs.Proportion.{Parted, pos_size, neg_size, right_size, placed_parted, parted_placed}

-- ---- one step of Euclid, with each number times n

pub divisor_step : (x y n g : ℕ) → IsGcd (y * n) (x % y * n) g → IsGcd (x * n) (y * n) g
divisor_step x y n g h = (
  subst (λ m. g ∣ m) (sym whole) ((dvd-add_iff_right g (dvd-mul_left_of_dvd g h.0 (x / y))).0 h.1),
  h.0,
  λ d p q. h.2 d q ((dvd-add_iff_right d (dvd-mul_left_of_dvd d q (x / y))).1 (subst (λ m. d ∣ m) whole p)),
)
  where
    whole : x * n ≡ x / y * (y * n) + x % y * n
    whole = ap (λ m. m * n) (sym (div-add-mod' x y)) ∙ add-mul (x / y * y) (x % y) n ∙ ap (λ m. m + x % y * n) (mul_assoc (x / y) y n)

pub times_none : (y n : ℕ) → y ≡ 0 → y * n ≡ 0
times_none y n e = omega (arith, ap (λ m. m * n) e)

-- ---- sizes of opposite numbers

opposite_size : (a b : ℤ) → Opposite a b → nat_abs (a -ℤ b) ≡ nat_abs a + nat_abs b
opposite_size a b (falls h k) = sym (ap nat_abs (ap₂ ◌+ℤ◌ (pos_size h) (neg_size k) ∙ solve (a ∷ b ∷ []) (var 0 :+ opp (var 1)) (var 0 :- var 1) tt))
opposite_size a b (rises h k) =
    sym (turned (a -ℤ b)) ∙ sym (ap nat_abs (ap₂ ◌+ℤ◌ (neg_size h) (pos_size k) ∙ solve (a ∷ b ∷ []) (opp (var 0) :+ var 1) (opp (var 0 :- var 1)) tt))
  where
    turned : (z : ℤ) → nat_abs (neg_ℤ z) ≡ nat_abs z
    turned (pos zero) = refl
    turned (pos (suc n)) = refl
    turned (negsuc n) = refl

above_left_factor : (a b : ℕ) → 0 < a * b → 0 < a
above_left_factor zero b h = omega (arith, h)
above_left_factor (suc a) b h = omega arith

module _ (s : Segment) (next : Point) (steps : ℕ) (h : InSteps s next steps) where
  -- some of the steps are no longer than all of them
  module _ (r : T (segment_in_range s)) (k : ℕ) (few : k ≤ steps) where
    shorter : (n l m : ℤ) → pos steps *ℤ (n -ℤ l) ≡ m -ℤ l → nat_abs l ≤ limit → nat_abs m ≤ limit → nat_abs (pos k *ℤ (n -ℤ l)) ≤ 2 * limit
    shorter n l m e hl hm =
        omega (
          arith,
          nat_abs_product (pos k) (n -ℤ l),
          mul-le-mul few (le_refl (nat_abs (n -ℤ l))),
          sym (nat_abs_product (pos steps) (n -ℤ l)) ∙ ap nat_abs e,
          nat_abs_difference m l,
          hl,
          hm,
        )

    pub way_across : nat_abs (pos k *ℤ (next.x -ℤ s.left.x)) ≤ 2 * limit
    way_across = shorter next.x s.left.x s.right.x h.by_x (within_x limit s.left (left_in_range s r)) (within_x limit s.right (right_in_range s r))

    pub way_up : nat_abs (pos k *ℤ (next.y -ℤ s.left.y)) ≤ 2 * limit
    way_up = shorter next.y s.left.y s.right.y h.by_y (within_y limit s.left (left_in_range s r)) (within_y limit s.right (right_in_range s r))

module _ (s : Segment) (next : Point) (steps : ℕ) (h : InSteps s next steps) (t : Segment) where
  -- the side values of the ends, and of the next grid point
  abbrev A : ℤ
  A = side t.left t.right s.left

  abbrev B : ℤ
  B = side t.left t.right s.right

  abbrev N : ℤ
  N = side t.left t.right next

  -- so many times the change in a step is that from end to end
  pub even_change : pos steps *ℤ (A -ℤ N) ≡ A -ℤ B
  unfolding side
  even_change =
      solve (pos steps ∷ (t.right.x -ℤ t.left.x) ∷ (t.right.y -ℤ t.left.y) ∷ s.left.x ∷ s.left.y ∷ next.x ∷ next.y ∷ t.left.x ∷ t.left.y ∷ [])
      (var 0 :* ((var 1 :* (var 4 :- var 8) :- var 2 :* (var 3 :- var 7)) :- (var 1 :* (var 6 :- var 8) :- var 2 :* (var 5 :- var 7))))
      (var 2 :* (var 0 :* (var 5 :- var 3)) :- var 1 :* (var 0 :* (var 6 :- var 4))) tt
      ∙ ap₂ (λ u v. (t.right.y -ℤ t.left.y) *ℤ u -ℤ (t.right.x -ℤ t.left.x) *ℤ v) h.by_x h.by_y
      ∙ solve ((t.right.x -ℤ t.left.x) ∷ (t.right.y -ℤ t.left.y) ∷ s.left.x ∷ s.left.y ∷ s.right.x ∷ s.right.y ∷ t.left.x ∷ t.left.y ∷ [])
      (var 1 :* (var 4 :- var 2) :- var 0 :* (var 5 :- var 3))
      ((var 0 :* (var 3 :- var 7) :- var 1 :* (var 2 :- var 6)) :- (var 0 :* (var 5 :- var 7) :- var 1 :* (var 4 :- var 6))) tt

  -- the change with each step
  abbrev pub change : ℕ
  change = nat_abs (A -ℤ N)

  module _ (x : T (cross s t)) where
    across : Opposite (side_at t (grid s.left)) (side_at t (grid s.right))
    across = (cross_read s t x).1

    pub all_steps : steps * change ≡ size_left s t + size_right s t
    all_steps =
        sym (nat_abs_product (pos steps) (A -ℤ N)) ∙ ap nat_abs even_change
        ∙ opposite_size A B (subst₂ Opposite (side_grid t s.left) (side_grid t s.right) across)

    some_way : 0 < steps * change
    some_way = omega (arith, all_steps, right_size s t across)

    pub change_above : 0 < change
    change_above = above_left_factor change steps (omega (arith, some_way, mul_comm change steps))

    -- so many steps from the left end
    module _ (k : ℕ) (e : size_left s t ≡ k * change) where
      reached_parted : Parted s t (reached s next k)
      reached_parted = record { by_x = coordinate s.left.x next.x (s.right.x -ℤ s.left.x) h.by_x; by_y = coordinate s.left.y next.y (s.right.y -ℤ s.left.y) h.by_y }
        where
          coordinate : (l n way : ℤ) → pos steps *ℤ (n -ℤ l) ≡ way
              → (l +ℤ pos k *ℤ (n -ℤ l) -ℤ l) *ℤ pos (size_left s t + size_right s t) ≡ way *ℤ pos (size_left s t)
          coordinate l n way f =
              ap (λ m. (l +ℤ pos k *ℤ (n -ℤ l) -ℤ l) *ℤ pos m) (sym all_steps)
              ∙ solve (l ∷ n ∷ pos k ∷ pos steps ∷ pos change ∷ []) ((var 0 :+ var 2 :* (var 1 :- var 0) :- var 0) :* (var 3 :* var 4)) (var 3 :* (var 1 :- var 0) :* (var 2 :* var 4)) tt
              ∙ ap₂ ◌*ℤ◌ f (ap pos (sym e))

      pub on_the_grid : placed_on s (size_left s t) (size_left s t + size_right s t) ≡ Some (reached s next k)
      on_the_grid = parted_placed s t (right_size s t across) (reached s next k) reached_parted

    -- a grid point there is a whole number of steps from it
    grid_steps : (c : Point) → Parted s t c → size_left s t % change ≡ 0
    grid_steps c p =
        mod-eq-zero_of_dvd change
        (dvd_of_mul-dvd-mul_left change (above_left_factor steps change some_way)
        (subst (λ d. d ∣ steps * size_left s t) (sym all_steps)
        (dvd_of_mod-eq-zero (size_left s t + size_right s t)
        (h.greatest (size_left s t) (size_left s t + size_right s t) (divides (c.x -ℤ s.left.x) (s.right.x -ℤ s.left.x) p.by_x) (divides (c.y -ℤ s.left.y) (s.right.y -ℤ s.left.y) p.by_y)))))
      where
        divides : (v way : ℤ) → v *ℤ pos (size_left s t + size_right s t) ≡ way *ℤ pos (size_left s t) → nat_abs way * size_left s t % (size_left s t + size_right s t) ≡ 0
        divides v way f =
            ap (λ m. m % (size_left s t + size_right s t))
            (sym (nat_abs_product way (pos (size_left s t))) ∙ ap nat_abs (sym f) ∙ nat_abs_product v (pos (size_left s t + size_right s t)))
            ∙ mul-mod_left (nat_abs v) (size_left s t + size_right s t)

    pub off_the_grid : (size_left s t % change ≡ 0 → ⊥) → placed_on s (size_left s t) (size_left s t + size_right s t) ≡ None
    off_the_grid n = go (placed_on s (size_left s t) (size_left s t + size_right s t)) refl
      where
        go : (o : Option Point) → placed_on s (size_left s t) (size_left s t + size_right s t) ≡ o → o ≡ None
        go (Some c) e = absurd (n (grid_steps c (placed_parted s t c e)))
        go None e = refl

    -- ---- what the answer is

    pub crossing_there : size_left s t % change ≡ 0 → At (reached s next (size_left s t / change)) ≡ crossing_of s t
    unfolding crossing_of
    crossing_there e =
        sym (ap₂ (λ b o. cond b (crossing_of_point o) Apart) (true_is (cross s t) x) (on_the_grid (size_left s t / change) (omega (arith, div-add-mod' (size_left s t) change, e))))

    pub crossing_nowhere : (size_left s t % change ≡ 0 → ⊥) → OffGrid ≡ crossing_of s t
    unfolding crossing_of
    crossing_nowhere n = sym (ap₂ (λ b o. cond b (crossing_of_point o) Apart) (true_is (cross s t) x) (off_the_grid n))

    -- no more steps than lead to the right end
    pub few_steps : size_left s t / change ≤ steps
    few_steps = div-le_of_le-mul change (omega (arith, all_steps, mul_comm steps change))
