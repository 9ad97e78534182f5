-- A segment in as many steps as the greatest common divisor of the way across and the way up: each is a whole way, and so each end of one a grid point.
use Prim.Native.Nat.{ℕ, zero, suc, ◌*◌, ◌/◌, ◌<◌, ◌≤◌, ◌∣◌}
use native.Mathlib.Omega.{arith}
use native.Mathlib.Nat.{mul-one, div-add-mod', div-le_self, le_of_dvd, dvd_of_mod-eq-zero, mod-eq-zero_of_dvd}
use mathlib.Core.Path.{◌≡◌, sym, ap, ap₂, ◌∙◌, subst}
use mathlib.Core.List.{[], ◌∷◌}
use lib.Dec.{T}
use lib.IntN.{ℤ, pos, nat_abs, ◌+ℤ◌, ◌-ℤ◌, ◌*ℤ◌}
use Rattle.std.specs.Int.{IsGcd}
use Rattle.whole.proofs.Balance.{pos_P, pos_N}
use Rattle.whole.proofs.Solver.{var, con, ◌:+◌, ◌:-◌, ◌:*◌, solve}
use Rattle.whole.proofs.Sign.{Pos, lit_pos, lit_nonneg}
use Rattle.plane.specs.declared.Segment.{Segment}
use Rattle.plane.specs.Plane.{limit, segment_in_range, ordered}
use Rattle.plane.proofs.Machine.{nat_abs_difference, within_x, within_y, is_within, left_in_range, right_in_range}
use Rattle.plane.proofs.OnSegment.{Ordered, slanting, upright, ordered_read}
use Rattle.split_crossing.specs.Crossing.{steps_from}
use Rattle.split_crossing.specs.Steps.{InSteps}
use Rattle.split_crossing.proofs.Proportion.{pos_size, steps_parted}
use Rattle.split_crossing.proofs.Range.{mean_within}

some_size : {z : ℤ} → Pos z → 0 < nat_abs z
some_size {z} h = omega (arith, (subst Pos (sym (pos_size h)) h).above, pos_P (nat_abs z), pos_N (nat_abs z))

-- a divisor of a number above zero is above zero
divisor_above : (g a : ℕ) → g ∣ a → 0 < a → 0 < g
divisor_above zero a d h = absurd (omega (arith, mod-eq-zero_of_dvd 0 d))
divisor_above (suc g) a d h = omega arith

module _ (s : Segment) (count : ℕ) (o : T (ordered s)) (r : T (segment_in_range s)) where
  abbrev pub across : ℕ
  across = nat_abs (s.right.x -ℤ s.left.x)

  abbrev pub up : ℕ
  up = nat_abs (s.right.y -ℤ s.left.y)

  across_small : across ≤ 2 * limit
  across_small = omega (arith, nat_abs_difference s.right.x s.left.x, within_x limit s.left (left_in_range s r), within_x limit s.right (right_in_range s r))

  up_small : up ≤ 2 * limit
  up_small = omega (arith, nat_abs_difference s.right.y s.left.y, within_y limit s.left (left_in_range s r), within_y limit s.right (right_in_range s r))

  pub steps_across : across / count ≤ 2 * limit
  steps_across = omega (arith, across_small, div-le_self across count)

  pub steps_up : up / count ≤ 2 * limit
  steps_up = omega (arith, up_small, div-le_self up count)

  module _ (g : (n : ℕ) → IsGcd (across * n) (up * n) (count * n)) where
    divides_across : count ∣ across
    divides_across = subst (λ a. a ∣ across) (mul-one count) (subst (λ a. count * 1 ∣ a) (mul-one across) (g 1).0)

    divides_up : count ∣ up
    divides_up = subst (λ a. a ∣ up) (mul-one count) (subst (λ a. count * 1 ∣ a) (mul-one up) (g 1).1)

    pub count_above : 0 < count
    count_above = go (ordered_read s o)
      where
        go : Ordered s → 0 < count
        go (slanting h) = divisor_above count across divides_across (some_size h)
        go (upright e h) = divisor_above count up divides_up (some_size h)

    count_small : count ≤ 2 * limit
    count_small = go (ordered_read s o)
      where
        go : Ordered s → count ≤ 2 * limit
        go (slanting h) = omega (arith, le_of_dvd (some_size h) divides_across, across_small)
        go (upright e h) = omega (arith, le_of_dvd (some_size h) divides_up, up_small)

    -- one coordinate
    module _ (l m : ℤ) (d : count ∣ nat_abs (m -ℤ l)) where
      abbrev next : ℤ
      next = steps_from l m (nat_abs (m -ℤ l) / count)

      all_the_way : pos count *ℤ (next -ℤ l) ≡ m -ℤ l
      all_the_way =
          solve (pos count ∷ next ∷ l ∷ []) (var 0 :* (var 1 :- var 2)) ((var 1 :- var 2) :* var 0) tt
          ∙ steps_parted l m 1 count (nat_abs (m -ℤ l) / count) (omega (arith, div-add-mod' (nat_abs (m -ℤ l)) count, mod-eq-zero_of_dvd count d))
          ∙ solve (m ∷ l ∷ []) ((var 0 :- var 1) :* con (pos 1)) (var 0 :- var 1) tt

      next_small : nat_abs l ≤ limit → nat_abs m ≤ limit → nat_abs next ≤ limit
      next_small = go count count_above all_the_way
        where
          go : (k : ℕ) → 0 < k → pos k *ℤ (next -ℤ l) ≡ m -ℤ l → nat_abs l ≤ limit → nat_abs m ≤ limit → nat_abs next ≤ limit
          go zero h e = absurd (omega (arith, h))
          go (suc k) h e =
              mean_within limit (pos (suc k)) (pos k) (pos 1) next l m (lit_pos (suc k) h) (lit_nonneg k) (lit_nonneg 1)
              (solve (pos (suc k) ∷ next ∷ l ∷ []) (var 0 :* var 1) (var 0 :* (var 1 :- var 2) :+ var 0 :* var 2) tt
              ∙ ap₂ (λ a b. a +ℤ b *ℤ l) e whole
              ∙ solve (m ∷ l ∷ pos k ∷ []) ((var 0 :- var 1) :+ (var 2 :+ con (pos 1)) :* var 1) (var 2 :* var 1 :+ con (pos 1) :* var 0) tt) whole
            where
              whole : pos (suc k) ≡ pos k +ℤ pos 1
              whole = ap pos (omega arith)

    -- the first grid point after the left end
    pub in_steps : InSteps s (record { x = steps_from s.left.x s.right.x (across / count); y = steps_from s.left.y s.right.y (up / count) }) count
    in_steps =
        record {
          by_x = all_the_way s.left.x s.right.x divides_across;
          by_y = all_the_way s.left.y s.right.y divides_up;
          greatest = λ n d p q. mod-eq-zero_of_dvd d ((g n).2 d (dvd_of_mod-eq-zero d p) (dvd_of_mod-eq-zero d q));
          next_in_range = is_within limit _
              (next_small s.left.x s.right.x divides_across (within_x limit s.left (left_in_range s r)) (within_x limit s.right (right_in_range s r)))
              (next_small s.left.y s.right.y divides_up (within_y limit s.left (left_in_range s r)) (within_y limit s.right (right_in_range s r)));
          few = count_small;
          above_zero = count_above;
        }
