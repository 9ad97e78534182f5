-- Elements that stand together at one dominating point: where 10 finds no fault, from the first of them on they are all that have it.
use Rattle.std.specs.Prelude.{None}
use Prim.Native.Nat.{ℕ, zero, suc, ◌+◌, ◌-◌, ◌<◌, ◌≤◌}
use native.Mathlib.Nat.{eq-or-lt_of_le}
use native.Mathlib.Numerals.{add-one}
use native.Mathlib.Omega.{arith}
use mathlib.Core.Path.{◌≡◌, refl, sym, ap, subst, ◌∙◌}
use mathlib.Core.Logic.{◌⊎◌, inl, inr, ⊎_elim}
use mathlib.Core.Bool.{Bool, true, false, not, ◌&&◌}
use mathlib.Core.List.{List}
use lib.Dec.{T, T_not}
use borrow.Author.Tests.{lt-ltb}
use Rattle.whole.specs.Count.{bit, count}
use Rattle.whole.proofs.Logic.{and_left, refute, or_cases}
use Rattle.plane.specs.declared.Point.{Point}
use Rattle.plane.specs.Plane.{before, is_same_point, dominating, comes_before, grid, ends_at}
use Rattle.plane.proofs.Equal.{same_point_read, same_point_refl}
use Rattle.plane.proofs.Order.{before_irreflexive, before_trans}
use Rattle.scene.specs.declared.Layout.{Layout}
use Rattle.scene.specs.Read.{IsObject}
use Rattle.scene.specs.Conditions.{has_segments, half, segments, out_of_order, unpaired}
use Rattle.scene_segments.proofs.Indices.{halves_rise}
use Rattle.scene_segments.proofs.Until.{all_counted}
use Rattle.scene_segments.proofs.Walk.{between, all_between, count_next}
use Rattle.check_conditions.specs.Odd.{is_first_at, stands_at, together}
use Rattle.check_conditions.proofs.Halves.{halves_end}

-- elements that do not pass are left out at the start of a count
count_from : (f : ℕ → Bool) (n i : ℕ) → i ≤ n → ((j : ℕ) → j < i → f j ≡ false) → count f (between 0 n) ≡ count f (between i n)
count_from f n zero h none = refl
count_from f n (suc i) h none =
    count_from f n i (omega arith) (λ j k. none j (omega arith))
    ∙ omega (arith, count_next f i n (omega arith), ap bit (none i (omega arith)), ap (λ k. count f (between k n)) (add-one i))

module _ (s : List ℕ) (l : Layout) (is : IsObject s l) (order : out_of_order s l ≡ None) (has : has_segments l.shape ≡ true) where
  abbrev at : ℕ → Point
  at i = dominating (half s l i)

  rises : (i j : ℕ) → i < j → j < l.count → T (before (at i) (at j)) ⊎ (at i ≡ at j)
  unfolding comes_before
  rises i j h k = ⊎_elim (λ t. inl t) (λ t. inr (same_point_read (at i) (at j) (and_left (is_same_point (at i) (at j)) _ t))) (or_cases (before (at i) (at j)) _ (halves_rise s l is order has i j h k))

  -- one that stands right of an element is before what comes later
  onward : (i j k : ℕ) → j ≤ k → k < l.count → T (before (at i) (at j)) → T (before (at i) (at k))
  onward i j k h m t = ⊎_elim (λ e. subst (λ x. T (before (at i) (at x))) e t) (λ g. ⊎_elim (λ u. before_trans (at i) (at j) (at k) t u) (λ e. subst (λ p. T (before (at i) p)) e t) (rises j k g m)) (eq-or-lt_of_le h)

  back : (i j k : ℕ) → i ≤ j → j < l.count → T (before (at j) (at k)) → T (before (at i) (at k))
  back i j k h m t = ⊎_elim (λ e. subst (λ x. T (before (at x) (at k))) (sym e) t) (λ g. ⊎_elim (λ u. before_trans (at i) (at j) (at k) u t) (λ e. subst (λ p. T (before p (at k))) (sym e) t) (rises i j g m)) (eq-or-lt_of_le h)

  elsewhere : (p q : Point) → T (before p q) ⊎ T (before q p) → is_same_point p q ≡ false
  elsewhere p q c =
      refute (is_same_point p q)
      (λ t. ⊎_elim (λ b. before_irreflexive q (subst (λ r. T (before r q)) (same_point_read p q t) b)) (λ b. before_irreflexive q (subst (λ r. T (before q r)) (same_point_read p q t) b)) c)

  module _ (i : ℕ) (h : i < l.count) where
    -- past the first that stands elsewhere none stands there
    final : (j k : ℕ) → i ≤ j → j ≤ k → k < i + (l.count - i) → T (not (stands_at s l (at i) j)) → stands_at s l (at i) k ≡ false
    final j k a b c t = ⊎_elim same later (eq-or-lt_of_le a)
      where
        same : i ≡ j → stands_at s l (at i) k ≡ false
        same e = absurd (T_not (stands_at s l (at i) j) t (subst (λ x. T (is_same_point (at x) (at i))) e (same_point_refl (at i))))

        later : i < j → stands_at s l (at i) k ≡ false
        later g = ⊎_elim (λ u. elsewhere (at k) (at i) (inr (onward i j k b (omega arith) u))) (λ e. absurd (T_not (stands_at s l (at i) j) t (subst (λ p. T (is_same_point p (at i))) e (same_point_refl (at i))))) (rises i j g (omega arith))

    -- and before the first of them none does
    earlier : T (is_first_at s l i) → (j : ℕ) → j < i → stands_at s l (at i) j ≡ false
    earlier f j g = elsewhere (at j) (at i) (inl (back j (i - 1) i (omega arith) (omega arith) before_it))
      where
        apart : T (not (is_same_point (at (i - 1)) (at i)))
        apart = subst (λ b. T (not (b && is_same_point (at (i - 1)) (at i)))) (lt-ltb 0 i (omega arith)) f

        before_it : T (before (at (i - 1)) (at i))
        before_it = ⊎_elim (λ u. u) (λ e. absurd (T_not (is_same_point (at (i - 1)) (at i)) apart (subst (λ p. T (is_same_point (at (i - 1)) p)) e (same_point_refl (at (i - 1)))))) (rises (i - 1) i (omega arith) h)

    pub together_all : unpaired s l ≡ None → T (is_first_at s l i) → together s l i ≡ ends_at (segments s l) (grid (at i))
    unfolding together
    together_all paired f =
        all_counted (λ j. not (stands_at s l (at i) j)) (stands_at s l (at i)) (l.count - i) i final
        ∙ sym (count_from (stands_at s l (at i)) l.count i (omega arith) (earlier f))
        ∙ ap (count (stands_at s l (at i))) (sym (all_between l.count))
        ∙ halves_end s l is order paired has (at i)
