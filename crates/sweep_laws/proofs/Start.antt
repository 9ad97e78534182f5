-- The count below a segment from where it begins: a small step along s from its left end, the segments that count below are those that pass
-- under the left end or begin there and turn left into s; and from there to the midpoint the parity does not change.
use Prim.Native.Nat.{ℕ, zero, suc, ◌≤◌}
use native.Mathlib.Omega.{arith}
use mathlib.Core.Path.{◌≡◌, refl, sym, ap, ap₂, ◌∙◌, subst}
use mathlib.Core.Logic.{◌⊎◌, inl, inr, ⊎_elim}
use mathlib.Core.Bool.{Bool, true, false, not, ◌&&◌, ◌||◌, or-false}
use mathlib.Core.List.{List, [], ◌∷◌}
use lib.Dec.{T}
use lib.IntN.{ℤ, pos, neg_ℤ, ◌+ℤ◌, ◌-ℤ◌, ◌*ℤ◌}
use lib.Signed.{lt_z}
use Rattle.whole.specs.Count.{◌∈◌, some}
use Rattle.whole.proofs.Balance.{neg_P, neg_N}
use Rattle.whole.proofs.Solver.{var, con, opp, ◌:+◌, ◌:-◌, ◌:*◌, solve}
use Rattle.whole.proofs.Sign.{Pos, NonNeg, NonPos, nonpos_clash, pos_nonneg, zero_pos, one_pos, lit_nonneg, pos_add_nonneg, pos_mul, nonneg_mul}
use Rattle.whole.proofs.Logic.{and_right, and_never, true_is, refute, some_find}
use Rattle.whole.proofs.Parity.{parity, parity_same, odd_count}
use Rattle.plane.specs.declared.Point.{Point}
use Rattle.plane.specs.declared.Segment.{Segment}
use Rattle.plane.specs.Plane.{HPoint, grid, midpoint, is_same_point, is_same_segment, side_at, on, is_on_some, inside, counts_below, interior_above, touch}
use Rattle.plane.proofs.Homogeneous.{triple_eq, side_grid, side_atᵉ, triple, gridᵉ}
use Rattle.plane.proofs.OnSegment.{Ordered, slanting, upright, width, Along, on_line, on_along, Away, on_or_away, on_away}
use Rattle.plane.proofs.Equal.{same_point_read, same_point_refl}
use Rattle.plane.proofs.Means.{At, EndOf, left_end, right_end, at_left, at_right, at_read, at_make}
use Rattle.plane.proofs.Touch.{first_between}
use Rattle.plane.proofs.Path.{Even}
use Rattle.plane.proofs.AlongSegment.{Apart, along_segment}
use Rattle.plane.proofs.Steps.{Large, large_all, large_map, large_and, large_each, large_one, grows, stays, step, side_moved, past_left_moved, to_right_moved, positive, at_least, positive_is, positive_yes, positive_no, at_least_yes, in_count, count_tests, count_moved, upright_never}
use Rattle.plane.proofs.Flip.{seen_x, seen_back}
use Rattle.plane.proofs.Order.{run, rise, ordered_make, ends_differ}
use Rattle.plane.proofs.Accepted.{apart_from_touch, is_at_grid, middle_away, interior_rule}
use Rattle.sweep_laws.specs.Lower.{passes_under, under}

-- ---- a small step along s

abbrev heading : Segment → HPoint
heading s = record { X = run s; Y = rise s; W = pos 0 }

abbrev ahead : Segment → ℕ → HPoint
ahead s n = step (heading s) (grid s.left) n

-- p lies on s between its ends
record Inner (s : Segment) (p : HPoint) : Type 0 where
  p_pos : Pos p.W
  on_it : Along s p
  no_end : EndOf s p → ⊥

ahead_along : (s : Segment) (n : ℕ) → Along s (ahead s (suc n))
ahead_along s n =
    record {
      k = pos 1;
      a = pos n;
      b = pos 1;
      k_pos = one_pos 0;
      a_least = lit_nonneg n;
      b_least = lit_nonneg 1;
      mean = triple_eq (at s.left.x s.right.x) (at s.left.y s.right.y) (at (pos 1) (pos 1));
    }
  where
    next : pos (suc n) ≡ pos n +ℤ pos 1
    next = ap pos (omega arith)

    at : (l r : ℤ) → pos 1 *ℤ (pos (suc n) *ℤ l +ℤ (r -ℤ l)) ≡ pos n *ℤ l +ℤ pos 1 *ℤ r
    at l r =
        ap (λ m. pos 1 *ℤ (m *ℤ l +ℤ (r -ℤ l))) next
        ∙ solve (pos n ∷ l ∷ r ∷ []) (con (pos 1) :* ((var 0 :+ con (pos 1)) :* var 1 :+ (var 2 :- var 1))) (var 0 :* var 1 :+ con (pos 1) :* var 2) tt

ahead_inner : (s : Segment) → Ordered s → Large (λ n. Inner s (ahead s n))
unfolding ahead_along
ahead_inner s o = record { from = 2; holds = go }
  where
    go : (n : ℕ) → 2 ≤ n → Inner s (ahead s n)
    go zero h = absurd (omega arith)
    go (suc zero) h = absurd (omega arith)
    go (suc (suc n)) h = record { p_pos = pos_add_nonneg (pos_mul (one_pos (suc n)) (one_pos 0)) (lit_nonneg 0); on_it = ahead_along s (suc n); no_end = ends }
      where
        ends : EndOf s (ahead s (suc (suc n))) → ⊥
        ends (left_end e) = zero_pos (at_left s (ahead s (suc (suc n))) o (ahead_along s (suc n)) e) (one_pos 0)
        ends (right_end e) = zero_pos (at_right s (ahead s (suc (suc n))) o (ahead_along s (suc n)) e) (one_pos n)

-- ---- what counts below a point

nonpos_neg : {z : ℤ} → NonNeg z → NonPos (neg_ℤ z)
nonpos_neg {z} h = record { most = omega (arith, neg_P z, neg_N z) }

module _ (t : Segment) (p : HPoint) where
  -- a segment on whose line it lies does not, nor one that ends no further right
  line_never : side_at t p ≡ pos 0 → counts_below p t ≡ false
  line_never e = count_tests t p ∙ and_never (in_count t p) (positive (side_at t p)) (λ r v. zero_pos e (positive_is (side_at t p) v))

  ended_never : NonPos (t.right.x *ℤ p.W -ℤ p.X) → counts_below p t ≡ false
  unfolding in_count
  ended_never h =
      count_tests t p
      ∙ and_never (in_count t p) (positive (side_at t p)) (λ r v. nonpos_clash h (positive_is (t.right.x *ℤ p.W -ℤ p.X) (and_right (at_least (p.X -ℤ t.left.x *ℤ p.W)) (positive (t.right.x *ℤ p.W -ℤ p.X)) r)))

  over_range : NonNeg (p.X -ℤ t.left.x *ℤ p.W) → Pos (t.right.x *ℤ p.W -ℤ p.X) → counts_below p t ≡ positive (side_at t p)
  unfolding in_count
  over_range l r = count_tests t p ∙ ap₂ (λ a b. a && b && positive (side_at t p)) (at_least_yes l) (positive_yes r)

at_eq : (e v : Point) → At e (grid v) → e ≡ v
at_eq e v h = same_point_read e v (subst T (is_at_grid e v) (at_make e (grid v) h))

left_along : (s : Segment) → Along s (grid s.left)
left_along s = first_between (grid s.left) (grid s.right)

-- ---- the count ahead, of one segment

module _ (s t : Segment) (o : Ordered s) (u : Ordered t) where
  under_by : {a b c : Bool} → counts_below (grid s.left) t ≡ a → is_same_point t.left s.left ≡ b → passes_under t s.right ≡ c → under s t ≡ a || (b && c)
  under_by {c = c} e f g = ap₂ ◌||◌ e (ap₂ ◌&&◌ f g)

  -- they do not begin together
  apart_left : (t.left ≡ s.left → ⊥) → under s t ≡ counts_below (grid s.left) t
  apart_left n =
      under_by {c = passes_under t s.right} refl (refute (is_same_point t.left s.left) (λ h. n (same_point_read t.left s.left h))) refl
      ∙ or-false (counts_below (grid s.left) t)

  -- s begins away from t
  begins_away : Away t (grid s.left) → Large (λ n. counts_below (ahead s n) t ≡ under s t)
  begins_away away =
      large_map (λ n h. h ∙ sym (apart_left (λ e. on_away t (grid s.left) u (subst (λ c. Along t (grid c)) e (left_along t)) away)))
      (count_moved t (heading s) (grid s.left) away (subst NonNeg (sym (seen_x (run s) t.left.x)) (width o)) (subst NonPos (sym (seen_back (run s) t.right.x)) (nonpos_neg (width o))))

  module _ (h : Along t (grid s.left)) where
    -- s begins where t ends
    begins_after : At t.right (grid s.left) → Large (λ n. counts_below (ahead s n) t ≡ under s t)
    begins_after e =
        large_all (λ n. ended_never t (ahead s n) (subst NonPos (sym (to_right_moved t (heading s) (grid s.left) n ∙ stays n _ none ∙ seen_back (run s) t.right.x)) (nonpos_neg (width o))) ∙ sym not_under)
      where
        none : t.right.x *ℤ pos 1 -ℤ s.left.x ≡ pos 0
        none = solve (s.left.x ∷ t.right.x ∷ []) (var 1 :* con (pos 1) :- var 0) (opp (var 0 :- var 1 :* con (pos 1))) tt ∙ ap neg_ℤ e.at_x

        not_under : under s t ≡ false
        not_under = apart_left (λ f. ends_differ u (f ∙ sym (at_eq t.right s.left e))) ∙ line_never t (grid s.left) (on_line t (grid s.left) h)

    -- they begin together
    side_ahead : (n : ℕ) → side_at t (ahead s n) ≡ side_at t (heading s)
    side_ahead n = side_moved t (heading s) (grid s.left) n ∙ stays n (side_at t (heading s)) (on_line t (grid s.left) h)

    side_right : side_at t (grid s.right) ≡ side_at t (heading s)
    unfolding side_at
    side_right =
        solve (t.left.x ∷ t.left.y ∷ t.right.x ∷ t.right.y ∷ s.left.x ∷ s.left.y ∷ s.right.x ∷ s.right.y ∷ [])
        (side_atᵉ (gridᵉ (var 6) (var 7)))
        (con (pos 1) :* side_atᵉ (gridᵉ (var 4) (var 5)) :+ side_atᵉ (triple (var 6 :- var 4) (var 7 :- var 5) (con (pos 0))))
        tt
        ∙ stays 1 (side_at t (heading s)) (on_line t (grid s.left) h)

    begins_together : At t.left (grid s.left) → Large (λ n. counts_below (ahead s n) t ≡ under s t)
    unfolding positive side_at
    begins_together e = large_map (λ n c. c ∙ sym by_turn) (counts u)
      where
        by_turn : under s t ≡ positive (side_at t (heading s))
        by_turn =
            under_by (line_never t (grid s.left) (on_line t (grid s.left) h))
            (true_is (is_same_point t.left s.left) (subst (λ c. T (is_same_point t.left c)) (at_eq t.left s.left e) (same_point_refl t.left)))
            (ap (lt_z (pos 0)) (sym (side_grid t s.right) ∙ side_right))

        reach : t.right.x *ℤ pos 1 -ℤ s.left.x ≡ run t
        reach =
            solve (t.left.x ∷ t.right.x ∷ s.left.x ∷ []) (var 1 :* con (pos 1) :- var 2) (var 1 :- var 0 :- (var 2 :- var 0 :* con (pos 1))) tt
            ∙ ap (λ z. run t -ℤ z) e.at_x
            ∙ solve (run t ∷ []) (var 0 :- con (pos 0)) (var 0) tt

        falls : run t ≡ pos 0 → side_at t (heading s) ≡ neg_ℤ (rise t *ℤ run s)
        falls f =
            ap (λ z. z *ℤ (rise s -ℤ t.left.y *ℤ pos 0) -ℤ rise t *ℤ (run s -ℤ t.left.x *ℤ pos 0)) f
            ∙ solve (run s ∷ rise s ∷ rise t ∷ t.left.x ∷ t.left.y ∷ [])
            (con (pos 0) :* (var 1 :- var 4 :* con (pos 0)) :- var 2 :* (var 0 :- var 3 :* con (pos 0)))
            (opp (var 2 :* var 0))
            tt

        counts : Ordered t → Large (λ n. counts_below (ahead s n) t ≡ positive (side_at t (heading s)))
        counts (slanting v) =
            large_map (λ n r. over_range t (ahead s n) (subst NonNeg (sym (past_left_moved t (heading s) (grid s.left) n ∙ stays n _ e.at_x ∙ seen_x (run s) t.left.x)) (width o)) (subst Pos (sym (to_right_moved t (heading s) (grid s.left) n)) r) ∙ ap positive (side_ahead n))
            (grows (t.right.x *ℤ pos 0 -ℤ run s) (subst Pos (sym reach) v))
        counts (upright f v) =
            large_all (λ n. upright_never t (ahead s n) f ∙ sym (positive_no (subst NonPos (sym (falls f)) (nonpos_neg (nonneg_mul (pos_nonneg v) (width o))))))

  other_count : Apart s t → Large (λ n. counts_below (ahead s n) t ≡ under s t)
  other_count apart = ⊎_elim (λ h. at_end_lem h (apart (grid s.left) (one_pos 0) (left_along s) h).1) begins_away (on_or_away t u (grid s.left))
    where
      at_end_lem : Along t (grid s.left) → EndOf t (grid s.left) → Large (λ n. counts_below (ahead s n) t ≡ under s t)
      at_end_lem h (left_end e) = begins_together h e
      at_end_lem h (right_end e) = begins_after h e

-- s itself begins together with s
each_count : (s t : Segment) → Ordered s → Ordered t → touch s t ≡ false → Large (λ n. counts_below (ahead s n) t ≡ under s t)
each_count s t o u f =
    ⊎_elim (λ e. subst (λ r. Large (λ n. counts_below (ahead s n) r ≡ under s r)) e itself) (other_count s t o u) (apart_from_touch s t (ordered_make s o) (ordered_make t u) f)
  where
    itself : Large (λ n. counts_below (ahead s n) s ≡ under s s)
    itself = begins_together s s o o (left_along s) (at_read s.left (grid s.left) (subst T (sym (is_at_grid s.left s.left)) (same_point_refl s.left)))

-- ---- the sum over a list

module _ (s : Segment) (o : Ordered s) (l : List Segment) (even : Even l) (ord : (t : Segment) → t ∈ l → Ordered t) (clear : (t : Segment) → t ∈ l → touch s t ≡ false) where
  equal_or_apart : (t : Segment) → t ∈ l → (s ≡ t) ⊎ Apart s t
  equal_or_apart t m = apart_from_touch s t (ordered_make s o) (ordered_make t (ord t m)) (clear t m)

  along : (p : HPoint) → Inner s p → parity (counts_below p) l ≡ parity (counts_below (midpoint s)) l
  along p i =
      along_segment s o p i.p_pos i.on_it l even ord
      (λ t m. ⊎_elim inl (λ a. inr (λ k. i.no_end (a p i.p_pos i.on_it k).0, a)) (equal_or_apart t m))

  pub start_parity : parity (under s) l ≡ parity (counts_below (midpoint s)) l
  start_parity =
      let far = large_one (large_and (ahead_inner s o) (large_each l (λ t m. each_count s t o (ord t m) (clear t m)))) in
      sym (parity_same (counts_below (ahead s (suc far.0))) (under s) l far.1.1) ∙ along (ahead s (suc far.0)) far.1.0

  -- the interior is above s where an even number pass under it
  pub start_interior : parity (is_same_segment s) l ≡ true → interior_above l s ≡ not (parity (under s) l)
  start_interior once =
      interior_rule l s o even ord (λ t m. middle_away s t o (ord t m) (equal_or_apart t m)) once ∙ ap not (sym start_parity)

  -- and where s is not of the list, its midpoint is inside where an odd number do
  pub start_inside : ((t : Segment) → t ∈ l → s ≡ t → ⊥) → inside l (midpoint s) ≡ parity (under s) l
  unfolding inside is_on_some
  start_inside other = ap₂ (λ a b. not a && b) (refute (some (λ t. on t (midpoint s)) l) off) (odd_count (counts_below (midpoint s)) l ∙ sym start_parity)
    where
      off : T (some (λ t. on t (midpoint s)) l) → ⊥
      off h =
          let w = some_find (λ t. on t (midpoint s)) l h in
          ⊎_elim (other w.0 w.1) (on_away w.0 (midpoint s) (ord w.0 w.1) (on_along w.0 (midpoint s) (ord w.0 w.1) w.2))
          (middle_away s w.0 o (ord w.0 w.1) (equal_or_apart w.0 w.1))
