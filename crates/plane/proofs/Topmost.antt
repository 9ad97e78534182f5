-- What lies under a point: among the segments that count below a point away from all of them, the highest at that x is a segment from whose
-- upper side the point's parities can be read, for every list with even ends.
use Prim.Native.Nat.{ℕ, suc}
use mathlib.Core.Path.{◌≡◌, sym, ap, ap₂, ◌∙◌, subst}
use mathlib.Core.Logic.{◌⊎◌, inl, inr, ⊎_elim}
use mathlib.Core.Bool.{Bool, true, false, not, ◌&&◌}
use mathlib.Core.List.{List, [], ◌∷◌}
use lib.Dec.{T, T_not}
use lib.IntN.{ℤ, pos, ◌-ℤ◌, ◌*ℤ◌}
use Rattle.whole.specs.Count.{◌∈◌, here, there}
use Rattle.whole.proofs.Solver.{Exp, var, con, opp, ◌:+◌, ◌:-◌, ◌:*◌, solve}
use Rattle.whole.proofs.Sign.{zero_nonneg, zero_neg, neg_sub_pos, pos_add_nonneg, lit_nonneg, Pos, NonNeg, Neg, Weak, weak_zero, weak_plus, weak, Half, at_least_lem, under, half, pos_nonneg, neg_nonpos, neg_pos, pos_neg, nonneg_clash, zero_pos, nonneg_add, nonneg_add_pos, pos_mul, nonneg_mul, pos_mul_neg, cancel_pos, cancel_nonneg, one_pos}
use Rattle.whole.proofs.Logic.{in_nil, in_cons, decide, and_left, and_right, and_make, true_is, false_is, is_true, and_never}
use Rattle.whole.proofs.Parity.{◌⊻◌, xor_false, parity, parity_same, parity_xor}
use Rattle.plane.specs.declared.Segment.{Segment}
use Rattle.plane.specs.Plane.{HPoint, grid, midpoint, side_at, is_same_segment, counts_below}
use Rattle.plane.proofs.Homogeneous.{◌⋆◌, ◌⊞◌, one_times, Triple, triple, sideᵉ, side_atᵉ, first}
use Rattle.plane.proofs.OnSegment.{Along, Ordered, Away, over, beneath, leftward, rightward, short, past, on_or_away, on_line}
use Rattle.plane.proofs.Means.{EndOf, left_end, right_end, at_left, at_right}
use Rattle.plane.proofs.Path.{Even}
use Rattle.plane.proofs.Equal.{same_segment_read, same_segment_refl}
use Rattle.plane.proofs.AlongSegment.{Apart, along_segment}
use Rattle.plane.proofs.Steps.{Large, large_all, large_map, large_and, large_each, large_one, step, past_left_moved, away_moved, count_moved, shrinks, positive, at_least, positive_is, positive_yes, positive_no, count_tests, in_count, InRange, count_range}
use Rattle.plane.proofs.Flip.{rightwards, seen_x, seen_back, positive_times, at_least_times}

-- ---- the greatest fraction over a list

module _ {A : Type 0} (f : A → Bool) (num den : A → ℤ) (den_pos : (a : A) → T (f a) → Pos (den a)) where
  -- the fraction of b is at most that of a
  abbrev AtMost : A → A → Type 0
  AtMost b a = NonNeg (den b *ℤ num a -ℤ den a *ℤ num b)

  at_most_trans : (a b c : A) → T (f a) → T (f b) → T (f c) → AtMost a b → AtMost b c → AtMost a c
  at_most_trans a b c ta tb tc h k =
      cancel_nonneg (den_pos b tb)
      (subst NonNeg (solve (den a ∷ num a ∷ den b ∷ num b ∷ den c ∷ num c ∷ []) (var 0 :* (var 2 :* var 5 :- var 4 :* var 3) :+ var 4 :* (var 0 :* var 3 :- var 2 :* var 1)) (var 2 :* (var 0 :* var 5 :- var 4 :* var 1)) tt)
      (nonneg_add (nonneg_mul (pos_nonneg (den_pos a ta)) k) (nonneg_mul (pos_nonneg (den_pos c tc)) h)))

  at_most_self : (a : A) → AtMost a a
  at_most_self a = zero_nonneg (solve (den a ∷ num a ∷ []) (var 0 :* var 1 :- var 0 :* var 1) (con (pos 0)) tt)

  abbrev Greatest : List A → Type 0
  Greatest l = (a : A) × (a ∈ l) × T (f a) × ((b : A) → b ∈ l → T (f b) → AtMost b a)

  abbrev None : List A → Type 0
  None l = (b : A) → b ∈ l → T (f b) → ⊥

  -- one element more
  none_more : (a : A) (l : List A) → None l → T (not (f a)) → None (a ∷ l)
  none_more a l n d b k u = ⊎_elim (λ e. T_not (f a) d (subst (λ c. T (f c)) e u)) (λ k. n b k u) (in_cons k)

  only_one : (a : A) (l : List A) → None l → T (f a) → Greatest (a ∷ l)
  only_one a l n d = (a, here, d, λ b k u. ⊎_elim (λ e. subst (λ c. AtMost c a) (sym e) (at_most_self a)) (λ k. absurd (n b k u)) (in_cons k))

  not_counted : (a : A) (l : List A) → Greatest l → T (not (f a)) → Greatest (a ∷ l)
  not_counted a l g d = (g.0, there g.1, g.2, λ b k u. ⊎_elim (λ e. absurd (T_not (f a) d (subst (λ c. T (f c)) e u))) (λ k. g.3 b k u) (in_cons k))

  compared : (a : A) (l : List A) (g : Greatest l) → T (f a) → Half (den a *ℤ num g.0 -ℤ den g.0 *ℤ num a) → Greatest (a ∷ l)
  compared a l g u (at_least_lem k) =
      (g.0, there g.1, g.2, λ b i w. ⊎_elim (λ e. subst (λ c. AtMost c g.0) (sym e) k) (λ i. g.3 b i w) (in_cons i))
  compared a l g u (under k) =
      (a, here, u, λ b i w. ⊎_elim (λ e. subst (λ c. AtMost c a) (sym e) (at_most_self a)) (λ i. at_most_trans b g.0 a w g.2 u (g.3 b i w) turned) (in_cons i))
    where
      turned : AtMost g.0 a
      turned =
          subst NonNeg (solve (den a ∷ num a ∷ den g.0 ∷ num g.0 ∷ []) (opp (var 0 :* var 3 :- var 2 :* var 1)) (var 2 :* var 1 :- var 0 :* var 3) tt)
          (pos_nonneg (neg_pos k))

  none_or_greatest : (l : List A) → None l ⊎ Greatest l
  none_or_greatest [] = inl (λ b k u. in_nil k)
  none_or_greatest (a ∷ l) = go (none_or_greatest l) (decide (f a))
    where
      go : None l ⊎ Greatest l → T (f a) ⊎ T (not (f a)) → None (a ∷ l) ⊎ Greatest (a ∷ l)
      go (inl n) (inl d) = inr (only_one a l n d)
      go (inl n) (inr d) = inl (none_more a l n d)
      go (inr g) (inl d) = inr (compared a l g d (half (den a *ℤ num g.0 -ℤ den g.0 *ℤ num a)))
      go (inr g) (inr d) = inr (not_counted a l g d)

  greatest : (l : List A) (a : A) → a ∈ l → T (f a) → Greatest l
  greatest l a i t = ⊎_elim (λ n. absurd (n a i t)) (λ g. g) (none_or_greatest l)

-- ---- the foot of a point on a segment: the segment's point at the same x

abbrev foot : HPoint → Segment → HPoint
foot q s = (s.right.x *ℤ q.W -ℤ q.X) ⋆ grid s.left ⊞ (q.X -ℤ s.left.x *ℤ q.W) ⋆ grid s.right

abbrev span : Segment → ℤ
span s = s.right.x -ℤ s.left.x

module _ (q : HPoint) (s t : Segment) where
  all_of : List ℤ
  all_of = s.left.x ∷ s.left.y ∷ s.right.x ∷ s.right.y ∷ q.X ∷ q.Y ∷ q.W ∷ t.left.x ∷ t.left.y ∷ t.right.x ∷ t.right.y ∷ []

  abbrev footᵉ : Exp → Exp → Exp
  footᵉ l r = (var 2 :* var 6 :- var 4) :* l :+ (var 4 :- var 0 :* var 6) :* r

  abbrev heightᵉ : Exp
  heightᵉ = (var 9 :* var 6 :- var 4) :* var 8 :+ (var 4 :- var 7 :* var 6) :* var 10

  abbrev footᵗ : Triple
  footᵗ = triple (footᵉ (var 0) (var 2)) (footᵉ (var 1) (var 3)) (footᵉ (con (pos 1)) (con (pos 1)))

  -- how high the foot on s stands over t: the difference of two fractions
  side_foot : side_at t (foot q s) ≡ span t *ℤ (foot q s).Y -ℤ span s *ℤ (foot q t).Y
  unfolding side_at all_of
  side_foot = solve all_of (sideᵉ (var 7) (var 8) (var 9) (var 10) footᵗ) ((var 9 :- var 7) :* footᵉ (var 1) (var 3) :- (var 2 :- var 0) :* heightᵉ) tt

  -- and by the sides of q
  side_foot_below : side_at t (foot q s) ≡ span s *ℤ side_at t q -ℤ span t *ℤ side_at s q
  unfolding side_at all_of
  side_foot_below =
      solve all_of (sideᵉ (var 7) (var 8) (var 9) (var 10) footᵗ)
      ((var 2 :- var 0) :* sideᵉ (var 7) (var 8) (var 9) (var 10) first :- (var 9 :- var 7) :* side_atᵉ first)
      tt

  -- it has q's x
  foot_left : (foot q s).X -ℤ t.left.x *ℤ (foot q s).W ≡ span s *ℤ (q.X -ℤ t.left.x *ℤ q.W)
  unfolding all_of
  foot_left = solve all_of (footᵉ (var 0) (var 2) :- var 7 :* footᵉ (con (pos 1)) (con (pos 1))) ((var 2 :- var 0) :* (var 4 :- var 7 :* var 6)) tt

  foot_right : t.right.x *ℤ (foot q s).W -ℤ (foot q s).X ≡ span s *ℤ (t.right.x *ℤ q.W -ℤ q.X)
  unfolding all_of
  foot_right = solve all_of (var 9 :* footᵉ (con (pos 1)) (con (pos 1)) :- footᵉ (var 0) (var 2)) ((var 2 :- var 0) :* (var 9 :* var 6 :- var 4)) tt

foot_W : (q : HPoint) (s : Segment) → (foot q s).W ≡ span s *ℤ q.W
foot_W q s = solve (s.left.x ∷ s.right.x ∷ q.X ∷ q.W ∷ []) ((var 1 :* var 3 :- var 2) :* con (pos 1) :+ (var 2 :- var 0 :* var 3) :* con (pos 1)) ((var 1 :- var 0) :* var 3) tt

-- within the range of a count a segment has width
span_pos : (q : HPoint) → Pos q.W → (t : Segment) → InRange t q → Pos (span t)
span_pos q q-pos t r =
    cancel_pos q-pos
    (subst Pos (solve (t.left.x ∷ t.right.x ∷ q.X ∷ q.W ∷ []) (var 2 :- var 0 :* var 3 :+ (var 1 :* var 3 :- var 2)) (var 3 :* (var 1 :- var 0)) tt) r.wide)

-- ---- the highest of the segments that count below q, where q's x is no end's

module _ (H : List Segment) (ord : (t : Segment) → t ∈ H → Ordered t) (pairs : (s t : Segment) → s ∈ H → t ∈ H → (s ≡ t) ⊎ Apart s t)
    (q : HPoint) (q-pos : Pos q.W) (away : (t : Segment) → t ∈ H → Away t q)
    (strict : (t : Segment) → t ∈ H → T (in_count t q) → Pos (q.X -ℤ t.left.x *ℤ q.W)) where
  counted : (t : Segment) → T (counts_below q t) → T (in_count t q && positive (side_at t q))
  counted t u = subst T (count_tests t q) u

  in_range_lem : (t : Segment) → T (counts_below q t) → T (in_count t q)
  in_range_lem t u = and_left (in_count t q) (positive (side_at t q)) (counted t u)

  count_span : (t : Segment) → T (counts_below q t) → Pos (span t)
  count_span t u = span_pos q q-pos t (count_range t q (in_range_lem t u))

  module _ (s : Segment) (i : s ∈ H) (u : T (counts_below q s))
      (top : (t : Segment) → t ∈ H → T (counts_below q t) → NonNeg (span t *ℤ (foot q s).Y -ℤ span s *ℤ (foot q t).Y)) where
    A_pos : Pos (q.X -ℤ s.left.x *ℤ q.W)
    A_pos = strict s i (in_range_lem s u)

    B_pos : Pos (s.right.x *ℤ q.W -ℤ q.X)
    unfolding in_count
    B_pos = positive_is (s.right.x *ℤ q.W -ℤ q.X) (and_right (at_least (q.X -ℤ s.left.x *ℤ q.W)) (positive (s.right.x *ℤ q.W -ℤ q.X)) (in_range_lem s u))

    side_pos : Pos (side_at s q)
    side_pos = positive_is (side_at s q) (and_right (in_count s q) (positive (side_at s q)) (counted s u))

    s_span : Pos (span s)
    s_span = count_span s u

    foot_pos : Pos (foot q s).W
    foot_pos = subst Pos (sym (foot_W q s)) (pos_mul s_span q-pos)

    foot_on : Along s (foot q s)
    foot_on = record { k = pos 1; a = s.right.x *ℤ q.W -ℤ q.X; b = q.X -ℤ s.left.x *ℤ q.W; k_pos = one_pos 0; a_least = pos_nonneg B_pos; b_least = pos_nonneg A_pos; mean = one_times (foot q s) }

    -- the foot is no end of s
    foot_inner : EndOf s (foot q s) → ⊥
    unfolding foot_on
    foot_inner (left_end e) = zero_pos (at_left s (foot q s) (ord s i) foot_on e) A_pos
    foot_inner (right_end e) = zero_pos (at_right s (foot q s) (ord s i) foot_on e) B_pos

    -- so it is on no other segment
    foot_off : (t : Segment) → Apart s t → Along t (foot q s) → ⊥
    foot_off t apart h = foot_inner (apart (foot q s) foot_pos foot_on h).0

    same_range : (t : Segment) → in_count t (foot q s) ≡ in_count t q
    unfolding in_count
    same_range t =
        ap₂ (λ a b. at_least a && positive b) (foot_left q s t) (foot_right q s t)
        ∙ ap₂ (λ a b. a && b) (at_least_times (q.X -ℤ t.left.x *ℤ q.W) s_span) (positive_times (t.right.x *ℤ q.W -ℤ q.X) s_span)

    -- over t, or beneath it, as q is
    same_side_lem : (t : Segment) → t ∈ H → Apart s t → T (in_count t q) → positive (side_at t (foot q s)) ≡ positive (side_at t q)
    same_side_lem t m apart r = go (away t m)
      where
        range : InRange t q
        range = count_range t q r

        t_span : Pos (span t)
        t_span = span_pos q q-pos t range

        on_it : side_at t (foot q s) ≡ pos 0 → ⊥
        on_it e = ⊎_elim (foot_off t apart) no (on_or_away t (ord t m) (foot q s))
          where
            no : Away t (foot q s) → ⊥
            no (over h) = zero_pos e h
            no (beneath h) = zero_neg e h
            no (leftward h) = nonneg_clash (subst NonNeg (sym (foot_left q s t)) (nonneg_mul (pos_nonneg s_span) range.from_left)) h
            no (rightward h) = nonneg_clash (subst NonNeg (sym (foot_right q s t)) (nonneg_mul (pos_nonneg s_span) range.to_right)) h
            no (short f h) = zero_pos f t_span
            no (past f h) = zero_pos f t_span

        lifted : Weak (side_at t (foot q s)) → Pos (side_at t (foot q s))
        lifted (weak_zero e) = absurd (on_it e)
        lifted (weak_plus h) = h

        go : Away t q → positive (side_at t (foot q s)) ≡ positive (side_at t q)
        go (over h) =
            positive_yes (lifted (weak (subst NonNeg (sym (side_foot q s t)) (top t m (subst T (sym (count_tests t q)) (and_make (in_count t q) (positive (side_at t q)) r (is_true (positive (side_at t q)) (positive_yes h))))))))
            ∙ sym (positive_yes h)
        go (beneath h) =
            positive_no (neg_nonpos (subst Neg (sym (side_foot_below q s t)) (neg_sub_pos (pos_mul_neg s_span h) (pos_mul t_span side_pos))))
            ∙ sym (positive_no (neg_nonpos h))
        go (leftward h) = nonneg_clash range.from_left h
        go (rightward h) = nonneg_clash range.to_right h
        go (short f h) = zero_pos f t_span
        go (past f h) = zero_pos f t_span

    other_count : (t : Segment) → t ∈ H → Apart s t → counts_below q t ≡ counts_below (foot q s) t
    other_count t m apart =
        count_tests t q ∙ both (in_count t q) (in_count t (foot q s)) _ _ (sym (same_range t)) (λ r. sym (same_side_lem t m apart r)) ∙ sym (count_tests t (foot q s))
      where
        both : (a b c d : Bool) → a ≡ b → (T a → c ≡ d) → a && c ≡ b && d
        both true b c d e f = f tt ∙ ap (λ x. x && d) e
        both false b c d e f = ap (λ x. x && d) e

    own_foot : counts_below (foot q s) s ≡ false
    own_foot =
        count_tests s (foot q s)
        ∙ and_never (in_count s (foot q s)) (positive (side_at s (foot q s))) (λ r v. zero_pos (on_line s (foot q s) foot_on) (positive_is (side_at s (foot q s)) v))

    -- another segment is apart from s
    split : (t : Segment) → t ∈ H → (s ≡ t) ⊎ (T (not (is_same_segment s t)) × Apart s t)
    split t m = ⊎_elim (λ h. inl (same_segment_read s t h)) (λ h. ⊎_elim (λ e. inl e) (λ a. inr (h, a)) (pairs s t i m)) (decide (is_same_segment s t))

    from_foot : (t : Segment) → t ∈ H → counts_below q t ≡ counts_below (foot q s) t ⊻ is_same_segment s t
    from_foot t m = go (split t m)
      where
        go : (s ≡ t) ⊎ (T (not (is_same_segment s t)) × Apart s t) → counts_below q t ≡ counts_below (foot q s) t ⊻ is_same_segment s t
        go (inl e) =
            subst (λ r. counts_below q r ≡ counts_below (foot q s) r ⊻ is_same_segment s r) e
            (true_is (counts_below q s) u ∙ sym (ap₂ (λ a b. a ⊻ b) own_foot (true_is (is_same_segment s s) (same_segment_refl s))))
        go (inr h) = other_count t m h.1 ∙ sym (ap (λ b. counts_below (foot q s) t ⊻ b) (false_is (is_same_segment s t) h.0) ∙ xor_false (counts_below (foot q s) t))

    under_q : (l : List Segment) → ((t : Segment) → t ∈ l → t ∈ H) → Even l → parity (counts_below q) l ≡ parity (counts_below (midpoint s)) l ⊻ parity (is_same_segment s) l
    under_q l within even =
        parity_same (counts_below q) (λ t. counts_below (foot q s) t ⊻ is_same_segment s t) l (λ t m. from_foot t (within t m))
        ∙ parity_xor (counts_below (foot q s)) (is_same_segment s) l
        ∙ ap (λ b. b ⊻ parity (is_same_segment s) l)
        (along_segment s (ord s i) (foot q s) foot_pos foot_on l even (λ t m. ord t (within t m)) (λ t m. ⊎_elim inl (λ h. inr (foot_off t h.1, h.1)) (split t (within t m))))

  highest : (t : Segment) → t ∈ H → T (counts_below q t)
      → (s : Segment) × (s ∈ H) × ((l : List Segment) → ((t : Segment) → t ∈ l → t ∈ H) → Even l → parity (counts_below q) l ≡ parity (counts_below (midpoint s)) l ⊻ parity (is_same_segment s) l)
  highest t m u = let g = greatest (counts_below q) (λ s. (foot q s).Y) span count_span H t m u in (g.0, g.1, under_q g.0 g.1 g.2 g.3)

-- ---- the topmost lemma: a small step to the right first, so that no end has the point's x

pub topmost : (H : List Segment) → ((t : Segment) → t ∈ H → Ordered t) → ((s t : Segment) → s ∈ H → t ∈ H → (s ≡ t) ⊎ Apart s t)
    → (p : HPoint) → Pos p.W → ((t : Segment) → t ∈ H → Away t p) → (t : Segment) → t ∈ H → T (counts_below p t)
    → (s : Segment) × (s ∈ H) × ((l : List Segment) → ((t : Segment) → t ∈ l → t ∈ H) → Even l → parity (counts_below p) l ≡ parity (counts_below (midpoint s)) l ⊻ parity (is_same_segment s) l)
topmost H ord pairs p p_pos away t m u =
    let far = large_one (large_and (large_each H away_there) (large_and (large_each H count_there) (large_each H strict_there))) in
    let q = step rightwards p (suc far.0) in
    let found = highest H ord pairs q (there_pos far.0) far.1.0 far.1.1.1 t m (subst T (sym (far.1.1.0 t m)) u) in
    (found.0, found.1, λ l within even. sym (parity_same (counts_below q) (counts_below p) l (λ t m. far.1.1.0 t (within t m))) ∙ found.2 l within even)
  where
    away_there : (t : Segment) → t ∈ H → Large (λ n. Away t (step rightwards p n))
    away_there t m = away_moved t rightwards p (away t m)

    count_there : (t : Segment) → t ∈ H → Large (λ n. counts_below (step rightwards p n) t ≡ counts_below p t)
    count_there t m =
        count_moved t rightwards p (away t m) (pos_nonneg (subst Pos (sym (seen_x (pos 1) t.left.x)) (one_pos 0))) (neg_nonpos (subst Neg (sym (seen_back (pos 1) t.right.x)) (pos_neg (one_pos 0))))

    strict_there : (t : Segment) → t ∈ H → Large (λ n. T (in_count t (step rightwards p n)) → Pos ((step rightwards p n).X -ℤ t.left.x *ℤ (step rightwards p n).W))
    strict_there t m = past_end t (half (p.X -ℤ t.left.x *ℤ p.W))
      where
        past_end : (t : Segment) → Half (p.X -ℤ t.left.x *ℤ p.W) → Large (λ n. T (in_count t (step rightwards p n)) → Pos ((step rightwards p n).X -ℤ t.left.x *ℤ (step rightwards p n).W))
        past_end t (at_least_lem h) =
            large_all (λ n r. subst Pos (sym (past_left_moved t rightwards p n)) (nonneg_add_pos (nonneg_mul (lit_nonneg n) h) (subst Pos (sym (seen_x (pos 1) t.left.x)) (one_pos 0))))
        past_end t (under h) =
            large_map (λ n k r. nonneg_clash (count_range t (step rightwards p n) r).from_left (subst Neg (sym (past_left_moved t rightwards p n)) k)) (shrinks (rightwards.X -ℤ t.left.x *ℤ rightwards.W) h)

    there_pos : (n : ℕ) → Pos (step rightwards p (suc n)).W
    there_pos n = pos_add_nonneg (pos_mul (one_pos n) p_pos) (lit_nonneg 0)
