-- Segments on one line that share only common ends: at the least end of all only one of them ends. So a flat line has a boundary point, and no region is flat.
use Prim.Native.Nat.{ℕ, ◌+◌}
use mathlib.Core.Path.{◌≡◌, refl, sym, ap, ap₂, ◌∙◌, subst}
use mathlib.Core.Logic.{◌⊎◌, inl, inr, ⊎_elim}
use mathlib.Core.Bool.{Bool, true, false, not, ◌&&◌, ◌||◌}
use mathlib.Core.List.{List, [], ◌∷◌}
use lib.Dec.{T, T_not, not_T}
use lib.IntN.{pos}
use Rattle.whole.specs.Count.{◌∈◌, here, there, count, bit, odd}
use Rattle.whole.proofs.Sign.{one_pos}
use Rattle.whole.proofs.Logic.{in_nil, in_cons, and_left, and_right, and_make, decide, true_is, is_true, refute, same_test, some_find, Sorted, sorted_nil, sorted_cons}
use Rattle.whole.proofs.Counted.{count_none, count_same}
use Rattle.plane.specs.declared.Point.{Point}
use Rattle.plane.specs.declared.Segment.{Segment}
use Rattle.plane.specs.Plane.{grid, before, side, turn, turn_of, is_same_point, is_same_segment, ordered, is_end, is_boundary, ends_at}
use Rattle.plane.proofs.OnSegment.{Ordered, Along, on_along}
use Rattle.plane.proofs.Means.{end_make, end_read}
use Rattle.plane.proofs.Equal.{same_point_read, same_point_refl, same_segment_read, same_segment_refl, segment_eq}
use Rattle.plane.proofs.Order.{ordered_make, ends_differ, before_irreflexive, before_trans, comes_irreflexive, half_of, LeftBefore}
use Rattle.plane.proofs.AlongSegment.{Apart}
use Rattle.plane.proofs.Grid.{on_grid, end_grid}
use Rattle.plane.proofs.Machine.{is_straight}
use Rattle.plane.proofs.Accepted.{Split, Regular}
use Rattle.flags.specs.Flags.{is_bound, has_some_end}
use Rattle.cells_matrix.proofs.Common.{end_along, end_give, another_end}
use Rattle.summary.specs.Summary.{ends}
use Rattle.summary.proofs.Clear.{left_in, right_in}

-- ---- the least left end

pub first_left : (s : Segment) (l : List Segment) → (m : Segment) × (m ∈ (s ∷ l)) × ((t : Segment) → t ∈ (s ∷ l) → T (before t.left m.left) → ⊥)
first_left s [] = (s, here, λ t k h. ⊎_elim (λ e. before_irreflexive s.left (subst (λ (r : Segment). T (before r.left s.left)) e h)) in_nil (in_cons k))
first_left s (u ∷ l) = go (first_left u l)
  where
    go : (m : Segment) × (m ∈ (u ∷ l)) × ((t : Segment) → t ∈ (u ∷ l) → T (before t.left m.left) → ⊥)
        → (m : Segment) × (m ∈ (s ∷ u ∷ l)) × ((t : Segment) → t ∈ (s ∷ u ∷ l) → T (before t.left m.left) → ⊥)
    go (m, i, least) =
        ⊎_elim
        (λ b. (s, here, λ t k h. ⊎_elim (λ e. before_irreflexive s.left (subst (λ (r : Segment). T (before r.left s.left)) e h)) (λ k. least t k (before_trans t.left s.left m.left h b)) (in_cons k)))
        (λ n. (m, there i, λ t k h. ⊎_elim (λ e. T_not (before s.left m.left) n (subst (λ (r : Segment). T (before r.left m.left)) e h)) (λ k. least t k h) (in_cons k)))
        (decide (before s.left m.left))

-- ---- two segments of one line with a common left end

in_order : {s : Segment} → Ordered s → T (before s.left s.right)
unfolding ordered
in_order {s} o = ordered_make s o

no_turn : (a b c : Point) → side a b c ≡ pos 0 → T (is_straight (turn a b c))
unfolding turn
no_turn a b c e = subst (λ z. T (is_straight (turn_of z))) (sym e) tt

-- one on which the other's right end lies
meet_flat : (s t : Segment) → Ordered s → Ordered t → s.left ≡ t.left → side s.left s.right t.right ≡ pos 0
    → (T (before s.right t.right) → ⊥) → Apart s t → s.right ≡ t.right
meet_flat s t o u e flat late apart =
    ⊎_elim (λ h. ends_differ u (sym e ∙ same_point_read s.left t.right h)) (λ h. same_point_read s.right t.right h)
    (cases (is_same_point s.left t.right) (is_same_point s.right t.right) (subst T (end_grid s t.right) (end_make s (grid t.right) (apart (grid t.right) (one_pos 0) on_s on_t).0)))
  where
    cases : (a b : Bool) → T (a || b) → T a ⊎ T b
    cases true b h = inl tt
    cases false b h = inr h

    not_early : T (before t.right s.left) → ⊥
    not_early h = before_irreflexive t.right (before_trans t.right t.left t.right (subst (λ v. T (before t.right v)) e h) (in_order u))

    straight : T (is_straight (turn s.left s.right t.right))
    straight = no_turn s.left s.right t.right flat

    on_s : Along s (grid t.right)
    on_s =
        on_along s (grid t.right) o
        (subst T (sym (on_grid s t.right))
        (and_make (is_straight (turn s.left s.right t.right) && not (before t.right s.left)) (not (before s.right t.right))
        (and_make (is_straight (turn s.left s.right t.right)) (not (before t.right s.left)) straight (not_T (before t.right s.left) not_early))
        (not_T (before s.right t.right) late)))

    on_t : Along t (grid t.right)
    on_t = end_along t (grid t.right) (one_pos 0) (end_read t (grid t.right) (subst T (sym (end_grid t t.right)) (last (is_same_point t.left t.right) (is_same_point t.right t.right) (same_point_refl t.right))))
      where
        last : (a b : Bool) → T b → T (a || b)
        last true b h = tt
        last false b h = h

-- ---- only one segment ends at the least end

abbrev pub OnLine : List Segment → Type 0
OnLine l = (a b c : Point) → a ∈ ends l → b ∈ ends l → c ∈ ends l → side a b c ≡ pos 0

module _ (l : List Segment) (split : Split l) (flat : OnLine l) (s : Segment) (m : s ∈ l) (least : (t : Segment) → t ∈ l → T (before t.left s.left) → ⊥) where
  same_left : (t : Segment) → t ∈ l → s.left ≡ t.left → s ≡ t
  same_left t k e = ⊎_elim (λ h. h) (λ a. segment_eq e (go a (decide (before s.right t.right)))) (split.apart s t m k)
    where
      o : Ordered s
      o = split.ordered s m

      u : Ordered t
      u = split.ordered t k

      go : Apart s t → T (before s.right t.right) ⊎ T (not (before s.right t.right)) → s.right ≡ t.right
      go a (inl h) =
          sym (meet_flat t s u o (sym e) (flat t.left t.right s.right (left_in k) (right_in k) (right_in m)) (λ j. before_irreflexive s.right (before_trans s.right t.right s.right h j)) (λ p w x y. let r = a p w y x in (r.1, r.0)))
      go a (inr h) = meet_flat s t o u e (flat s.left s.right t.right (left_in m) (right_in m) (right_in k)) (T_not (before s.right t.right) h) a

  pub single_end : (t : Segment) → t ∈ l → is_end t (grid s.left) ≡ is_same_segment s t
  single_end t k = same_test (is_end t (grid s.left)) (is_same_segment s t) (λ h. to (cases (is_same_point t.left s.left) (is_same_point t.right s.left) (subst T (end_grid t s.left) h))) from
    where
      cases : (a b : Bool) → T (a || b) → T a ⊎ T b
      cases true b h = inl tt
      cases false b h = inr h

      to : T (is_same_point t.left s.left) ⊎ T (is_same_point t.right s.left) → T (is_same_segment s t)
      to (inl h) = subst (λ r. T (is_same_segment s r)) (same_left t k (sym (same_point_read t.left s.left h))) (same_segment_refl s)
      to (inr h) = absurd (least t k (subst (λ v. T (before t.left v)) (same_point_read t.right s.left h) (in_order (split.ordered t k))))

      from : T (is_same_segment s t) → T (is_end t (grid s.left))
      from h = subst (λ r. T (is_end r (grid s.left))) (same_segment_read s t h) (subst T (sym (end_grid s s.left)) (first (is_same_point s.left s.left) (is_same_point s.right s.left) (same_point_refl s.left)))
        where
          first : (a b : Bool) → T a → T (a || b)
          first true b h = tt
          first false b h = absurd h

-- ---- a line, by any rule that takes a point at which one segment ends

rule_one : is_boundary 1 ≡ true
unfolding is_boundary odd
rule_one = refl

-- each segment occurs once, as 10 gives it
abbrev pub Once : List Segment → Type 0
Once l = (s : Segment) → s ∈ l → count (is_same_segment s) l ≡ 1

pub sorted_one : {l : List Segment} → Sorted LeftBefore l → Once l
sorted_one sorted_nil s m = absurd (in_nil m)
sorted_one (sorted_cons {a = b} {l = l} first rest) s m = ⊎_elim same (λ k. later k (sorted_one rest s k)) (in_cons m)
  where
    never : (t : Segment) → t ∈ l → b ≡ t → ⊥
    never t k e = comes_irreflexive (half_of true b) (subst (λ (r : Segment). LeftBefore b r) (sym e) (first t k))

    same : s ≡ b → bit (is_same_segment s b) + count (is_same_segment s) l ≡ 1
    same e =
        ap₂ (λ (x : Bool) (n : ℕ). bit x + n) (true_is (is_same_segment s b) (subst (λ (r : Segment). T (is_same_segment s r)) e (same_segment_refl s)))
        (count_none (is_same_segment s) l (λ t k. refute (is_same_segment s t) (λ h. never t k (sym e ∙ same_segment_read s t h))))

    later : s ∈ l → count (is_same_segment s) l ≡ 1 → bit (is_same_segment s b) + count (is_same_segment s) l ≡ 1
    later k e = ap₂ (λ (x : Bool) (n : ℕ). bit x + n) (refute (is_same_segment s b) (λ h. never s k (sym (same_segment_read s b h)))) e

pub flat_line : (s : Segment) (l : List Segment) → Split (s ∷ l) → Once (s ∷ l) → OnLine (s ∷ l) → has_some_end (λ t v. is_bound (s ∷ l) v) (s ∷ l) ≡ true
unfolding ends_at
flat_line s l split once flat =
    let f = first_left s l in
    true_is (has_some_end (λ t v. is_bound (s ∷ l) v) (s ∷ l))
    (end_give (λ t v. is_bound (s ∷ l) v) (s ∷ l) f.0 f.1 f.0.left (inl refl)
    (is_true (is_bound (s ∷ l) f.0.left)
    (ap is_boundary (count_same (λ t. is_end t (grid f.0.left)) (is_same_segment f.0) (s ∷ l) (single_end (s ∷ l) split flat f.0 f.1 f.2) ∙ once f.0 f.1) ∙ rule_one)))

pub flat_region : (s : Segment) (l : List Segment) → Regular (s ∷ l) → OnLine (s ∷ l) → ⊥
flat_region s l regular flat =
    let f = first_left s l in
    let one = single_end (s ∷ l) regular.split flat f.0 f.1 f.2 in
    let j = another_end (s ∷ l) regular f.0 f.1 f.0.left (is_true (is_end f.0 (grid f.0.left)) (one f.0 f.1 ∙ true_is (is_same_segment f.0 f.0) (same_segment_refl f.0))) in
    let w = some_find (λ t. not (is_same_segment f.0 t) && is_end t (grid f.0.left)) (s ∷ l) j in
    T_not (is_same_segment f.0 w.0) (and_left (not (is_same_segment f.0 w.0)) (is_end w.0 (grid f.0.left)) w.2)
    (subst T (one w.0 w.1) (and_right (not (is_same_segment f.0 w.0)) (is_end w.0 (grid f.0.left)) w.2))
