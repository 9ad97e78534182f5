-- What the sweep tests of the neighbours at an event holds of all active strands, where each is the lower of itself and the next at the right, too:
-- they stand in one order at every point between.
use Prim.Native.Nat.{ℕ, suc, ◌+◌, ◌-◌, ◌<◌, ◌≤◌}
use native.Mathlib.Omega.{arith}
use mathlib.Core.Path.{◌≡◌, refl, sym, ap, ◌∙◌, subst}
use mathlib.Core.Logic.{inl, inr, ⊎_elim}
use mathlib.Core.Bool.{Bool, true, false, ◌&&◌, ◌||◌}
use mathlib.Core.List.{List, [], ◌∷◌, map}
use lib.Dec.{T, T_not, ltb}
use borrow.Author.Tests.{ltb-true, ltb-false}
use lib.ListN.{length, get_or, take, drop, length-drop}
use lib.Seq.{take-suc, get_or-drop}
use Rattle.whole.specs.Count.{◌∈◌}
use Rattle.whole.proofs.Sign.{Pos, zero_nonneg, zero_pos, zero_neg, lt_z0_pos, pos_lt_z0, lt_z0_neg}
use Rattle.whole.proofs.Logic.{and_right, or_cases, true_is, refute, decide, in_map, in_left, in_at, in_index}
use Rattle.plane.specs.declared.Point.{Point}
use Rattle.plane.specs.declared.Segment.{Segment}
use Rattle.plane.specs.Plane.{is_same_point, side}
use Rattle.plane.proofs.OnSegment.{Ordered, ordered_read}
use Rattle.plane.proofs.Equal.{same_point_read, same_point_refl}
use Rattle.plane.proofs.Order.{ends_differ, turns_trans}
use Rattle.sweep_laws.specs.Lower.{passes_under, passes_over, lower_at_left, lower_at_right}
use Rattle.sweep_laws.specs.Kept.{Strand, same_object, Lower, Kept}
use Rattle.sweep_laws.proofs.Under.{side_left, side_right}
use Rattle.sweep_laws.proofs.Between.{Spans, strictly_under, under_next, over_next, turns_at}
use Rattle.sweep_laws.proofs.Events.{Reached, UnderBeginning, passing, turning, equal, UnderEnd, passing_end, ending, OverEnd, passing_over, equal_over}
use Rattle.sweep_laws.proofs.Linked.{Linked, linked_sorted, upwards, downwards}

-- ---- from one strand to the next

-- s is the lower of two that begin together
turns_left : (s t : Segment) → s.left ≡ t.left → T (lower_at_left s t) → T (passes_under s t.right)
turns_left s t e l =
    ⊎_elim
    (λ h. ⊎_elim (λ u. zero_pos (ap (side s.left s.right) (sym e) ∙ side_left s) (lt_z0_pos (side s.left s.right t.left) u))
    (λ u. zero_neg (ap (side t.left t.right) e ∙ side_left t) (lt_z0_neg (side t.left t.right s.left) u)) (or_cases (passes_under s t.left) (passes_over t s.left) h))
    (λ h. and_right (is_same_point s.left t.left) (passes_under s t.right) h)
    (or_cases (passes_under s t.left || passes_over t s.left) (is_same_point s.left t.left && passes_under s t.right) l)

-- b stands just below c, and p comes between the ends of both
pub record Below (p : Point) (b c : Strand) : Type 0 where
  pub lower_spans : Spans p b.segment
  pub upper_spans : Spans p c.segment
  pub at_left : Lower b c
  pub at_right : T (lower_at_right b.segment c.segment)

pub over_up : {p : Point} {b c : Strand} → Below p b c → T (passes_over b.segment p) → T (passes_over c.segment p)
over_up {p} {b} {c} n h =
    ⊎_elim (λ e. subst (λ (s : Segment). T (passes_over s p)) e h) (λ l. over_next b.segment c.segment p n.lower_spans n.upper_spans l n.at_right h) n.at_left

-- the next below one that begins where a does: it begins there, too, or passes under
module _ (a : Strand) {b c : Strand} (n : Below a.segment.left b c) (l : T (lower_at_left b.segment c.segment)) where
  below_beginning : c.segment.left ≡ a.segment.left → (b.segment.left ≡ c.segment.left → T (passes_under b.segment c.segment.right) → UnderBeginning a b) → UnderBeginning a b
  below_beginning f g =
      ⊎_elim (λ t. let e = same_point_read b.segment.left c.segment.left t in g e (turns_left b.segment c.segment e l))
      (λ d. passing (strictly_under b.segment c.segment a.segment.left n.lower_spans n.upper_spans l n.at_right (zero_nonneg (ap (side c.segment.left c.segment.right) (sym f) ∙ side_left c.segment)) (λ e h. T_not (is_same_point b.segment.left c.segment.left) d (subst (λ (q : Point). T (is_same_point b.segment.left q)) e (same_point_refl b.segment.left))) (λ e h. ends_differ n.upper_spans.in_order (f ∙ sym h))))
      (decide (is_same_point b.segment.left c.segment.left))

beginning_down : (a : Strand) {b c : Strand} → Ordered a.segment → (same_object a b ≡ true → a.segment ≡ b.segment → ⊥)
    → Below a.segment.left b c → UnderBeginning a c → UnderBeginning a b
beginning_down a {b} {c} o new n u = go n.at_left u
  where
    go : Lower b c → UnderBeginning a c → UnderBeginning a b
    go (inl e) (passing h) = passing (subst (λ (s : Segment). T (passes_under s a.segment.left)) (sym e) h)
    go (inl e) (turning f h) = turning (ap (λ (s : Segment). s.left) e ∙ f) (subst (λ (s : Segment). T (passes_under s a.segment.right)) (sym e) h)
    go (inl e) (equal f g) = equal (e ∙ f) (refute (same_object a b) (λ t. new (true_is (same_object a b) t) (sym (e ∙ f))))
    go (inr l) (passing h) = passing (under_next b.segment c.segment a.segment.left n.lower_spans n.upper_spans l n.at_right h)
    go (inr l) (turning f h) =
        below_beginning a n l f
        (λ e w. turning (e ∙ f) (pos_lt_z0 _ (subst Pos (sym (turns_at b.segment a.segment (e ∙ f))) (turns_trans n.lower_spans.in_order n.upper_spans.in_order o (subst Pos (turns_at b.segment c.segment e) (lt_z0_pos _ w)) (subst Pos (turns_at c.segment a.segment f) (lt_z0_pos _ h))))))
    go (inr l) (equal f g) =
        below_beginning a n l (ap (λ (s : Segment). s.left) f)
        (λ e w. turning (e ∙ ap (λ (s : Segment). s.left) f) (subst (λ (s : Segment). T (passes_under b.segment s.right)) f w))

end_down : (a : Strand) {b c : Strand} → Below a.segment.right b c → UnderEnd a c → UnderEnd a b
end_down a {b} {c} n u = go n.at_left u
  where
    go : Lower b c → UnderEnd a c → UnderEnd a b
    go (inl e) (passing_end h) = passing_end (subst (λ (s : Segment). T (passes_under s a.segment.right)) (sym e) h)
    go (inl e) (ending f) = ending (ap (λ (s : Segment). s.right) e ∙ f)
    go (inr l) (passing_end h) = passing_end (under_next b.segment c.segment a.segment.right n.lower_spans n.upper_spans l n.at_right h)
    go (inr l) (ending f) =
        ⊎_elim (λ t. ending (same_point_read b.segment.right c.segment.right t ∙ f))
        (λ d. passing_end (strictly_under b.segment c.segment a.segment.right n.lower_spans n.upper_spans l n.at_right (zero_nonneg (ap (side c.segment.left c.segment.right) (sym f) ∙ side_right c.segment)) (λ e h. ends_differ n.upper_spans.in_order (sym (f ∙ h))) (λ e h. T_not (is_same_point b.segment.right c.segment.right) d (subst (λ (q : Point). T (is_same_point b.segment.right q)) e (same_point_refl b.segment.right)))))
        (decide (is_same_point b.segment.right c.segment.right))

-- ---- to all active strands

module _ (is_region : Bool → Bool) {begun ended : List Strand} {E : Type 0} (strand : E → Strand) (d : E) (l : List E)
    (kept : Kept is_region begun ended (map strand l)) (n : Linked (λ e f. T (lower_at_right (strand e).segment (strand f).segment)) l) where
  module _ {p : Point} (r : Reached p begun ended (map strand l)) where
    pub spans : (e : E) → e ∈ l → Spans p (strand e).segment
    spans e m =
        record {
          in_order = ordered_read (strand e).segment (kept.sound (strand e) (kept.active_begun (strand e) (in_map strand m)));
          begun = r.begun_before (strand e) (kept.active_begun (strand e) (in_map strand m));
          not_ended = r.active_on (strand e) (in_map strand m);
        }

    pub linked : {S : E → E → Type 0} → ((e f : E) → e ∈ l → f ∈ l → Below p (strand e) (strand f) → S e f) → Linked S l
    linked g = linked_sorted strand l n kept.rising (λ e f m h q o. g e f m h (record { lower_spans = spans e m; upper_spans = spans f h; at_left = o; at_right = q }))

    -- those from a place on pass over p
    pub all_over : (k : ℕ) → (k < length l → T (passes_over (strand (get_or l k d)).segment p)) → (e : E) → e ∈ drop k l → T (passes_over (strand e).segment p)
    all_over = upwards (λ e. T (passes_over (strand e).segment p)) d l (linked (λ e f m h. over_up))

  -- where a begins, those below a place are under it
  pub all_under_beginning : (a : Strand) → Ordered a.segment → ((b : Strand) → b ∈ begun → same_object a b ≡ true → a.segment ≡ b.segment → ⊥)
      → Reached a.segment.left begun ended (map strand l)
      → (k : ℕ) → k ≤ length l → ((i : ℕ) → suc i ≡ k → UnderBeginning a (strand (get_or l i d))) → (e : E) → e ∈ take k l → UnderBeginning a (strand e)
  all_under_beginning a o new r =
      downwards (λ e. UnderBeginning a (strand e)) d l (linked r (λ e f m h. beginning_down a o (new (strand e) (kept.active_begun (strand e) (in_map strand m)))))

  -- where a ends, those below its place are under it
  pub all_under_end : (a : Strand) → Reached a.segment.right begun ended (map strand l)
      → (k : ℕ) → k < length l → strand (get_or l k d) ≡ a → (e : E) → e ∈ take k l → UnderEnd a (strand e)
  all_under_end a r k h own e m =
      downwards (λ e. UnderEnd a (strand e)) d l (linked r (λ e f m h. end_down a)) (suc k) h
      (λ i q. ending (ap (λ (j : ℕ). (strand (get_or l j d)).segment.right) (same q) ∙ ap (λ (b : Strand). b.segment.right) own)) e
      (subst (λ (r : List E). e ∈ r) (sym (take-suc l k d h)) (in_left (get_or l k d ∷ []) m))
    where
      same : {i : ℕ} → suc i ≡ suc k → i ≡ k
      same q = omega arith

  -- and those above it over it, where they are its equals up to a place, and pass over its end from there on
  module _ (a : Strand) (r : Reached a.segment.right begun ended (map strand l)) (k top : ℕ)
      (equals : (i : ℕ) → k < i → i < top → (strand (get_or l i d)).segment ≡ a.segment) (over : top < length l → T (passes_over (strand (get_or l top d)).segment a.segment.right)) where
    over_end_at : (i : ℕ) → k < i → i < length l → OverEnd a (strand (get_or l i d))
    over_end_at i h n = go (ltb i top) refl
      where
        go : (b : Bool) → ltb i top ≡ b → OverEnd a (strand (get_or l i d))
        go true q = equal_over (equals i h (ltb-true i top q))
        go false q =
            passing_over (all_over r top over (get_or l i d) (subst (λ (e : E). e ∈ drop top l) (get_or-drop top l (i - top) d ∙ ap (λ (j : ℕ). get_or l j d) back) (in_at (drop top l) d (i - top) inside)))
          where
            back : top + (i - top) ≡ i
            back = omega (arith, ltb-false i top q)

            inside : i - top < length (drop top l)
            inside = omega (arith, ltb-false i top q, length-drop top l)

    pub all_over_end : (e : E) → e ∈ drop (suc k) l → OverEnd a (strand e)
    all_over_end e m =
        let w = in_index d m in
        subst (λ (e : E). OverEnd a (strand e)) (sym (get_or-drop (suc k) l w.0 d) ∙ w.2) (over_end_at (suc k + w.0) (omega arith) (omega (arith, w.1, length-drop (suc k) l)))
