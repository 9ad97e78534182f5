-- The orders of points and of segments are strict, and of any two one is first or they are equal.
use mathlib.Core.Path.{◌≡◌, sym, ◌∙◌, subst}
use mathlib.Core.Logic.{◌⊎◌, inl, inr, ⊎_elim}
use mathlib.Core.Bool.{Bool, ◌&&◌}
use lib.Dec.{T}
use Rattle.whole.proofs.Logic.{and_left, and_right, and_make, or_cases, or_left, or_right}
use Rattle.plane.specs.declared.Segment.{Segment}
use Rattle.plane.specs.declared.Point.{Point}
use Rattle.plane.specs.Plane.{before, is_same_point}
use Rattle.plane.proofs.Equal.{segment_eq, same_point_read, same_point_refl}
use Rattle.plane.proofs.Order.{before_irreflexive, before_trans}
use Rattle.scene_written.proofs.Compared.{Compared, first, second, equal, Places, places, earlier, later, same}
use Rattle.wkb_rows.specs.Rows.{segment_before}

pub record Order {A : Type 0} (less : A → A → Bool) : Type 0 where
  pub irreflexive : (a : A) → T (less a a) → ⊥
  pub trans : (a b c : A) → T (less a b) → T (less b c) → T (less a c)
  pub compare : (a b : A) → Compared less a b

pub points : Order before
points = record { irreflexive = before_irreflexive; trans = before_trans; compare = λ p q. go (places p q) }
  where
    go : {p q : Point} → Places p q → Compared before p q
    go (earlier h) = first h
    go (later h) = second h
    go (same e) = equal e

-- ---- by left end, then by right end

abbrev Split : Segment → Segment → Type 0
Split s t = T (before s.left t.left) ⊎ ((s.left ≡ t.left) × T (before s.right t.right))

split : (s t : Segment) → T (segment_before s t) → Split s t
unfolding segment_before
split s t h =
    ⊎_elim inl (λ k. inr (same_point_read s.left t.left (and_left (is_same_point s.left t.left) (before s.right t.right) k), and_right (is_same_point s.left t.left) (before s.right t.right) k))
    (or_cases (before s.left t.left) (is_same_point s.left t.left && before s.right t.right) h)

joined : (s t : Segment) → Split s t → T (segment_before s t)
unfolding segment_before
joined s t (inl h) = or_left (before s.left t.left) (is_same_point s.left t.left && before s.right t.right) h
joined s t (inr h) =
    or_right (before s.left t.left) (is_same_point s.left t.left && before s.right t.right)
    (and_make (is_same_point s.left t.left) (before s.right t.right) (subst (λ (p : Point). T (is_same_point s.left p)) h.0 (same_point_refl s.left)) h.1)

pub segments : Order segment_before
segments =
    record {
      irreflexive = λ s h. ⊎_elim (before_irreflexive s.left) (λ k. before_irreflexive s.right k.1) (split s s h);
      trans = λ s t u h k. joined s u (onward s t u (split s t h) (split t u k));
      compare = λ s t. at_left s t (points.compare s.left t.left);
    }
  where
    onward : (s t u : Segment) → Split s t → Split t u → Split s u
    onward s t u (inl h) (inl k) = inl (before_trans s.left t.left u.left h k)
    onward s t u (inl h) (inr k) = inl (subst (λ (p : Point). T (before s.left p)) k.0 h)
    onward s t u (inr h) (inl k) = inl (subst (λ (p : Point). T (before p u.left)) (sym h.0) k)
    onward s t u (inr h) (inr k) = inr (h.0 ∙ k.0, before_trans s.right t.right u.right h.1 k.1)

    at_right : (s t : Segment) → s.left ≡ t.left → Compared before s.right t.right → Compared segment_before s t
    at_right s t e (first h) = first (joined s t (inr (e, h)))
    at_right s t e (second h) = second (joined t s (inr (sym e, h)))
    at_right s t e (equal q) = equal (segment_eq e q)

    at_left : (s t : Segment) → Compared before s.left t.left → Compared segment_before s t
    at_left s t (first h) = first (joined s t (inl h))
    at_left s t (second h) = second (joined t s (inl h))
    at_left s t (equal e) = at_right s t e (points.compare s.right t.right)
