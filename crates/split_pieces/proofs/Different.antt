-- No piece occurs twice: those of one segment begin one after the other, and those of two segments that share only common ends have no midpoint in common.
use mathlib.Core.Path.{◌≡◌, sym, ap, subst}
use mathlib.Core.Logic.{inl, inr, ⊎_elim}
use mathlib.Core.List.{List, [], ◌∷◌, ◌++◌}
use lib.Dec.{T}
use Rattle.whole.specs.Count.{◌∈◌, here, there}
use Rattle.whole.proofs.Sign.{one_pos}
use Rattle.whole.proofs.Logic.{in_nil, in_append, Sorted, sorted_nil, sorted_cons}
use Rattle.plane.specs.declared.Point.{Point}
use Rattle.plane.specs.declared.Segment.{Segment}
use Rattle.plane.specs.Plane.{midpoint, before}
use Rattle.plane.proofs.Means.{middle, middle_inner}
use Rattle.plane.proofs.Order.{before_irreflexive, before_trans}
use Rattle.plane.proofs.AlongSegment.{Apart}
use Rattle.plane.proofs.Accepted.{Across}
use Rattle.split_pieces.specs.Pieces.{between, pieces, split_all}
use Rattle.split_pieces.proofs.Chain.{Chain, whole, cut, NotPast, inside_after}
use Rattle.split_pieces.proofs.CommonEnds.{chain_ordered, chain_along, chain_end}
use Rattle.split_pieces.proofs.Unchanged.{AllInside, AllOrdered, chain_of, chain_from, split_member}

abbrev pub AllDiffer : List Segment → Type 0
AllDiffer l = Sorted (λ (t u : Segment). t ≡ u → ⊥) l

sorted_append : {A : Type 0} {R : A → A → Type 0} {l m : List A} → Sorted R l → Sorted R m → ((a b : A) → a ∈ l → b ∈ m → R a b) → Sorted R (l ++ m)
sorted_append sorted_nil s h = s
sorted_append {m = m} (sorted_cons {a = a} {l = l} first rest) s h =
    sorted_cons (λ b k. ⊎_elim (first b) (h a b here) (in_append l k)) (sorted_append rest s (λ c b k n. h c b (there k) n))

-- of one segment
chain_differ : {r p : Point} {l : List Segment} → Chain r p l → AllDiffer l
chain_differ (whole p o) = sorted_cons (λ b m. absurd (in_nil m)) sorted_nil
chain_differ {r} (cut p q l o i c) = sorted_cons first (chain_differ c)
  where
    begins : (u : Segment) → NotPast q u.left → T (before p u.left)
    begins u (inl e) = subst (λ x. T (before p x)) e (inside_after (between p r) q i o)
    begins u (inr h) = before_trans p q u.left (inside_after (between p r) q i o) h

    first : (u : Segment) → u ∈ l → between p q ≡ u → ⊥
    first u m e = before_irreflexive p (subst (λ x. T (before p x)) (sym (ap (λ s. s.left) e)) (begins u (chain_from c u m)))

module _ (cuts : Segment → List Point) where
  -- of two
  no_common : (l : List Segment) → AllOrdered l → AllInside cuts l → (s t : Segment) → s ∈ l → t ∈ l → Apart s t → (u : Segment) → u ∈ pieces cuts s → u ∈ pieces cuts t → ⊥
  no_common l o i s t m n a u k j =
      middle_inner u (chain_ordered cs u k)
      (chain_end (midpoint u) (one_pos 1) cs u k (middle u)
      (a (midpoint u) (one_pos 1) (chain_along (midpoint u) (one_pos 1) cs u k (middle u)) (chain_along (midpoint u) (one_pos 1) ct u j (middle u))).0)
    where
      cs : Chain s.right s.left (pieces cuts s)
      cs = chain_of cuts s (o s m) (i s m)

      ct : Chain t.right t.left (pieces cuts t)
      ct = chain_of cuts t (o t n) (i t n)

  pub split_differ : (l : List Segment) → AllOrdered l → AllInside cuts l → Across l l → AllDiffer l → AllDiffer (split_all cuts l)
  split_differ [] o i across d = sorted_nil
  split_differ (s ∷ l) o i across (sorted_cons first rest) =
      sorted_append (chain_differ (chain_of cuts s (o s here) (i s here)))
      (split_differ l (λ t m. o t (there m)) (λ t m. i t (there m)) (λ t u m k. across t u (there m) (there k)) rest) apart
    where
      apart : (t u : Segment) → t ∈ pieces cuts s → u ∈ split_all cuts l → t ≡ u → ⊥
      apart t u m k e =
          let w = split_member cuts l u k in
          ⊎_elim (first w.0 w.1)
          (λ a. no_common (s ∷ l) o i s w.0 here (there w.1) a t m (subst (λ x. x ∈ pieces cuts w.0) (sym e) w.2))
          (across s w.0 here (there w.1))
