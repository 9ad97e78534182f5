-- "whose interior adjoins it below (right, if vertical) .. above (left)", in points: for all large n, the point one n-th below the middle of the segment
-- (right of it, if it is vertical) is inside the region exactly if the region adjoins the segment below, and so for above (left).
use mathlib.Core.Path.{◌≡◌, refl, sym, ap, subst, ◌∙◌}
use mathlib.Core.Logic.{◌⊎◌}
use mathlib.Core.Bool.{Bool, true, false, not, true≢false}
use mathlib.Core.List.{List}
use Rattle.whole.specs.Count.{◌∈◌}
use Rattle.whole.proofs.Logic.{is_true, true_is, refute, some_find, some_make, in_map}
use Rattle.whole.proofs.Parity.{◌⊻◌, xor_false, parity, parity_none, odd_count}
use Rattle.plane.specs.declared.Segment.{Segment}
use Rattle.plane.specs.Plane.{HPoint, midpoint, is_same_segment, on, is_on_some, inside, counts_below, interior_above}
use Rattle.plane.proofs.OnSegment.{Ordered, Away, away_off}
use Rattle.plane.proofs.AlongSegment.{Apart}
use Rattle.plane.proofs.Accepted.{Regular, middle_away, interior_above_lem}
use Rattle.plane.proofs.Order.{ordered_make}
use Rattle.plane.proofs.Steps.{Large, large_map, large_and}
use Rattle.plane.proofs.Flip.{lower, upper, lower_away, upper_away, flip_lower, flip_upper}
use Rattle.flags.specs.Flags.{Edge, outline, has_segment}
use Rattle.flags.proofs.Inside.{inside_off}
use Rattle.flags.proofs.Clear.{clear_of}
use Rattle.overlap.specs.Bytes.{adjoins, adjoins_below, adjoins_above}
use Rattle.overlap.proofs.Adjoins.{adjoins_other, edge_find, Marked, adjoins_edge}

xor_true : (b : Bool) → b ⊻ true ≡ not b
xor_true true = refl
xor_true false = refl

not-not : (b : Bool) → not (not b) ≡ b
not-not true = refl
not-not false = refl

module _ (l : List Segment) (ord : (u : Segment) → u ∈ l → Ordered u) (p : HPoint) where
  inside_off_parity : is_on_some l p ≡ false → inside l p ≡ parity (counts_below p) l
  inside_off_parity e = inside_off l p e ∙ odd_count (counts_below p) l

  inside_away : ((u : Segment) → u ∈ l → Away u p) → inside l p ≡ parity (counts_below p) l
  unfolding is_on_some
  inside_away a =
      inside_off_parity (refute (is_on_some l p) (λ h. let w = some_find (λ u. on u p) l h in true≢false (sym (true_is (on w.0 p) w.2) ∙ away_off w.0 p (ord w.0 w.1) (a w.0 w.1))))

module _ (R : List Edge) (regular : Regular (outline R)) (mark : Marked R (interior_above (outline R))) (t : Segment) (o : Ordered t)
    (apart : (u : Segment) → u ∈ outline R → (t ≡ u) ⊎ Apart t u) where
  others : (u : Segment) → u ∈ outline R → (t ≡ u) ⊎ Away u (midpoint t)
  others u m = middle_away t u o (regular.split.ordered u m) (apart u m)

  abbrev middle_parity : Bool
  middle_parity = parity (counts_below (midpoint t)) (outline R)

  -- one of the region's segments
  module _ (h : has_segment (outline R) t ≡ true) where
    abbrev found : (e : Edge) × (e ∈ R) × (t ≡ e.segment)
    found = edge_find R t (is_true (has_segment (outline R) t) h)

    own : t ∈ outline R
    own = subst (λ (u : Segment). u ∈ outline R) (sym found.2) (in_map (λ (e : Edge). e.segment) found.1)

    own_ia : found.0.ia ≡ not middle_parity
    own_ia = mark found.0 found.1 ∙ ap (interior_above (outline R)) (sym found.2) ∙ interior_above_lem (outline R) regular t own

    own_below : adjoins_below R t ≡ middle_parity
    own_below = ap (adjoins false R) found.2 ∙ adjoins_edge R (interior_above (outline R)) mark found.1 false ∙ ap not own_ia ∙ not-not middle_parity

    own_above : adjoins_above R t ≡ middle_parity ⊻ parity (is_same_segment t) (outline R)
    own_above =
        ap (adjoins true R) found.2
        ∙ adjoins_edge R (interior_above (outline R)) mark found.1 true
        ∙ own_ia
        ∙ sym (ap (λ b. middle_parity ⊻ b) (regular.split.once t own) ∙ xor_true middle_parity)

  -- or none of them
  module _ (h : has_segment (outline R) t ≡ false) where
    other_side : (above : Bool) → adjoins above R t ≡ middle_parity
    other_side above =
        sym (adjoins_other R t above refl h)
        ∙ inside_off_parity (outline R) regular.split.ordered (midpoint t)
        (clear_of (outline R) (λ u m. ordered_make u (regular.split.ordered u m)) t o apart ∙ h)

    other_above_lem : adjoins_above R t ≡ middle_parity ⊻ parity (is_same_segment t) (outline R)
    other_above_lem =
        other_side true
        ∙ sym (ap (λ b. middle_parity ⊻ b) (parity_none (is_same_segment t) (outline R) (λ u m. refute (is_same_segment t u) (λ q. true≢false (sym (true_is (has_segment (outline R) t) (some_make (is_same_segment t) m q)) ∙ h))))
        ∙ xor_false middle_parity)

  by_segment : {A : Type 0} → (has_segment (outline R) t ≡ true → A) → (has_segment (outline R) t ≡ false → A) → A
  by_segment {A} there none = go (has_segment (outline R) t) refl
    where
      go : (b : Bool) → has_segment (outline R) t ≡ b → A
      go true e = there e
      go false e = none e

  pub adjoins_below_points : Large (λ n. inside (outline R) (lower t o n) ≡ adjoins_below R t)
  adjoins_below_points =
      large_map (λ n w. inside_away (outline R) regular.split.ordered (lower t o n) w.0 ∙ w.1 ∙ sym (by_segment own_below (λ h. other_side h false)))
      (large_and (lower_away t o (outline R) others) (flip_lower t o (outline R) others))

  pub adjoins_above_points : Large (λ n. inside (outline R) (upper t o n) ≡ adjoins_above R t)
  adjoins_above_points =
      large_map (λ n w. inside_away (outline R) regular.split.ordered (upper t o n) w.0 ∙ w.1 ∙ sym (by_segment own_above other_above_lem))
      (large_and (upper_away t o (outline R) others) (flip_upper t o (outline R) others regular.even regular.split.ordered))
