-- A region against a region. A point off both outlines has the parities of the upper side of some segment of the two (the topmost lemma), and both sides of
-- every segment are taken (the flip lemma): so a cell of two open parts is a question of the four values beside a segment, and so are the segment classes.
use mathlib.Core.Path.{◌≡◌, refl, sym, ap, ap₂, ◌∙◌, subst}
use mathlib.Core.Logic.{◌⊎◌, inl, inr, ⊎_elim}
use mathlib.Core.Bool.{Bool, true, false, not, ◌&&◌, ◌||◌}
use mathlib.Core.List.{List, [], ◌∷◌, ◌++◌}
use lib.Dec.{T, T_not, not_T}
use Rattle.whole.specs.Count.{◌∈◌, here, there, some}
use Rattle.whole.proofs.Sign.{Pos, one_pos}
use Rattle.whole.proofs.Logic.{in_nil, in_cons, in_left, in_right, in_append, and_left, and_right, and_make, or_cases, or_left, or_right, some_find, some_make, decide, is_true, is_false, true_is, false_is, refute, same_test}
use Rattle.whole.proofs.Parity.{◌⊻◌, xor_false, parity, parity_none}
use Rattle.plane.specs.declared.Segment.{Segment}
use Rattle.plane.specs.Plane.{HPoint, grid, midpoint, is_end, is_same_segment, is_on_some, inside, counts_below, Object, in_interior, in_boundary, in_exterior}
use Rattle.plane.proofs.OnSegment.{Ordered, Along, Away, on_or_away}
use Rattle.plane.proofs.Equal.{same_segment_read, same_segment_refl}
use Rattle.plane.proofs.Scale.{is_end_scale}
use Rattle.plane.proofs.Means.{middle, end_read, end_make}
use Rattle.plane.proofs.AlongSegment.{Apart}
use Rattle.plane.proofs.Topmost.{topmost}
use Rattle.plane.proofs.Accepted.{Regular, Across, middle_away}
use Rattle.flags.specs.Flags.{Edge, outline, has_segment, joins, mid_inside, mid_outside, class01, class10, class12, class21, class02, class20, class11, bound_poi_shared}
use Rattle.cells_matrix.proofs.Common.{Cell, cell_swap, across_swap, carry, on_find, on_make, end_along, end_find, end_give, end_place_lem, outside_both, away_none, inside_parity, inside_off, inside_count, is_in, in_has, middle_off, moving}
use Rattle.cells_matrix.proofs.Beside.{Beside, below_it, above_it}

-- ---- a region by its edges

-- ia as the conditions give it: the interior is above exactly where an even number count below the midpoint
pub record Sound (F : List Edge) : Type 0 where
  pub regular : Regular (outline F)
  pub ia_right : (e : Edge) → e ∈ F → e.ia ≡ not (parity (counts_below (midpoint e.segment)) (outline F))

pub edge_of : (F : List Edge) (s : Segment) → s ∈ outline F → (e : Edge) × (e ∈ F) × (e.segment ≡ s)
edge_of [] s m = absurd (in_nil m)
edge_of (e ∷ F) s m = go (edge_of F s) (in_cons m)
  where
    go : (s ∈ outline F → (d : Edge) × (d ∈ F) × (d.segment ≡ s)) → (s ≡ e.segment) ⊎ (s ∈ outline F) → (d : Edge) × (d ∈ (e ∷ F)) × (d.segment ≡ s)
    go rest (inl h) = (e, here, sym h)
    go rest (inr h) = let w = rest h in (w.0, there w.1, w.2)

pub edge_in : (F : List Edge) {e : Edge} → e ∈ F → e.segment ∈ outline F
edge_in [] m = elim m [ ]
edge_in (d ∷ F) here = here
edge_in (d ∷ F) (there m) = there (edge_in F m)

-- ---- the values beside a segment

below_in : List Segment → Segment → Bool
below_in R s = parity (counts_below (midpoint s)) R

above_in : List Segment → Segment → Bool
above_in R s = below_in R s ⊻ parity (is_same_segment s) R

-- of a region's own segment, by ia
own_below : (F : List Edge) → Sound F → (e : Edge) → e ∈ F → below_in (outline F) e.segment ≡ not e.ia
unfolding below_in
own_below F f e m = twice (parity (counts_below (midpoint e.segment)) (outline F)) ∙ ap not (sym (f.ia_right e m))
  where
    twice : (b : Bool) → b ≡ not (not b)
    twice true = refl
    twice false = refl

own_above : (F : List Edge) → Sound F → (e : Edge) → e ∈ F → above_in (outline F) e.segment ≡ e.ia
unfolding above_in
own_above F f e m =
    ap₂ (λ a b. a ⊻ b) (own_below F f e m) (f.regular.split.once e.segment (edge_in F m)) ∙ back e.ia
  where
    back : (b : Bool) → not b ⊻ true ≡ b
    back true = refl
    back false = refl

-- of a segment that is none of the region's, by its midpoint
module _ (R : List Segment) (regular : Regular R) (s : Segment) (off : T (not (is_on_some R (midpoint s)))) where
  ord : (t : Segment) → t ∈ R → Ordered t
  ord = regular.split.ordered

  other_below_lem : below_in R s ≡ inside R (midpoint s)
  unfolding below_in
  other_below_lem = sym (inside_parity R ord (midpoint s) (false_is (is_on_some R (midpoint s)) off))

  not_own : parity (is_same_segment s) R ≡ false
  not_own = parity_none (is_same_segment s) R (λ t m. refute (is_same_segment s t) (λ h. T_not (is_on_some R (midpoint s)) off (on_make R ord (midpoint s) s (subst (λ r. r ∈ R) (sym (same_segment_read s t h)) m) (middle s))))

  other_above_lem : above_in R s ≡ inside R (midpoint s)
  unfolding above_in
  other_above_lem = ap₂ (λ a b. a ⊻ b) other_below_lem not_own ∙ xor_false (inside R (midpoint s))

-- ---- points with given values

pub record Near (A B : List Segment) (x y : Bool) : Type 0 where
  pub at : HPoint
  pub at_pos : Pos at.W
  pub off_one : is_on_some A at ≡ false
  pub off_two : is_on_some B at ≡ false
  pub in_one : inside A at ≡ x
  pub in_two : inside B at ≡ y

module _ (A B : List Segment) (a : Regular A) (b : Regular B) (across : Across A B) where
  both : List Segment
  both = A ++ B

  both_ordered : (t : Segment) → t ∈ both → Ordered t
  unfolding both
  both_ordered t m = ⊎_elim (a.split.ordered t) (b.split.ordered t) (in_append A m)

  both_apart : Across both both
  unfolding both
  both_apart s t i k = ⊎_elim (λ i. ⊎_elim (a.split.apart s t i) (across s t i) (in_append A k)) (λ i. ⊎_elim (across_swap across s t i) (b.split.apart s t i) (in_append A k)) (in_append A i)

  in_A : (t : Segment) → t ∈ A → t ∈ both
  unfolding both
  in_A t m = in_left B m

  in_B : (t : Segment) → t ∈ B → t ∈ both
  unfolding both
  in_B t m = in_right A m

  near : {x y : Bool} → Beside [] [] A B x y → Near A B x y
  near w =
      record {
        at = w.at;
        at_pos = w.at_pos;
        off_one = away_none A a.split.ordered w.at w.away_one;
        off_two = away_none B b.split.ordered w.at w.away_two;
        in_one = inside_parity A a.split.ordered w.at (away_none A a.split.ordered w.at w.away_one) ∙ w.parity_one;
        in_two = inside_parity B b.split.ordered w.at (away_none B b.split.ordered w.at w.away_two) ∙ w.parity_two;
      }

  others : (s : Segment) → s ∈ both → (l : List Segment) → ((t : Segment) → t ∈ l → t ∈ both) → (t : Segment) → t ∈ l → (s ≡ t) ⊎ Away t (midpoint s)
  others s i l within t m = middle_away s t (both_ordered s i) (both_ordered t (within t m)) (both_apart s t i (within t m))

  -- both sides of every segment are taken
  near_below : (s : Segment) → s ∈ both → {x y : Bool} → below_in A s ≡ x → below_in B s ≡ y → Near A B x y
  unfolding below_in
  near_below s i {x} {y} e f = subst (λ x. Near A B x y) e (subst (λ y. Near A B (below_in A s) y) f (near (below_it [] s (both_ordered s i) [] A B (λ t m. absurd (in_nil m)) (others s i A in_A) (others s i B in_B))))

  near_above : (s : Segment) → s ∈ both → {x y : Bool} → above_in A s ≡ x → above_in B s ≡ y → Near A B x y
  unfolding above_in below_in
  near_above s i {x} {y} e f =
      subst (λ x. Near A B x y) e
      (subst (λ y. Near A B (above_in A s) y) f (near (above_it [] s (both_ordered s i) [] A B (λ t m. absurd (in_nil m)) (others s i A in_A) (others s i B in_B) a.even a.split.ordered b.even b.split.ordered)))

  -- and a point inside one of the two has the values above one of their segments
  under : (p : HPoint) → Pos p.W → T (not (is_on_some A p)) → T (not (is_on_some B p)) → (t : Segment) → t ∈ both → T (counts_below p t)
      → (s : Segment) × (s ∈ both) × (inside A p ≡ above_in A s) × (inside B p ≡ above_in B s)
  unfolding above_in below_in both
  under p h off-A off-B t m u =
      let w = topmost both both_ordered both_apart p h away t m u in (
        w.0,
        w.1,
        inside_parity A a.split.ordered p (false_is (is_on_some A p) off-A) ∙ w.2 A in_A a.even,
        inside_parity B b.split.ordered p (false_is (is_on_some B p) off-B) ∙ w.2 B in_B b.even,
      )
    where
      away : (r : Segment) → r ∈ both → Away r p
      away r k = ⊎_elim (λ along. absurd (on_one along)) (λ away. away) (on_or_away r (both_ordered r k) p)
        where
          on_one : Along r p → ⊥
          on_one along = ⊎_elim (λ k. T_not (is_on_some A p) off-A (on_make A a.split.ordered p r k along)) (λ k. T_not (is_on_some B p) off-B (on_make B b.split.ordered p r k along)) (in_append A k)

-- ---- the edges that a class speaks of

module _ (F G : List Edge) where
  inside_edge : (i : Bool → Bool) → T (some (λ (e : Edge). i e.ia && mid_inside G e) F) → (e : Edge) × (e ∈ F) × T (i e.ia) × T (mid_inside G e)
  inside_edge i t =
      let w = some_find (λ (e : Edge). i e.ia && mid_inside G e) F t in
      (w.0, w.1, and_left (i w.0.ia) (mid_inside G w.0) w.2, and_right (i w.0.ia) (mid_inside G w.0) w.2)

  outside_edge : (i : Bool → Bool) → T (some (λ (e : Edge). i e.ia && mid_outside G e) F)
      → (e : Edge) × (e ∈ F) × T (i e.ia) × T (not (is_on_some (outline G) (midpoint e.segment))) × T (not (mid_inside G e))
  outside_edge i t =
      let w = some_find (λ (e : Edge). i e.ia && mid_outside G e) F t in
      let k = and_right (i w.0.ia) (mid_outside G w.0) w.2 in
      (w.0, w.1, and_left (i w.0.ia) (mid_outside G w.0) w.2, and_left (not (is_on_some (outline G) (midpoint w.0.segment))) (not (mid_inside G w.0)) k, and_right (not (is_on_some (outline G) (midpoint w.0.segment))) (not (mid_inside G w.0)) k)

  common_edge : (i : Bool → Bool → Bool) → T (some (λ (f : Edge). some (λ (g : Edge). is_same_segment f.segment g.segment && i f.ia g.ia) G) F)
      → (e : Edge) × (d : Edge) × (e ∈ F) × (d ∈ G) × T (is_same_segment e.segment d.segment) × T (i e.ia d.ia)
  common_edge i t =
      let w = some_find (λ (f : Edge). some (λ (g : Edge). is_same_segment f.segment g.segment && i f.ia g.ia) G) F t in
      let v = some_find (λ (g : Edge). is_same_segment w.0.segment g.segment && i w.0.ia g.ia) G w.2 in
      (w.0, v.0, w.1, v.1, and_left (is_same_segment w.0.segment v.0.segment) (i w.0.ia v.0.ia) v.2, and_right (is_same_segment w.0.segment v.0.segment) (i w.0.ia v.0.ia) v.2)

  give_common : (i : Bool → Bool → Bool) (e d : Edge) → e ∈ F → d ∈ G → e.segment ≡ d.segment → T (i e.ia d.ia)
      → T (some (λ (f : Edge). some (λ (g : Edge). is_same_segment f.segment g.segment && i f.ia g.ia) G) F)
  give_common i e d m k h t =
      some_make (λ (f : Edge). some (λ (g : Edge). is_same_segment f.segment g.segment && i f.ia g.ia) G) m
      (some_make (λ (g : Edge). is_same_segment e.segment g.segment && i e.ia g.ia) k (and_make (is_same_segment e.segment d.segment) (i e.ia d.ia) (subst (λ r. T (is_same_segment e.segment r)) h (same_segment_refl e.segment)) t))

-- ---- the rows

-- where a segment of the two is found: in the first alone, in the second alone, or in both
pub data Whose (F G : List Edge) (s : Segment) : Type 0 where
  first_only : (e : Edge) → e ∈ F → e.segment ≡ s → T (not (is_on_some (outline G) (midpoint e.segment))) → Whose F G s
  second_only : (e : Edge) → e ∈ G → e.segment ≡ s → T (not (is_on_some (outline F) (midpoint e.segment))) → Whose F G s
  of_both_lem : (e d : Edge) → e ∈ F → d ∈ G → e.segment ≡ s → d.segment ≡ s → Whose F G s

module _ (F G : List Edge) (f : Sound F) (g : Sound G) (across : Across (outline F) (outline G)) where
  abbrev A : List Segment
  A = outline F

  abbrev B : List Segment
  B = outline G

  a : Regular A
  a = f.regular

  b : Regular B
  b = g.regular

  whose : (s : Segment) → s ∈ both A B a b across → Whose F G s
  unfolding both
  whose s i = go (decide (has_segment A s)) (decide (has_segment B s))
    where
      go : T (has_segment A s) ⊎ T (not (has_segment A s)) → T (has_segment B s) ⊎ T (not (has_segment B s)) → Whose F G s
      go (inl t) (inl u) = let e = edge_of F s (is_in A s t) in let d = edge_of G s (is_in B s u) in of_both_lem e.0 d.0 e.1 d.1 e.2 d.2
      go (inl t) (inr u) = let k = is_in A s t in let e = edge_of F s k in first_only e.0 e.1 e.2 (subst (λ r. T (not (is_on_some B (midpoint r)))) (sym e.2) (middle_off B b.split.ordered s (a.split.ordered s k) (λ r m. across s r k m) u))
      go (inr t) (inl u) = let k = is_in B s u in let e = edge_of G s k in second_only e.0 e.1 e.2 (subst (λ r. T (not (is_on_some A (midpoint r)))) (sym e.2) (middle_off A a.split.ordered s (b.split.ordered s k) (λ r m. across_swap across s r k m) t))
      go (inr t) (inr u) = absurd (⊎_elim (λ k. T_not (has_segment A s) t (in_has A s k)) (λ k. T_not (has_segment B s) u (in_has B s k)) (in_append A i))

  -- the values of an edge of F whose midpoint is off G
  beside_F : (e : Edge) → e ∈ F → T (not (is_on_some B (midpoint e.segment))) → {x : Bool} → e.ia ≡ x → {y : Bool} → inside B (midpoint e.segment) ≡ y → Near A B x y × Near A B (not x) y
  beside_F e m off i j = (
    near_above A B a b across e.segment (in_A A B a b across e.segment (edge_in F m)) (own_above F f e m ∙ i) (other_above_lem B b e.segment off ∙ j),
    near_below A B a b across e.segment (in_A A B a b across e.segment (edge_in F m)) (own_below F f e m ∙ ap not i) (other_below_lem B b e.segment off ∙ j),
  )

  beside_G : (e : Edge) → e ∈ G → T (not (is_on_some A (midpoint e.segment))) → {x : Bool} → e.ia ≡ x → {y : Bool} → inside A (midpoint e.segment) ≡ y → Near A B y x × Near A B y (not x)
  beside_G e m off i j = (
    near_above A B a b across e.segment (in_B A B a b across e.segment (edge_in G m)) (other_above_lem A a e.segment off ∙ j) (own_above G g e m ∙ i),
    near_below A B a b across e.segment (in_B A B a b across e.segment (edge_in G m)) (other_below_lem A a e.segment off ∙ j) (own_below G g e m ∙ ap not i),
  )

  -- and of a common segment
  beside_both : (e d : Edge) → e ∈ F → d ∈ G → T (is_same_segment e.segment d.segment) → {x y : Bool} → e.ia ≡ x → d.ia ≡ y → Near A B x y × Near A B (not x) (not y)
  beside_both e d m k t {x} {y} i j = (
    near_above A B a b across e.segment (in_A A B a b across e.segment (edge_in F m)) (own_above F f e m ∙ i) (ap (above_in B) same ∙ own_above G g d k ∙ j),
    near_below A B a b across e.segment (in_A A B a b across e.segment (edge_in F m)) (own_below F f e m ∙ ap not i) (ap (below_in B) same ∙ own_below G g d k ∙ ap not j),
  )
    where
      same : e.segment ≡ d.segment
      same = same_segment_read e.segment d.segment t

  -- ---- found: the two sides of a segment of each class

  both_inside : T (class12 F G || class21 F G || class12 G F || class21 G F || class02 F G || class20 F G) → Near A B true true
  both_inside t = go (or_cases (class12 F G || class21 F G || class12 G F || class21 G F || class02 F G) (class20 F G) t)
    where
      go₁ : T (class12 F G) ⊎ T (class21 F G) → Near A B true true
      go₁ (inl t) = let w = inside_edge F G (λ i. i) t in (beside_F w.0 w.1 (inside_off B (midpoint w.0.segment) w.3) (true_is w.0.ia w.2) (true_is (mid_inside G w.0) w.3)).0
      go₁ (inr t) = let w = inside_edge F G not t in (beside_F w.0 w.1 (inside_off B (midpoint w.0.segment) w.3) (false_is w.0.ia w.2) (true_is (mid_inside G w.0) w.3)).1

      go₂ : T (class12 F G || class21 F G) ⊎ T (class12 G F) → Near A B true true
      go₂ (inl t) = go₁ (or_cases (class12 F G) (class21 F G) t)
      go₂ (inr t) = let w = inside_edge G F (λ i. i) t in (beside_G w.0 w.1 (inside_off A (midpoint w.0.segment) w.3) (true_is w.0.ia w.2) (true_is (mid_inside F w.0) w.3)).0

      go₃ : T (class12 F G || class21 F G || class12 G F) ⊎ T (class21 G F) → Near A B true true
      go₃ (inl t) = go₂ (or_cases (class12 F G || class21 F G) (class12 G F) t)
      go₃ (inr t) = let w = inside_edge G F not t in (beside_G w.0 w.1 (inside_off A (midpoint w.0.segment) w.3) (false_is w.0.ia w.2) (true_is (mid_inside F w.0) w.3)).1

      go₄ : T (class12 F G || class21 F G || class12 G F || class21 G F) ⊎ T (class02 F G) → Near A B true true
      go₄ (inl t) = go₃ (or_cases (class12 F G || class21 F G || class12 G F) (class21 G F) t)
      go₄ (inr t) = let w = common_edge F G (λ i j. i && j) t in (beside_both w.0 w.1 w.2 w.3 w.4 (true_is w.0.ia (and_left w.0.ia w.1.ia w.5)) (true_is w.1.ia (and_right w.0.ia w.1.ia w.5))).0

      go : T (class12 F G || class21 F G || class12 G F || class21 G F || class02 F G) ⊎ T (class20 F G) → Near A B true true
      go (inl t) = go₄ (or_cases (class12 F G || class21 F G || class12 G F || class21 G F) (class02 F G) t)
      go (inr t) = let w = common_edge F G (λ i j. not i && not j) t in (beside_both w.0 w.1 w.2 w.3 w.4 (false_is w.0.ia (and_left (not w.0.ia) (not w.1.ia) w.5)) (false_is w.1.ia (and_right (not w.0.ia) (not w.1.ia) w.5))).1

  one_inside : T (class01 F G || class10 F G || class11 F G || class12 G F || class21 G F) → Near A B true false
  one_inside t = go (or_cases (class01 F G || class10 F G || class11 F G || class12 G F) (class21 G F) t)
    where
      go₁ : T (class01 F G) ⊎ T (class10 F G) → Near A B true false
      go₁ (inl t) = let w = outside_edge F G (λ i. i) t in (beside_F w.0 w.1 w.3 (true_is w.0.ia w.2) (false_is (mid_inside G w.0) w.4)).0
      go₁ (inr t) = let w = outside_edge F G not t in (beside_F w.0 w.1 w.3 (false_is w.0.ia w.2) (false_is (mid_inside G w.0) w.4)).1

      differ : (e d : Edge) → e ∈ F → d ∈ G → T (is_same_segment e.segment d.segment) → T (e.ia && not d.ia) ⊎ T (not e.ia && d.ia) → Near A B true false
      differ e d m k u (inl h) = (beside_both e d m k u (true_is e.ia (and_left e.ia (not d.ia) h)) (false_is d.ia (and_right e.ia (not d.ia) h))).0
      differ e d m k u (inr h) = (beside_both e d m k u (false_is e.ia (and_left (not e.ia) d.ia h)) (true_is d.ia (and_right (not e.ia) d.ia h))).1

      go₂ : T (class01 F G || class10 F G) ⊎ T (class11 F G) → Near A B true false
      go₂ (inl t) = go₁ (or_cases (class01 F G) (class10 F G) t)
      go₂ (inr t) = let w = common_edge F G (λ i j. i && not j || not i && j) t in differ w.0 w.1 w.2 w.3 w.4 (or_cases (w.0.ia && not w.1.ia) (not w.0.ia && w.1.ia) w.5)

      go₃ : T (class01 F G || class10 F G || class11 F G) ⊎ T (class12 G F) → Near A B true false
      go₃ (inl t) = go₂ (or_cases (class01 F G || class10 F G) (class11 F G) t)
      go₃ (inr t) = let w = inside_edge G F (λ i. i) t in (beside_G w.0 w.1 (inside_off A (midpoint w.0.segment) w.3) (true_is w.0.ia w.2) (true_is (mid_inside F w.0) w.3)).1

      go : T (class01 F G || class10 F G || class11 F G || class12 G F) ⊎ T (class21 G F) → Near A B true false
      go (inl t) = go₃ (or_cases (class01 F G || class10 F G || class11 F G) (class12 G F) t)
      go (inr t) = let w = inside_edge G F not t in (beside_G w.0 w.1 (inside_off A (midpoint w.0.segment) w.3) (false_is w.0.ia w.2) (true_is (mid_inside F w.0) w.3)).0

  -- ---- told: the segment under a point has a class

  -- the values above a segment, by whose it is
  module _ (p : HPoint) (s : Segment) (in-A-is : inside A p ≡ above_in A s) (in-B-is : inside B p ≡ above_in B s) where
    ia_F : (e : Edge) → e ∈ F → e.segment ≡ s → e.ia ≡ inside A p
    ia_F e m h = sym (own_above F f e m) ∙ ap (above_in A) h ∙ sym in-A-is

    ia_G : (e : Edge) → e ∈ G → e.segment ≡ s → e.ia ≡ inside B p
    ia_G e m h = sym (own_above G g e m) ∙ ap (above_in B) h ∙ sym in-B-is

    mid_G : (e : Edge) → e.segment ≡ s → T (not (is_on_some B (midpoint e.segment))) → mid_inside G e ≡ inside B p
    mid_G e h off = sym (other_above_lem B b e.segment off) ∙ ap (above_in B) h ∙ sym in-B-is

    mid_F : (e : Edge) → e.segment ≡ s → T (not (is_on_some A (midpoint e.segment))) → mid_inside F e ≡ inside A p
    mid_F e h off = sym (other_above_lem A a e.segment off) ∙ ap (above_in A) h ∙ sym in-A-is

    both_told : T (inside A p) → T (inside B p) → Whose F G s → T (class12 F G || class21 F G || class12 G F || class21 G F || class02 F G || class20 F G)
    both_told x y (first_only e m h off) =
        up₁ (up₂ (up₃ (up₄ (or_left (class12 F G) (class21 F G) (some_make (λ (e : Edge). e.ia && mid_inside G e) m (and_make e.ia (mid_inside G e) (subst T (sym (ia_F e m h)) x) (subst T (sym (mid_G e h off)) y)))))))
      where
        up₄ : T (class12 F G || class21 F G) → T (class12 F G || class21 F G || class12 G F)
        up₄ = or_left (class12 F G || class21 F G) (class12 G F)

        up₃ : T (class12 F G || class21 F G || class12 G F) → T (class12 F G || class21 F G || class12 G F || class21 G F)
        up₃ = or_left (class12 F G || class21 F G || class12 G F) (class21 G F)

        up₂ : T (class12 F G || class21 F G || class12 G F || class21 G F) → T (class12 F G || class21 F G || class12 G F || class21 G F || class02 F G)
        up₂ = or_left (class12 F G || class21 F G || class12 G F || class21 G F) (class02 F G)

        up₁ : T (class12 F G || class21 F G || class12 G F || class21 G F || class02 F G) → T (class12 F G || class21 F G || class12 G F || class21 G F || class02 F G || class20 F G)
        up₁ = or_left (class12 F G || class21 F G || class12 G F || class21 G F || class02 F G) (class20 F G)
    both_told x y (second_only e m h off) =
        or_left (class12 F G || class21 F G || class12 G F || class21 G F || class02 F G) (class20 F G)
        (or_left (class12 F G || class21 F G || class12 G F || class21 G F) (class02 F G)
        (or_left (class12 F G || class21 F G || class12 G F) (class21 G F)
        (or_right (class12 F G || class21 F G) (class12 G F) (some_make (λ (e : Edge). e.ia && mid_inside F e) m (and_make e.ia (mid_inside F e) (subst T (sym (ia_G e m h)) y) (subst T (sym (mid_F e h off)) x))))))
    both_told x y (of_both_lem e d m k h j) =
        or_left (class12 F G || class21 F G || class12 G F || class21 G F || class02 F G) (class20 F G)
        (or_right (class12 F G || class21 F G || class12 G F || class21 G F) (class02 F G)
        (give_common F G (λ i j. i && j) e d m k (h ∙ sym j) (and_make e.ia d.ia (subst T (sym (ia_F e m h)) x) (subst T (sym (ia_G d k j)) y))))

    one_told : T (inside A p) → T (not (inside B p)) → Whose F G s → T (class01 F G || class10 F G || class11 F G || class12 G F || class21 G F)
    one_told x y (first_only e m h off) =
        or_left (class01 F G || class10 F G || class11 F G || class12 G F) (class21 G F)
        (or_left (class01 F G || class10 F G || class11 F G) (class12 G F)
        (or_left (class01 F G || class10 F G) (class11 F G)
        (or_left (class01 F G) (class10 F G) (some_make (λ (e : Edge). e.ia && mid_outside G e) m (and_make e.ia (mid_outside G e) (subst T (sym (ia_F e m h)) x) (and_make (not (is_on_some B (midpoint e.segment))) (not (mid_inside G e)) off (subst (λ b. T (not b)) (sym (mid_G e h off)) y)))))))
    one_told x y (second_only e m h off) =
        or_right (class01 F G || class10 F G || class11 F G || class12 G F) (class21 G F)
        (some_make (λ (e : Edge). not e.ia && mid_inside F e) m (and_make (not e.ia) (mid_inside F e) (subst (λ b. T (not b)) (sym (ia_G e m h)) y) (subst T (sym (mid_F e h off)) x)))
    one_told x y (of_both_lem e d m k h j) =
        or_left (class01 F G || class10 F G || class11 F G || class12 G F) (class21 G F)
        (or_left (class01 F G || class10 F G || class11 F G) (class12 G F)
        (or_right (class01 F G || class10 F G) (class11 F G)
        (give_common F G (λ i j. i && not j || not i && j) e d m k (h ∙ sym j) (or_left (e.ia && not d.ia) (not e.ia && d.ia) (and_make e.ia (not d.ia) (subst T (sym (ia_F e m h)) x) (subst (λ b. T (not b)) (sym (ia_G d k j)) y))))))

  -- ---- the cells

  pub ii : Cell (class12 F G || class21 F G || class12 G F || class21 G F || class02 F G || class20 F G) (in_interior (Object.region A)) (in_interior (Object.region B))
  unfolding in_interior
  ii =
      record {
        found = λ t. let w = both_inside t in (w.at, w.at_pos, is_true (inside A w.at) w.in_one, is_true (inside B w.at) w.in_two);
        told = λ p h s t. let n = inside_count A p s in let w = under A B a b across p h (inside_off A p s) (inside_off B p t) n.0 (in_A A B a b across n.0 n.1) n.2 in both_told p w.0 w.2 w.3 s t (whose w.0 w.1);
      }

  pub ie : Cell (class01 F G || class10 F G || class11 F G || class12 G F || class21 G F) (in_interior (Object.region A)) (in_exterior (Object.region B))
  unfolding in_exterior in_interior in_boundary
  ie =
      record {
        found = λ t. let w = one_inside t in (w.at, w.at_pos, is_true (inside A w.at) w.in_one, and_make (not (inside B w.at)) (not (is_on_some B w.at)) (is_false (inside B w.at) w.in_two) (is_false (is_on_some B w.at) w.off_two));
        told = λ p h s t. let n = inside_count A p s in let w = under A B a b across p h (inside_off A p s) (and_right (not (inside B p)) (not (is_on_some B p)) t) n.0 (in_A A B a b across n.0 n.1) n.2 in one_told p w.0 w.2 w.3 s (and_left (not (inside B p)) (not (is_on_some B p)) t) (whose w.0 w.1);
      }

  -- a point of F's outline off G, and the edge that it is on
  on_edge : (p : HPoint) → Pos p.W → T (is_on_some A p) → T (not (is_on_some B p)) → (e : Edge) × (e ∈ F) × T (not (is_on_some B (midpoint e.segment))) × (inside B p ≡ mid_inside G e)
  on_edge p h s off =
      let w = on_find A a.split.ordered p s in
      let e = edge_of F w.0 w.1 in
      let none = not_T (has_segment B w.0) (λ u. T_not (is_on_some B p) off (on_make B b.split.ordered p w.0 (is_in B w.0 u) w.2)) in
      let apart : (r : Segment) → r ∈ B → (w.0 ≡ r) ⊎ Apart w.0 r = λ r m. across w.0 r w.1 m in (
        e.0,
        e.1,
        subst (λ r. T (not (is_on_some B (midpoint r)))) (sym e.2) (middle_off B b.split.ordered w.0 (a.split.ordered w.0 w.1) apart none),
        moving B b w.0 (a.split.ordered w.0 w.1) apart none p h w.2 off ∙ ap (λ r. inside B (midpoint r)) (sym e.2),
      )

  edge_on : (e : Edge) → e ∈ F → T (is_on_some A (midpoint e.segment))
  edge_on e m = on_make A a.split.ordered (midpoint e.segment) e.segment (edge_in F m) (middle e.segment)

  by_ia : (test : Edge → Bool) (e : Edge) → e ∈ F → T (test e) → T (some (λ (d : Edge). d.ia && test d) F || some (λ (d : Edge). not d.ia && test d) F)
  by_ia test e m t =
      ⊎_elim (λ i. or_left (some (λ (d : Edge). d.ia && test d) F) (some (λ (d : Edge). not d.ia && test d) F) (some_make (λ (d : Edge). d.ia && test d) m (and_make e.ia (test e) i t)))
      (λ i. or_right (some (λ (d : Edge). d.ia && test d) F) (some (λ (d : Edge). not d.ia && test d) F) (some_make (λ (d : Edge). not d.ia && test d) m (and_make (not e.ia) (test e) i t)))
      (decide e.ia)

  pub bi : Cell (class12 F G || class21 F G) (in_boundary (Object.region A)) (in_interior (Object.region B))
  unfolding in_interior in_boundary
  bi = record { found = λ t. ⊎_elim (λ t. let w = inside_edge F G (λ i. i) t in there_it w.0 w.1 w.3) (λ t. let w = inside_edge F G not t in there_it w.0 w.1 w.3) (or_cases (class12 F G) (class21 F G) t); told = told }
    where
      there_it : (e : Edge) → e ∈ F → T (mid_inside G e) → (p : HPoint) × Pos p.W × T (is_on_some A p) × T (inside B p)
      there_it e m t = (midpoint e.segment, one_pos 1, edge_on e m, t)

      told : (p : HPoint) → Pos p.W → T (is_on_some A p) → T (inside B p) → T (class12 F G || class21 F G)
      told p h s t = let w = on_edge p h s (inside_off B p t) in by_ia (mid_inside G) w.0 w.1 (subst T w.3 t)

  pub be : Cell (class01 F G || class10 F G) (in_boundary (Object.region A)) (in_exterior (Object.region B))
  unfolding in_exterior in_interior in_boundary
  be = record { found = λ t. ⊎_elim (λ t. let w = outside_edge F G (λ i. i) t in there_it w.0 w.1 w.3 w.4) (λ t. let w = outside_edge F G not t in there_it w.0 w.1 w.3 w.4) (or_cases (class01 F G) (class10 F G) t); told = told }
    where
      there_it : (e : Edge) → e ∈ F → T (not (is_on_some B (midpoint e.segment))) → T (not (mid_inside G e)) → (p : HPoint) × Pos p.W × T (is_on_some A p) × T (not (inside B p) && not (is_on_some B p))
      there_it e m off out = (midpoint e.segment, one_pos 1, edge_on e m, and_make (not (mid_inside G e)) (not (is_on_some B (midpoint e.segment))) out off)

      told : (p : HPoint) → Pos p.W → T (is_on_some A p) → T (not (inside B p) && not (is_on_some B p)) → T (class01 F G || class10 F G)
      told p h s t =
          let w = on_edge p h s (and_right (not (inside B p)) (not (is_on_some B p)) t) in
          by_ia (mid_outside G) w.0 w.1 (and_make (not (is_on_some B (midpoint w.0.segment))) (not (mid_inside G w.0)) w.2 (subst (λ b. T (not b)) w.3 (and_left (not (inside B p)) (not (is_on_some B p)) t)))

  pub bb : Cell (class02 F G || class20 F G || class11 F G || bound_poi_shared F G) (in_boundary (Object.region A)) (in_boundary (Object.region B))
  unfolding in_boundary
  bb = record { found = found; told = told }
    where
      shared : (i : Bool → Bool → Bool) → T (some (λ (f : Edge). some (λ (g : Edge). is_same_segment f.segment g.segment && i f.ia g.ia) G) F) → (p : HPoint) × Pos p.W × T (is_on_some A p) × T (is_on_some B p)
      shared i t =
          let w = common_edge F G i t in
          let same = same_segment_read w.0.segment w.1.segment w.4 in
          (midpoint w.0.segment, one_pos 1, edge_on w.0 w.2, on_make B b.split.ordered (midpoint w.0.segment) w.0.segment (subst (λ r. r ∈ B) (sym same) (edge_in G w.3)) (middle w.0.segment))

      at_end_lem : T (bound_poi_shared F G) → (p : HPoint) × Pos p.W × T (is_on_some A p) × T (is_on_some B p)
      at_end_lem t =
          let w = end_find (λ s v. joins B s v) A t in
          let v = w.2.0 in
          let k = some_find (λ r. not (is_same_segment w.0 r) && is_end r (grid v)) B w.2.2 in
          (grid v, one_pos 0, on_make A a.split.ordered (grid v) w.0 w.1 (end_along w.0 (grid v) (one_pos 0) (end_read w.0 (grid v) w.2.1)), on_make B b.split.ordered (grid v) k.0 k.1 (end_along k.0 (grid v) (one_pos 0) (end_read k.0 (grid v) (and_right (not (is_same_segment w.0 k.0)) (is_end k.0 (grid v)) k.2))))

      found : T (class02 F G || class20 F G || class11 F G || bound_poi_shared F G) → (p : HPoint) × Pos p.W × T (is_on_some A p) × T (is_on_some B p)
      found t = ⊎_elim (λ t. ⊎_elim (λ t. ⊎_elim (shared (λ i j. i && j)) (shared (λ i j. not i && not j)) (or_cases (class02 F G) (class20 F G) t)) (shared (λ i j. i && not j || not i && j)) (or_cases (class02 F G || class20 F G) (class11 F G) t)) at_end_lem (or_cases (class02 F G || class20 F G || class11 F G) (bound_poi_shared F G) t)

      class_of : (e d : Edge) → e ∈ F → d ∈ G → e.segment ≡ d.segment → T e.ia ⊎ T (not e.ia) → T d.ia ⊎ T (not d.ia) → T (class02 F G || class20 F G || class11 F G)
      class_of e d m k h (inl i) (inl j) = or_left (class02 F G || class20 F G) (class11 F G) (or_left (class02 F G) (class20 F G) (give_common F G (λ i j. i && j) e d m k h (and_make e.ia d.ia i j)))
      class_of e d m k h (inr i) (inr j) = or_left (class02 F G || class20 F G) (class11 F G) (or_right (class02 F G) (class20 F G) (give_common F G (λ i j. not i && not j) e d m k h (and_make (not e.ia) (not d.ia) i j)))
      class_of e d m k h (inl i) (inr j) = or_right (class02 F G || class20 F G) (class11 F G) (give_common F G (λ i j. i && not j || not i && j) e d m k h (or_left (e.ia && not d.ia) (not e.ia && d.ia) (and_make e.ia (not d.ia) i j)))
      class_of e d m k h (inr i) (inl j) = or_right (class02 F G || class20 F G) (class11 F G) (give_common F G (λ i j. i && not j || not i && j) e d m k h (or_right (e.ia && not d.ia) (not e.ia && d.ia) (and_make (not e.ia) d.ia i j)))

      told : (p : HPoint) → Pos p.W → T (is_on_some A p) → T (is_on_some B p) → T (class02 F G || class20 F G || class11 F G || bound_poi_shared F G)
      told p h s t = go (decide (is_same_segment v.0 w.0)) (across v.0 w.0 v.1 w.1)
        where
          v : (r : Segment) × (r ∈ A) × Along r p
          v = on_find A a.split.ordered p s

          w : (r : Segment) × (r ∈ B) × Along r p
          w = on_find B b.split.ordered p t

          equal : v.0 ≡ w.0 → T (class02 F G || class20 F G || class11 F G || bound_poi_shared F G)
          equal same =
              let e = edge_of F v.0 v.1 in
              let d = edge_of G w.0 w.1 in
              or_left (class02 F G || class20 F G || class11 F G) (bound_poi_shared F G) (class_of e.0 d.0 e.1 d.1 (e.2 ∙ same ∙ sym d.2) (decide e.0.ia) (decide d.0.ia))

          go : T (is_same_segment v.0 w.0) ⊎ T (not (is_same_segment v.0 w.0)) → (v.0 ≡ w.0) ⊎ Apart v.0 w.0 → T (class02 F G || class20 F G || class11 F G || bound_poi_shared F G)
          go (inl u) k = equal (same_segment_read v.0 w.0 u)
          go (inr u) (inl same) = equal same
          go (inr u) (inr k) =
              let e = k p h v.2 w.2 in
              let (c, i, side) = end_place_lem v.0 p e.0 in
              or_right (class02 F G || class20 F G || class11 F G) (bound_poi_shared F G)
              (end_give (λ s v. joins B s v) A v.0 v.1 c side (some_make (λ r. not (is_same_segment v.0 r) && is_end r (grid c)) w.1 (and_make (not (is_same_segment v.0 w.0)) (is_end w.0 (grid c)) u (carry c p h i (is_end w.0) (is_end_scale w.0) (end_make w.0 p e.1)))))

  pub ee : Cell true (in_exterior (Object.region A)) (in_exterior (Object.region B))
  ee = outside_both (Object.region A) (Object.region B) a.split.ordered b.split.ordered

-- ---- the other rows, seen from G

-- (1/1) is the same from both sides
class11_swap : (F G : List Edge) → class11 F G ≡ class11 G F
class11_swap F G = same_test (class11 F G) (class11 G F) (one_way F G) (one_way G F)
  where
    differ : (i j : Bool) → T (i && not j || not i && j) → T (j && not i || not j && i)
    differ true true t = t
    differ true false t = tt
    differ false true t = tt
    differ false false t = t

    one_way : (F G : List Edge) → T (class11 F G) → T (class11 G F)
    one_way F G t =
        let w = common_edge F G (λ i j. i && not j || not i && j) t in
        give_common G F (λ i j. i && not j || not i && j) w.1 w.0 w.3 w.2 (sym (same_segment_read w.0.segment w.1.segment w.4)) (differ w.0.ia w.1.ia w.5)

module _ (F G : List Edge) (f : Sound F) (g : Sound G) (across : Across (outline F) (outline G)) where
  pub ib : Cell (class12 G F || class21 G F) (in_interior (Object.region (outline F))) (in_boundary (Object.region (outline G)))
  ib = cell_swap (bi G F g f (across_swap across))

  pub eb : Cell (class01 G F || class10 G F) (in_exterior (Object.region (outline F))) (in_boundary (Object.region (outline G)))
  eb = cell_swap (be G F g f (across_swap across))

  pub ei : Cell (class01 G F || class10 G F || class11 F G || class12 F G || class21 F G) (in_exterior (Object.region (outline F))) (in_interior (Object.region (outline G)))
  ei =
      cell_swap
      (subst (λ b. Cell (class01 G F || class10 G F || b || class12 F G || class21 F G) (in_interior (Object.region (outline G))) (in_exterior (Object.region (outline F)))) (class11_swap G F)
      (ie G F g f (across_swap across)))
