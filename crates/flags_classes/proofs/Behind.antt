-- Where the walk over the left halfsegments of two objects stands: what it has passed of either object comes before all that is left of the other. So the
-- next segment is one of the other's only where the next of the other is the same, and its class is decided.
use Prim.Native.Nat.{ℕ, ◌+◌, ◌<◌, ◌≤◌}
use native.Mathlib.Nat.{eq-or-lt_of_le}
use native.Mathlib.Decide.{dec_lt}
use native.Mathlib.Omega.{arith}
use mathlib.Core.Path.{◌≡◌, refl, sym, ap, subst, subst₂, ◌∙◌}
use mathlib.Core.Logic.{⊎_elim}
use mathlib.Core.Bool.{Bool, true, false, not, ◌&&◌, ◌||◌, true≢false}
use mathlib.Core.List.{List, [], ◌∷◌, map}
use lib.Dec.{T, eqb}
use Rattle.whole.proofs.Logic.{and_left, and_right, and_make, or_cases, or_left, or_right, is_true, true_is, refute, same_test, some_find, some_make, in_map, map_in}
use Rattle.plane.specs.declared.Segment.{Segment}
use Rattle.plane.specs.Plane.{is_same_segment, ordered, comes_before}
use Rattle.plane.proofs.Equal.{same_segment_read, same_segment_refl}
use Rattle.plane.proofs.Order.{LeftBefore, half_of, comes_irreflexive, comes_trans}
use Rattle.scene.specs.declared.Layout.{Layout}
use Rattle.scene.specs.Conditions.{elements, keep, has_segments, half, ia, left_test, segments}
use Rattle.scene_segments.proofs.Indices.{element_in, in_element, keep_in, in_keep, halves_rise}
use Rattle.check_verdict.proofs.Laws.{SoundObject, left_in, in_left, all_ordered}
use Rattle.flags.specs.Flags.{Edge, outline, has_segment, pack}
use Rattle.flags.specs.Elements.{edge_of, edges, same_ia, same_edge, has_edge}
use Rattle.flags.proofs.Elements.{outline_edges}
use Rattle.flags_classes.specs.Classed.{above_outside_test, below_outside_test, above_inside_test, below_inside_test, both_above_test, both_below_test, opposite}
use Rattle.flags_classes.specs.Marked.{unshared_marks, shared_marks}
use Rattle.flags_classes.specs.Walked.{NoneLeft}
use Rattle.flags_classes.proofs.Merging.{left_has}

-- ---- the order

pub unequal : {t u : Segment} → LeftBefore t u → t ≡ u → ⊥
unequal {t} {u} b e = comes_irreflexive (half_of true u) (subst (λ (t : Segment). LeftBefore t u) e b)

-- t comes before what is left of an object from the element j on
abbrev pub Ahead : List ℕ → Layout → ℕ → Segment → Type 0
Ahead s l j t = (m : ℕ) → j ≤ m → m < l.count → left_test s l m ≡ true → LeftBefore t (half s l m).segment

-- and so does all that is passed of own, up to the element i
abbrev pub Behind : List ℕ → Layout → Layout → ℕ → ℕ → Type 0
Behind s own other i j = (k : ℕ) → k < i → left_test s own k ≡ true → Ahead s other j (half s own k).segment

module _ (s : List ℕ) (own other : Layout) where
  module _ {i j : ℕ} (q : Behind s own other i j) where
    -- over right halfsegments of either
    pub behind_passed : {a b : ℕ} → NoneLeft s own i a → j ≤ b → Behind s own other a b
    behind_passed n h k l e m r = go (dec_lt k i)
      where
        go : Dec (k < i) → m < other.count → left_test s other m ≡ true → LeftBefore (half s own k).segment (half s other m).segment
        go (yes d) = q k d e m (omega arith)
        go (no d) = absurd (true≢false (sym e ∙ n k (omega arith) l))

    pub behind_one : Ahead s other j (half s own i).segment → Behind s own other (i + 1) j
    behind_one a k l e = ⊎_elim (λ d. subst (λ (k : ℕ). Ahead s other j (half s own k).segment) (sym d) a) (λ d. q k d e) (eq-or-lt_of_le (omega arith))

module _ {s : List ℕ} {l : Layout} (o : SoundObject s l) where
  lefts_rise : (i j : ℕ) → i < j → j < l.count → left_test s l i ≡ true → left_test s l j ≡ true → LeftBefore (half s l i).segment (half s l j).segment
  lefts_rise i j h k e f =
      subst₂ (λ (a b : Bool). T (comes_before (half_of a (half s l i).segment) (half_of b (half s l j).segment))) (is_left_lem i e) (is_left_lem j f)
      (halves_rise s l o.read o.order (true_is (has_segments l.shape) (left_has s l i e)) i j h k)
    where
      is_left_lem : (i : ℕ) → left_test s l i ≡ true → (half s l i).is_left ≡ true
      is_left_lem i e = true_is (half s l i).is_left (and_right (has_segments l.shape) (half s l i).is_left (is_true (left_test s l i) e))

  pub left_ordered : (i : ℕ) → i < l.count → left_test s l i ≡ true → T (ordered (half s l i).segment)
  left_ordered i h e = all_ordered o (half s l i).segment (left_in o i h e)

  -- the first that is left decides
  module _ (t : Segment) {j : ℕ} where
    pub ahead_none : l.count ≤ j → Ahead s l j t
    ahead_none h m k n = absurd (omega arith)

    module _ (h : j < l.count) (e : left_test s l j ≡ true) where
      pub ahead_first : T (ordered t) → LeftBefore t (half s l j).segment → Ahead s l j t
      ahead_first p b m k n f = ⊎_elim (λ d. subst (λ (m : ℕ). LeftBefore t (half s l m).segment) d b) later (eq-or-lt_of_le k)
        where
          later : j < m → LeftBefore t (half s l m).segment
          later d =
              comes_trans (half_of true t) (half_of true (half s l j).segment) (half_of true (half s l m).segment) p (left_ordered j h e) (left_ordered m n f) b
              (lefts_rise j m d n e f)

      pub ahead_same : t ≡ (half s l j).segment → Ahead s l (j + 1) t
      ahead_same q m k n f = subst (λ (t : Segment). LeftBefore t (half s l m).segment) (sym q) (lefts_rise j m (omega arith) n e f)

  -- no two have the same segment
  only_one : (i j : ℕ) → i < l.count → j < l.count → left_test s l i ≡ true → left_test s l j ≡ true → (half s l i).segment ≡ (half s l j).segment → i ≡ j
  only_one i j h k e f q = go (dec_lt i j) (dec_lt j i)
    where
      go : Dec (i < j) → Dec (j < i) → i ≡ j
      go (yes d) w = absurd (unequal (lefts_rise i j d k e f) q)
      go (no d) (yes w) = absurd (unequal (lefts_rise j i w h f e) (sym q))
      go (no d) (no w) = omega arith

-- ---- the class of the next segment

-- the tests of the element i, in the order of the marks; a right halfsegment has no class
abbrev pub tests_at : List ℕ → (own other : Layout) (note : ℕ → ℕ) → ℕ → List Bool
tests_at s own other note i =
    map (λ t. left_test s own i && t i)
    (above_outside_test s own other note
    ∷ below_outside_test s own other note
    ∷ above_inside_test s own other note
    ∷ below_inside_test s own other note
    ∷ both_above_test s own other
    ∷ both_below_test s own other
    ∷ opposite s own other
    ∷ [])

-- an edge of a region is one of its segments
pub edge_segment : (R : List Edge) (t : Segment) (above : Bool) → T (has_edge R t above) → T (has_segment (outline R) t)
edge_segment [] t above h = h
edge_segment (e ∷ R) t above h =
    ⊎_elim (λ q. or_left (is_same_segment t e.segment) (has_segment (outline R) t) (and_left (is_same_segment t e.segment) (same_ia above e.ia) q))
    (λ q. or_right (is_same_segment t e.segment) (has_segment (outline R) t) (edge_segment R t above q))
    (or_cases (same_edge t above e) (has_edge R t above) h)

module _ (s : List ℕ) (own other : Layout) (p : SoundObject s other) {i : ℕ} (h : i < own.count) (e : left_test s own i ≡ true) where
  abbrev t : Segment
  t = (half s own i).segment

  -- none of the other's is the same
  module _ {j : ℕ} (q : Behind s other own j i) (a : Ahead s other j t) where
    pub unshared : has_segment (segments s other) t ≡ false
    unshared = refute (has_segment (segments s other) t) λ r.
        let w = some_find (is_same_segment t) (segments s other) r in
        let k = in_left p w.1 in
        none k.0 k.1 k.2 (same_segment_read t w.0 w.2 ∙ sym k.3)
      where
        none : (m : ℕ) → m < other.count → left_test s other m ≡ true → t ≡ (half s other m).segment → ⊥
        none m k f d = go (dec_lt m j)
          where
            go : Dec (m < j) → ⊥
            go (yes w) = unequal (q m w f i (omega arith) h e) (sym d)
            go (no w) = unequal (a m (omega arith) k f) d

  module _ (alone : has_segment (segments s other) t ≡ false) where
    no_edge : (above : Bool) → has_edge (edges s other) t above ≡ false
    no_edge above =
        refute (has_edge (edges s other) t above)
        (λ r. true≢false (sym (true_is (has_segment (outline (edges s other)) t) (edge_segment (edges s other) t above r)) ∙ ap (λ (l : List Segment). has_segment l t) (outline_edges s other) ∙ alone))

    pub marks_unshared : (note : ℕ → ℕ) → unshared_marks (ia s own i) (note i) ≡ pack (tests_at s own other note i)
    marks_unshared note = sym (rw (e, alone, no_edge true, no_edge false) (go (ia s own i)))
      where
        go : (above : Bool)
            → pack ((above && eqb (note i) 0) ∷ (not above && eqb (note i) 0) ∷ (above && not (eqb (note i) 0)) ∷ (not above && not (eqb (note i) 0)) ∷ (above && false) ∷ (not above && false) ∷ (above && false || not above && false) ∷ [])
            ≡ unshared_marks above (note i)
        go true = refl
        go false = refl

  -- or the next of them is
  module _ {j : ℕ} (k : j < other.count) (f : left_test s other j ≡ true) (d : t ≡ (half s other j).segment) where
    pub shared : has_segment (segments s other) t ≡ true
    shared =
        true_is (has_segment (segments s other) t) (some_make (is_same_segment t) (left_in p j k f) (subst (λ (u : Segment). T (is_same_segment t u)) d (same_segment_refl t)))

    pub edge_is : (above : Bool) → has_edge (edges s other) t above ≡ same_ia above (ia s other j)
    unfolding edges
    edge_is above = same_test (has_edge (edges s other) t above) (same_ia above (ia s other j)) to from
      where
        to : T (has_edge (edges s other) t above) → T (same_ia above (ia s other j))
        to r =
            let w = some_find (same_edge t above) (edges s other) r in
            let x = map_in (edge_of s other) (keep (left_test s other) (elements other)) w.1 in
            let y = keep_in (left_test s other) (elements other) x.1 in
            let z = subst (λ (u : Edge). T (same_edge t above u)) (sym x.2) w.2 in
            let is-j = only_one p x.0 j (in_element other x.0 y.0) k y.1 f (sym (same_segment_read t (half s other x.0).segment (and_left (is_same_segment t (half s other x.0).segment) (same_ia above (ia s other x.0)) z)) ∙ d) in
            subst (λ (m : ℕ). T (same_ia above (ia s other m))) is-j (and_right (is_same_segment t (half s other x.0).segment) (same_ia above (ia s other x.0)) z)

        from : T (same_ia above (ia s other j)) → T (has_edge (edges s other) t above)
        from r =
            some_make (same_edge t above) (in_map (edge_of s other) (in_keep (left_test s other) (element_in other j k) f))
            (and_make (is_same_segment t (half s other j).segment) (same_ia above (ia s other j)) (subst (λ (u : Segment). T (is_same_segment t u)) d (same_segment_refl t)) r)

    pub marks_shared : (note : ℕ → ℕ) → shared_marks (ia s own i) (ia s other j) ≡ pack (tests_at s own other note i)
    marks_shared note = sym (rw (e, shared, edge_is true, edge_is false) (go (ia s own i)))
      where
        go : (above : Bool)
            → pack ((above && false) ∷ (not above && false) ∷ (above && false) ∷ (not above && false) ∷ (above && ia s other j) ∷ (not above && not (ia s other j)) ∷ (above && not (ia s other j) || not above && ia s other j) ∷ [])
            ≡ shared_marks above (ia s other j)
        go true = refl
        go false = refl
