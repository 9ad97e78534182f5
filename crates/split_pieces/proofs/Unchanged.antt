-- All segments of a list, each in its pieces: points, counts below, even ends and the shoelace sum are those of the list; the pieces share only common
-- ends; and the interior is above a piece where it is above its segment.
use Prim.Native.Nat.{◌+◌}
use mathlib.Core.Path.{◌≡◌, refl, sym, ap, ap₂, ◌∙◌, subst}
use mathlib.Core.Logic.{◌⊎◌, inl, inr, ⊎_elim}
use mathlib.Core.Bool.{Bool, true, false, not, ◌&&◌, ◌||◌}
use mathlib.Core.List.{List, [], ◌∷◌}
use lib.Dec.{T}
use lib.ListN.{length}
use Rattle.whole.specs.Count.{odd, some, count, ◌∈◌, here, there}
use Rattle.whole.proofs.Sign.{Pos, one_pos}
use Rattle.whole.proofs.Logic.{true_is, false_is, refute, decide, in_nil, in_cons, in_append}
use Rattle.whole.proofs.Counted.{count_append, some_append}
use Rattle.whole.proofs.Parity.{◌⊻◌, xor_false, parity, parity_cons, parity_nil, parity_append, parity_same, parity_none, odd_count, or_xor}
use Rattle.plane.specs.declared.Point.{Point}
use Rattle.plane.specs.declared.Segment.{Segment}
use Rattle.plane.specs.Plane.{HPoint, midpoint, before, is_same_point, is_same_segment, on, is_on_some, inside, is_at, is_end, ends_at, end_within, counts_below, interior_above}
use Rattle.plane.proofs.OnSegment.{Ordered, Along}
use Rattle.plane.proofs.Means.{EndOf, middle, middle_inner}
use Rattle.plane.proofs.Equal.{same_point_read, same_segment_read, same_segment_refl}
use Rattle.plane.proofs.Order.{ends_differ, before_irreflexive, before_trans}
use Rattle.plane.proofs.Scale.{is_at_scale}
use Rattle.plane.proofs.Grid.{at_grid as grid_same}
use Rattle.plane.proofs.Touch.{at_grid}
use Rattle.plane.proofs.Path.{Even}
use Rattle.plane.proofs.AlongSegment.{Apart, along_segment}
use Rattle.plane.proofs.Accepted.{Across, Split, Regular, interior_above_lem}
use Rattle.split_pieces.specs.Pieces.{between, pieces, split_all}
use Rattle.split_pieces.proofs.Chain.{Chain, whole, cut, Additive, chain_count, chain_some, below_additive, pieces_chain, NotPast, inside_after}
use Rattle.split_pieces.proofs.CommonEnds.{chain_ordered, chain_along, chain_end, chain_apart}

-- ---- segments

same : (s t : Segment) → s ≡ t → is_same_segment s t ≡ true
same s t e = true_is (is_same_segment s t) (subst (λ x. T (is_same_segment s x)) e (same_segment_refl s))

-- a point is not at both ends
one_end : (s : Segment) → Ordered s → (z : HPoint) → Pos z.W → is_end s z ≡ is_at s.left z ⊻ is_at s.right z
unfolding is_end
one_end s o z w =
    or_xor (is_at s.left z) (is_at s.right z)
    (λ h k. ends_differ o (same_point_read s.left s.right (subst T (grid_same s.left s.right) (subst T (at_grid (is_at s.left) (is_at_scale s.left) s.right z w k) h))))

-- ---- chains

-- the left end of a piece is the segment's or after it
pub chain_from : {r p : Point} {l : List Segment} → Chain r p l → (t : Segment) → t ∈ l → NotPast p t.left
chain_from (whole p o) t m = ⊎_elim (λ e. inl (sym (ap (λ s. s.left) e))) (λ k. absurd (in_nil k)) (in_cons m)
chain_from {r} (cut p q l o i c) t m = ⊎_elim (λ e. inl (sym (ap (λ s. s.left) e))) (λ k. inr (after (chain_from c t k))) (in_cons m)
  where
    after : NotPast q t.left → T (before p t.left)
    after (inl e) = subst (λ x. T (before p x)) e (inside_after (between p r) q i o)
    after (inr h) = before_trans p q t.left (inside_after (between p r) q i o) h

-- ---- the cuts of each segment are inside it

abbrev pub AllInside : (Segment → List Point) → List Segment → Type 0
AllInside cuts l = (s : Segment) → s ∈ l → (c : Point) → c ∈ cuts s → T (end_within s c)

abbrev pub AllOrdered : List Segment → Type 0
AllOrdered l = (s : Segment) → s ∈ l → Ordered s

module _ (cuts : Segment → List Point) where
  pub chain_of : (s : Segment) → Ordered s → ((c : Point) → c ∈ cuts s → T (end_within s c)) → Chain s.right s.left (pieces cuts s)
  chain_of s o f = pieces_chain (length (cuts s)) (cuts s) s.left s.right o (λ c m h k. f c m)

  pub split_member : (l : List Segment) (t : Segment) → t ∈ split_all cuts l → (s : Segment) × (s ∈ l) × (t ∈ pieces cuts s)
  split_member [] t m = absurd (in_nil m)
  split_member (s ∷ l) t m =
      ⊎_elim (λ k. (s, here, k)) (λ k. let w = split_member l t k in (w.0, there w.1, w.2)) (in_append (pieces cuts s) m)

  -- what adds up over two pieces is counted as before
  split_count : (f : Segment → Bool) → Additive f → (l : List Segment) → AllOrdered l → AllInside cuts l → count f (split_all cuts l) ≡ count f l
  split_count f add [] o i = refl
  split_count f add (s ∷ l) o i =
      count_append f (pieces cuts s) (split_all cuts l)
      ∙ ap₂ (λ m n. m + n) (chain_count f add (chain_of s (o s here) (i s here))) (split_count f add l (λ t m. o t (there m)) (λ t m. i t (there m)))

  module _ (z : HPoint) (w : Pos z.W) where
    pub split_some : (l : List Segment) → AllOrdered l → AllInside cuts l → some (λ s. on s z) (split_all cuts l) ≡ some (λ s. on s z) l
    split_some [] o i = refl
    split_some (s ∷ l) o i =
        some_append (λ s. on s z) (pieces cuts s) (split_all cuts l)
        ∙ ap₂ (λ a b. a || b) (chain_some z w (chain_of s (o s here) (i s here))) (split_some l (λ t m. o t (there m)) (λ t m. i t (there m)))

    split_below : (l : List Segment) → AllOrdered l → AllInside cuts l → count (counts_below z) (split_all cuts l) ≡ count (counts_below z) l
    split_below l o i = split_count (counts_below z) (below_additive z w) l o i

    -- a region's interior does not alter
    pub split_inside : (l : List Segment) → AllOrdered l → AllInside cuts l → inside (split_all cuts l) z ≡ inside l z
    unfolding inside is_on_some
    split_inside l o i = ap₂ (λ a n. not a && odd n) (split_some l o i) (split_below l o i)

  -- ---- parities: of a test whose parity over a segment's pieces is another test of the segment
  split_parity : (f g : Segment → Bool) (l : List Segment) → ((s : Segment) → s ∈ l → parity f (pieces cuts s) ≡ g s) → parity f (split_all cuts l) ≡ parity g l
  split_parity f g [] h = parity_nil f ∙ sym (parity_nil g)
  split_parity f g (s ∷ l) h =
      parity_append f (pieces cuts s) (split_all cuts l) ∙ ap₂ (λ a b. a ⊻ b) (h s here) (split_parity f g l (λ t m. h t (there m))) ∙ sym (parity_cons g s l)

  -- ends: what holds at an inner end holds at two pieces' ends
  abbrev at_ends : (Point → Bool) → Segment → Bool
  at_ends f s = f s.left ⊻ f s.right

  chain_ends : {r p : Point} {l : List Segment} (f : Point → Bool) → Chain r p l → parity (at_ends f) l ≡ at_ends f (between p r)
  chain_ends {r} f (whole p o) = parity_cons (at_ends f) (between p r) [] ∙ ap (λ b. at_ends f (between p r) ⊻ b) (parity_nil (at_ends f)) ∙ xor_false (at_ends f (between p r))
  chain_ends {r} f (cut p q l o t c) =
      parity_cons (at_ends f) (between p q) l ∙ ap (λ b. at_ends f (between p q) ⊻ b) (chain_ends f c) ∙ through (f p) (f q) (f r)
    where
      through : (a b c : Bool) → (a ⊻ b) ⊻ (b ⊻ c) ≡ a ⊻ c
      through true true c = refl
      through true false c = refl
      through false true true = refl
      through false true false = refl
      through false false c = refl

  split_ends : (f : Point → Bool) (l : List Segment) → AllOrdered l → AllInside cuts l → parity (at_ends f) (split_all cuts l) ≡ parity (at_ends f) l
  split_ends f l o i = split_parity (at_ends f) (at_ends f) l (λ s m. chain_ends f (chain_of s (o s m) (i s m)))

  -- 13: the ends of the pieces are even where those of the segments are
  pub split_even : (l : List Segment) → AllOrdered l → AllInside cuts l → Even l → Even (split_all cuts l)
  split_even l o i even v = split_ends (λ p. is_same_point p v) l o i ∙ even v

  -- ---- common ends only

  module _ (l : List Segment) (o : AllOrdered l) (i : AllInside cuts l) where
    split_ordered : AllOrdered (split_all cuts l)
    split_ordered t m = let w = split_member l t m in chain_ordered (chain_of w.0 (o w.0 w.1) (i w.0 w.1)) t w.2

    module _ (s : Segment) (m : s ∈ l) (t : Segment) (k : t ∈ pieces cuts s) (z : HPoint) (w : Pos z.W) (h : Along t z) where
      pub piece_along : Along s z
      piece_along = chain_along z w (chain_of s (o s m) (i s m)) t k h

      pub piece_end : EndOf s z → EndOf t z
      piece_end e = chain_end z w (chain_of s (o s m) (i s m)) t k h e

    split_apart : Across l l → Across (split_all cuts l) (split_all cuts l)
    split_apart across t u m k = go (across x.0 y.0 x.1 y.1)
      where
        x : (s : Segment) × (s ∈ l) × (t ∈ pieces cuts s)
        x = split_member l t m

        y : (s : Segment) × (s ∈ l) × (u ∈ pieces cuts s)
        y = split_member l u k

        go : (x.0 ≡ y.0) ⊎ Apart x.0 y.0 → (t ≡ u) ⊎ Apart t u
        go (inl e) = chain_apart (chain_of x.0 (o x.0 x.1) (i x.0 x.1)) t u x.2 (subst (λ s. u ∈ pieces cuts s) (sym e) y.2)
        go (inr a) = inr (λ z w h g. let b = a z w (piece_along x.0 x.1 t x.2 z w h) (piece_along y.0 y.1 u y.2 z w g) in
            (piece_end x.0 x.1 t x.2 z w h b.0, piece_end y.0 y.1 u y.2 z w g b.1))

    -- a line's boundary does not alter
    pub split_boundary : (z : HPoint) → Pos z.W → odd (ends_at (split_all cuts l) z) ≡ odd (ends_at l z)
    unfolding ends_at
    split_boundary z w =
        odd_count (λ s. is_end s z) (split_all cuts l)
        ∙ parity_same (λ s. is_end s z) (at_ends (λ p. is_at p z)) (split_all cuts l) (λ s m. one_end s (split_ordered s m) z w)
        ∙ split_ends (λ p. is_at p z) l o i
        ∙ sym (odd_count (λ s. is_end s z) l ∙ parity_same (λ s. is_end s z) (at_ends (λ p. is_at p z)) l (λ s m. one_end s (o s m) z w))

  -- ---- 10 and 12

  -- a piece occurs once among the pieces of its segment
  chain_once : {r p : Point} {l : List Segment} → Chain r p l → (t : Segment) → t ∈ l → parity (is_same_segment t) l ≡ true
  chain_once {r} (whole p o) t m =
      parity_cons (is_same_segment t) (between p r) []
      ∙ ap₂ (λ a b. a ⊻ b) (⊎_elim (same t (between p r)) (λ k. absurd (in_nil k)) (in_cons m)) (parity_nil (is_same_segment t))
  chain_once {r} (cut p q l o i c) t m = parity_cons (is_same_segment t) (between p q) l ∙ ⊎_elim first (λ k. later k (chain_once c t k)) (in_cons m)
    where
      -- a later piece begins at q or after it
      begins : (u : Segment) → u ∈ l → T (before p u.left)
      begins u k = go (chain_from c u k)
        where
          go : NotPast q u.left → T (before p u.left)
          go (inl e) = subst (λ x. T (before p x)) e (inside_after (between p r) q i o)
          go (inr h) = before_trans p q u.left (inside_after (between p r) q i o) h

      other : (u : Segment) → u ∈ l → (x : Segment) → x.left ≡ p → x ≡ u → ⊥
      other u k x e f = before_irreflexive p (subst (λ y. T (before p y)) (sym (ap (λ s. s.left) f) ∙ e) (begins u k))

      first : t ≡ between p q → is_same_segment t (between p q) ⊻ parity (is_same_segment t) l ≡ true
      first e =
          ap₂ (λ a b. a ⊻ b) (same t (between p q) e)
          (parity_none (is_same_segment t) l (λ u k. refute (is_same_segment t u) (λ h. other u k t (ap (λ s. s.left) e) (same_segment_read t u h))))

      later : t ∈ l → parity (is_same_segment t) l ≡ true → is_same_segment t (between p q) ⊻ parity (is_same_segment t) l ≡ true
      later k e =
          ap₂ (λ a b. a ⊻ b) (refute (is_same_segment t (between p q)) (λ h. other t k (between p q) refl (sym (same_segment_read t (between p q) h)))) e

  -- what the pieces of a list share, and how often each occurs
  pub split_split : (l : List Segment) → AllInside cuts l → Split l → Split (split_all cuts l)
  split_split l i split =
      record { ordered = split_ordered l o i; apart = split_apart l o i split.apart; once = once }
    where
      o : AllOrdered l
      o = split.ordered

      once : (t : Segment) → t ∈ split_all cuts l → parity (is_same_segment t) (split_all cuts l) ≡ true
      once t m = split_parity (is_same_segment t) (is_same_segment w.0) l at ∙ split.once w.0 w.1
        where
          w : (s : Segment) × (s ∈ l) × (t ∈ pieces cuts s)
          w = split_member l t m

          -- two segments that share only common ends have no common piece
          apart : (s : Segment) → s ∈ l → Apart w.0 s → (u : Segment) → u ∈ pieces cuts s → t ≡ u → ⊥
          apart s k a u n e =
              middle_inner t (split_ordered l o i t m)
              (piece_end l o i w.0 w.1 t w.2 (midpoint t) (one_pos 1) (middle t)
              (a (midpoint t) (one_pos 1) (piece_along l o i w.0 w.1 t w.2 (midpoint t) (one_pos 1) (middle t))
              (piece_along l o i s k t (subst (λ x. x ∈ pieces cuts s) (sym e) n) (midpoint t) (one_pos 1) (middle t))).0)

          at : (s : Segment) → s ∈ l → parity (is_same_segment t) (pieces cuts s) ≡ is_same_segment w.0 s
          at s k = ⊎_elim equal different (split.apart w.0 s w.1 k)
            where
              equal : w.0 ≡ s → parity (is_same_segment t) (pieces cuts s) ≡ is_same_segment w.0 s
              equal e =
                  chain_once (chain_of s (o s k) (i s k)) t (subst (λ x. t ∈ pieces cuts x) e w.2) ∙ sym (same w.0 s e)

              different : Apart w.0 s → parity (is_same_segment t) (pieces cuts s) ≡ is_same_segment w.0 s
              different a = ⊎_elim (λ h. equal (same_segment_read w.0 s h)) unequal (decide (is_same_segment w.0 s))
                where
                  unequal : T (not (is_same_segment w.0 s)) → parity (is_same_segment t) (pieces cuts s) ≡ is_same_segment w.0 s
                  unequal h =
                      parity_none (is_same_segment t) (pieces cuts s) (λ u n. refute (is_same_segment t u) (λ q. apart s k a u n (same_segment_read t u q)))
                      ∙ sym (false_is (is_same_segment w.0 s) h)

  -- ---- 14: the interior is above a piece where it is above its segment

  module _ (l : List Segment) (reg : Regular l) (i : AllInside cuts l) (P : List Segment) (same : (f : Segment → Bool) → count f P ≡ count f (split_all cuts l)) (reg_p : Regular P) where
    pub split_interior : (s t : Segment) → s ∈ l → t ∈ pieces cuts s → t ∈ P → interior_above P t ≡ interior_above l s
    split_interior s t m k n =
        interior_above_lem P reg_p t n ∙ ap not (counted ∙ along) ∙ sym (interior_above_lem l reg s m)
      where
        o : AllOrdered l
        o = reg.split.ordered

        t_ordered : Ordered t
        t_ordered = chain_ordered (chain_of s (o s m) (i s m)) t k

        counted : parity (counts_below (midpoint t)) P ≡ parity (counts_below (midpoint t)) l
        counted =
            sym (odd_count (counts_below (midpoint t)) P) ∙ ap odd (same (counts_below (midpoint t)) ∙ split_below (midpoint t) (one_pos 1) l o i)
            ∙ odd_count (counts_below (midpoint t)) l

        on_s : Along s (midpoint t)
        on_s = piece_along l o i s m t k (midpoint t) (one_pos 1) (middle t)

        not_end : EndOf s (midpoint t) → ⊥
        not_end e = middle_inner t t_ordered (piece_end l o i s m t k (midpoint t) (one_pos 1) (middle t) e)

        along : parity (counts_below (midpoint t)) l ≡ parity (counts_below (midpoint s)) l
        along =
            along_segment s (o s m) (midpoint t) (one_pos 1) on_s l reg.even o
            (λ u k. ⊎_elim inl (λ a. inr ((λ g. not_end (a (midpoint t) (one_pos 1) on_s g).0), a)) (reg.split.apart s u m k))
