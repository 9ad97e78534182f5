-- 15: where each segment of either list is cut at the ends of the other's that lie strictly inside it and where one of the other's crosses it, and nowhere
-- else, no piece of one list touches an unequal piece of the other.
use Prim.Native.Nat.{ℕ, zero, suc}
use mathlib.Core.Path.{◌≡◌, refl, sym, ap, ap₂, ◌∙◌, subst}
use mathlib.Core.Logic.{◌⊎◌, inl, inr, ⊎_elim}
use mathlib.Core.Bool.{Bool, true, false, not, cond, true≢false}
use mathlib.Core.List.{List, [], ◌∷◌}
use lib.Dec.{T, T_not, not_T}
use lib.IntN.{ℤ, pos, ◌+ℤ◌, ◌-ℤ◌, ◌*ℤ◌}
use lib.ListN.{length}
use Rattle.whole.specs.Count.{◌∈◌}
use Rattle.whole.proofs.Solver.{var, con, opp, ◌:+◌, ◌:-◌, ◌:*◌, solve}
use Rattle.whole.proofs.Sign.{Pos, zero_pos, zero_neg, neg_pos, pos_mul, mul_zero_right, mul_zero_left, cancel_zero, cancel_zero_right, neg_zero, one_pos}
use Rattle.whole.proofs.Logic.{and_make, refute, true_is, in_nil, in_cons}
use Rattle.whole.proofs.Counted.{count_length}
use Rattle.plane.specs.declared.Point.{Point}
use Rattle.plane.specs.declared.Segment.{Segment}
use Rattle.plane.specs.Plane.{HPoint, grid, fractions, before, side_at, on, is_end, end_within, cross, touch, is_same_point, is_at, SharePoint}
use Rattle.plane.proofs.OnSegment.{Ordered, Along, right_of_left, above_left, on_line, on_along, along_on}
use Rattle.plane.proofs.Means.{EndOf, left_end, right_end, At, at_make, end_read, end_make}
use Rattle.plane.proofs.Equal.{same_point_read, same_point_refl}
use Rattle.plane.proofs.Grid.{at_grid as at_grid_same}
use Rattle.plane.proofs.Meeting.{between_swap}
use Rattle.plane.proofs.Scale.{on_scale, is_end_scale, side_at_scale, fractions_pos}
use Rattle.plane.proofs.Touch.{Opposite, falls, rises, Balance, tipped, level, balance, side_at_mean, cross_make, cross_read, EndWithin, touch_read, touch_sound, at_grid, inner_weights, first_between, at_multiple}
use Rattle.plane.proofs.Accepted.{Split}
use Rattle.split_pieces.specs.Pieces.{between, next_cut, pieces_from, pieces, split_all, EndPoint}
use Rattle.split_pieces.proofs.TwoPieces.{side_up_to, side_from}
use Rattle.split_pieces.proofs.Chain.{Chain, whole, cut, inside_inner, inside_along, next_member, pieces_exact}
use Rattle.split_pieces.proofs.CommonEnds.{chain_ordered}
use Rattle.split_pieces.proofs.Unchanged.{AllInside, AllOrdered, chain_of, split_member, piece_along, piece_end}

-- ---- segments that cross have one common point

module _ (s t : Segment) (across : Opposite (side_at t (grid s.left)) (side_at t (grid s.right))) (c : Point) (z : HPoint)
    (hc : Along s (grid c)) (hz : Along s z) (on_c : side_at t (grid c) ≡ pos 0) (on_z : side_at t z ≡ pos 0) where
  A : ℤ
  A = side_at t (grid s.left)

  B : ℤ
  B = side_at t (grid s.right)

  -- the weights are in one ratio
  mean_c : hc.a *ℤ A +ℤ hc.b *ℤ B ≡ pos 0
  unfolding A B
  mean_c = sym (side_at_mean t hc) ∙ mul_zero_right hc.k on_c

  mean_z : hz.a *ℤ A +ℤ hz.b *ℤ B ≡ pos 0
  unfolding A B
  mean_z = sym (side_at_mean t hz) ∙ mul_zero_right hz.k on_z

  abbrev D : ℤ
  D = hc.a *ℤ hz.b -ℤ hc.b *ℤ hz.a

  times_a : D *ℤ A ≡ pos 0
  times_a =
      solve (hc.a ∷ hc.b ∷ hz.a ∷ hz.b ∷ A ∷ B ∷ []) ((var 0 :* var 3 :- var 1 :* var 2) :* var 4) (var 3 :* (var 0 :* var 4 :+ var 1 :* var 5) :- var 1 :* (var 2 :* var 4 :+ var 3 :* var 5)) tt
      ∙ ap₂ (λ m n. hz.b *ℤ m -ℤ hc.b *ℤ n) mean_c mean_z ∙ solve (hz.b ∷ hc.b ∷ []) (var 0 :* con (pos 0) :- var 1 :* con (pos 0)) (con (pos 0)) tt

  ratio : D ≡ pos 0
  unfolding A B
  ratio = go across
    where
      go : Opposite (side_at t (grid s.left)) (side_at t (grid s.right)) → D ≡ pos 0
      go (falls h k) = cancel_zero_right h times_a
      go (rises h k) =
          cancel_zero_right (neg_pos h) (solve (D ∷ A ∷ []) (var 0 :* opp (var 1)) (opp (var 0 :* var 1)) tt ∙ neg_zero times_a)

  -- so one coordinate of z is c's
  coordinate : (x l r v : ℤ) → hz.k *ℤ (x -ℤ l *ℤ z.W) ≡ hz.b *ℤ (r -ℤ l) → hc.k *ℤ (v -ℤ l *ℤ pos 1) ≡ hc.b *ℤ (r -ℤ l) → x -ℤ v *ℤ z.W ≡ pos 0
  coordinate x l r v e f =
      cancel_zero (pos_mul hz.k_pos hc.k_pos)
      (solve (hz.k ∷ hc.k ∷ x ∷ l ∷ v ∷ z.W ∷ []) (var 0 :* var 1 :* (var 2 :- var 4 :* var 5)) (var 1 :* (var 0 :* (var 2 :- var 3 :* var 5)) :- var 1 :* (var 4 :- var 3 :* con (pos 1)) :* (var 0 :* var 5)) tt
      ∙ ap₂ (λ m n. hc.k *ℤ m -ℤ n *ℤ (hz.k *ℤ z.W)) e f
      ∙ ap₂ (λ m n. m *ℤ (hz.b *ℤ (r -ℤ l)) -ℤ hc.b *ℤ (r -ℤ l) *ℤ n) whole_c whole_z
      ∙ solve (hc.a ∷ hc.b ∷ hz.a ∷ hz.b ∷ r ∷ l ∷ []) ((var 0 :* con (pos 1) :+ var 1 :* con (pos 1)) :* (var 3 :* (var 4 :- var 5)) :- var 1 :* (var 4 :- var 5) :* (var 2 :* con (pos 1) :+ var 3 :* con (pos 1))) ((var 0 :* var 3 :- var 1 :* var 2) :* (var 4 :- var 5)) tt
      ∙ mul_zero_left (r -ℤ l) ratio)
    where
      whole_z : hz.k *ℤ z.W ≡ hz.a *ℤ pos 1 +ℤ hz.b *ℤ pos 1
      whole_z = ap (λ p. p.W) hz.mean

      whole_c : hc.k ≡ hc.a *ℤ pos 1 +ℤ hc.b *ℤ pos 1
      whole_c = solve (hc.k ∷ []) (var 0) (var 0 :* con (pos 1)) tt ∙ ap (λ p. p.W) hc.mean

  pub one_point : At c z
  one_point = record {
    at_x = coordinate z.X s.left.x s.right.x c.x (right_of_left s z hz) (right_of_left s (grid c) hc);
    at_y = coordinate z.Y s.left.y s.right.y c.y (above_left s z hz) (above_left s (grid c) hc);
  }

-- ---- pieces: their lines, and their ends

chain_line : {r p : Point} {l : List Segment} (z : HPoint) → Chain r p l → (t : Segment) → t ∈ l → side_at (between p r) z ≡ pos 0 → side_at t z ≡ pos 0
chain_line z (whole p o) t m e = ⊎_elim (λ q. subst (λ x. side_at x z ≡ pos 0) (sym q) e) (λ k. absurd (in_nil k)) (in_cons m)
chain_line {r} z (cut p q l o i c) t m e =
    ⊎_elim (λ f. subst (λ x. side_at x z ≡ pos 0) (sym f) (cancel_zero h.k_pos (side_up_to (between p r) o q h n z ∙ mul_zero_right h.b e)))
    (λ k. chain_line z c t k (cancel_zero h.k_pos (side_from (between p r) o q h n z ∙ mul_zero_right h.a e))) (in_cons m)
  where
    h : Along (between p r) (grid q)
    h = inside_along (between p r) q i o

    n : T (not (is_end (between p r) (grid q)))
    n = inside_inner (between p r) q i

-- an end of a piece is an end of the segment or a cut
pub pieces_ends : (n : ℕ) (cuts : List Point) (p r : Point) (t : Segment) → t ∈ pieces_from n cuts p r
    → ((t.left ≡ p) ⊎ (t.left ∈ cuts)) × ((t.right ≡ r) ⊎ (t.right ∈ cuts))
pieces_ends zero cuts p r t m = ⊎_elim (λ e. (inl (ap (λ s. s.left) e), inl (ap (λ s. s.right) e))) (λ k. absurd (in_nil k)) (in_cons m)
pieces_ends (suc n) cuts p r t m = go (is_same_point (next_cut cuts p r) r) refl (λ k. pieces_ends n cuts (next_cut cuts p r) r t k) m
  where
    next : (next_cut cuts p r ≡ r) ⊎ (next_cut cuts p r ∈ cuts)
    next = next_member p cuts r

    go : (b : Bool) → is_same_point (next_cut cuts p r) r ≡ b → (t ∈ pieces_from n cuts (next_cut cuts p r) r → ((t.left ≡ next_cut cuts p r) ⊎ (t.left ∈ cuts)) × ((t.right ≡ r) ⊎ (t.right ∈ cuts)))
        → t ∈ cond b (between p r ∷ []) (between p (next_cut cuts p r) ∷ pieces_from n cuts (next_cut cuts p r) r)
        → ((t.left ≡ p) ⊎ (t.left ∈ cuts)) × ((t.right ≡ r) ⊎ (t.right ∈ cuts))
    go true q rest m = ⊎_elim (λ e. (inl (ap (λ s. s.left) e), inl (ap (λ s. s.right) e))) (λ k. absurd (in_nil k)) (in_cons m)
    go false q rest m = ⊎_elim first later (in_cons m)
      where
        first : t ≡ between p (next_cut cuts p r) → ((t.left ≡ p) ⊎ (t.left ∈ cuts)) × ((t.right ≡ r) ⊎ (t.right ∈ cuts))
        first e = (inl (ap (λ s. s.left) e), ⊎_elim (λ k. inl (ap (λ s. s.right) e ∙ k)) (λ k. inr (subst (λ x. x ∈ cuts) (sym (ap (λ s. s.right) e)) k)) next)

        later : t ∈ pieces_from n cuts (next_cut cuts p r) r → ((t.left ≡ p) ⊎ (t.left ∈ cuts)) × ((t.right ≡ r) ⊎ (t.right ∈ cuts))
        later k = (⊎_elim (λ e. ⊎_elim (λ f. start e f) (λ m. inr (subst (λ x. x ∈ cuts) (sym e) m)) next) inr (rest k).0, (rest k).1)
          where
            start : t.left ≡ next_cut cuts p r → next_cut cuts p r ≡ r → (t.left ≡ p) ⊎ (t.left ∈ cuts)
            start e f = absurd (true≢false (sym (true_is (is_same_point (next_cut cuts p r) r) (subst (λ x. T (is_same_point (next_cut cuts p r) x)) f (same_point_refl (next_cut cuts p r)))) ∙ q))

-- ---- the cuts of one list by another

pub record CutBy (F G : List Segment) (cuts : Segment → List Point) : Type 0 where
  pub within : AllInside cuts F
  -- an end of the other's strictly inside is a cut
  pub ends : (s g : Segment) → s ∈ F → g ∈ G → (e : Point) → EndPoint g e → T (end_within s e) → e ∈ cuts s
  -- so is where one crosses: then there is a grid point there
  pub crossings : (s g : Segment) → s ∈ F → g ∈ G → T (cross s g) → (c : Point) × (c ∈ cuts s) × T (on g (grid c))
  -- and there is no other
  pub only : (s : Segment) → s ∈ F → (c : Point) → c ∈ cuts s → (g : Segment) × (g ∈ G) × (EndPoint g c ⊎ (T (cross s g) × T (on g (grid c))))

pub cross_swap : (s g : Segment) → T (cross s g) → T (cross g s)
cross_swap s g x = let r = cross_read s g x in cross_make g s r.1 r.0

-- a grid point is where it is
pub at_itself : (e : Point) → At e (grid e)
at_itself e = record { at_x = solve (e.x ∷ []) (var 0 :- var 0 :* con (pos 1)) (con (pos 0)) tt; at_y = solve (e.y ∷ []) (var 0 :- var 0 :* con (pos 1)) (con (pos 0)) tt }

-- an end, as a point
pub end_of : (g : Segment) (e : Point) → EndPoint g e → T (is_end g (grid e))
end_of g e (inl f) = end_make g (grid e) (left_end (subst (λ x. At x (grid e)) f (at_itself e)))
end_of g e (inr f) = end_make g (grid e) (right_end (subst (λ x. At x (grid e)) f (at_itself e)))

pub end_on_it : (g : Segment) → Ordered g → (e : Point) → EndPoint g e → Along g (grid e)
end_on_it g o e (inl f) = subst (λ x. Along g (grid x)) (sym f) (first_between (grid g.left) (grid g.right))
end_on_it g o e (inr f) = subst (λ x. Along g (grid x)) (sym f) (between_swap (first_between (grid g.right) (grid g.left)))

-- two equal grid points
pub at_same : (c e : Point) → At c (grid e) → c ≡ e
at_same c e k = same_point_read c e (subst T (at_grid_same c e) (at_make c (grid e) k))

module _ (F G : List Segment) (cf cg : Segment → List Point) (by_f : CutBy F G cf) (by_g : CutBy G F cg) (split : Split F) (ord_g : AllOrdered G) where
  ord_f : AllOrdered F
  ord_f = split.ordered

  -- no cut of s is strictly inside a piece of it
  exact : (s a : Segment) → s ∈ F → a ∈ pieces cf s → (c : Point) → c ∈ cf s → T (end_within a c) → ⊥
  exact s a m k c n u =
      pieces_exact (length (cf s)) (cf s) s.left s.right (ord_f s m) (λ d w x y. by_f.within s m d w) (count_length (before s.left) (cf s)) a k c n u

  piece_ordered : (s a : Segment) → s ∈ F → a ∈ pieces cf s → Ordered a
  piece_ordered s a m k = chain_ordered (chain_of cf s (ord_f s m) (by_f.within s m)) a k

  -- what is strictly inside a piece is strictly inside the segment
  inside_whole : (s a : Segment) → s ∈ F → a ∈ pieces cf s → (e : Point) → T (end_within a e) → T (end_within s e)
  unfolding end_within
  inside_whole s a m k e u =
      and_make (on s (grid e)) (not (is_end s (grid e))) (along_on s (grid e) (ord_f s m) (piece_along cf F ord_f by_f.within s m a k (grid e) (one_pos 0) on_a))
      (not_T (is_end s (grid e)) (λ x. T_not (is_end a (grid e)) (inside_inner a e u) (end_make a (grid e) (piece_end cf F ord_f by_f.within s m a k (grid e) (one_pos 0) on_a (end_read s (grid e) x)))))
    where
      on_a : Along a (grid e)
      on_a = inside_along a e u (piece_ordered s a m k)

  -- a grid point on two crossing segments is a cut of the first
  crossing_cut : (s g : Segment) → s ∈ F → g ∈ G → T (cross s g) → (z : HPoint) → Along s z → Along g z → (c : Point) × (c ∈ cf s) × At c z
  crossing_cut s g m n x z hs hg = (
    w.0,
    w.1,
    one_point s g (cross_read s g x).1 w.0 z (inside_along s w.0 (by_f.within s m w.0 w.1) (ord_f s m)) hs
        (on_line g (grid w.0) (on_along g (grid w.0) (ord_g g n) w.2)) (on_line g z hg),
  )
    where
      w : (c : Point) × (c ∈ cf s) × T (on g (grid c))
      w = by_f.crossings s g m n x

  -- an end of a piece of g is not strictly inside a piece of s
  end_not_inside : (s a g b : Segment) → s ∈ F → a ∈ pieces cf s → g ∈ G → b ∈ pieces cg g → (e : Point) → EndPoint b e → T (end_within a e) → ⊥
  end_not_inside s a g b m k n j e at u = go at
    where
      in_s : T (end_within s e)
      in_s = inside_whole s a m k e u

      of_g : EndPoint g e → ⊥
      of_g x = exact s a m k e (by_f.ends s g m n e x in_s) u

      of_cut : e ∈ cg g → ⊥
      of_cut x = by (by_g.only g n e x)
        where
          on_s : Along s (grid e)
          on_s = inside_along s e in_s (ord_f s m)

          not_end : EndOf s (grid e) → ⊥
          not_end y = T_not (is_end s (grid e)) (inside_inner s e in_s) (end_make s (grid e) y)

          by : (f : Segment) × (f ∈ F) × (EndPoint f e ⊎ (T (cross g f) × T (on f (grid e)))) → ⊥
          by w = ⊎_elim same (λ a. not_end (a (grid e) (one_pos 0) on_s on_f).0) (split.apart s w.0 m w.1)
            where
              on_f : Along w.0 (grid e)
              on_f = ⊎_elim (end_on_it w.0 (ord_f w.0 w.1) e) (λ y. on_along w.0 (grid e) (ord_f w.0 w.1) y.1) w.2

              same : s ≡ w.0 → ⊥
              same q = ⊎_elim (λ y. not_end (end_read s (grid e) (subst (λ f. T (is_end f (grid e))) (sym q) (end_of w.0 e y)))) crossed w.2
                where
                  crossed : T (cross g w.0) × T (on w.0 (grid e)) → ⊥
                  crossed y =
                      let c = crossing_cut s g m n (cross_swap g s (subst (λ f. T (cross g f)) (sym q) y.0)) (grid e) on_s (inside_along g e (by_g.within g n e x) (ord_g g n)) in
                      exact s a m k e (subst (λ d. d ∈ cf s) (at_same c.0 e c.2) c.1) u

      ends : ((b.left ≡ g.left) ⊎ (b.left ∈ cg g)) × ((b.right ≡ g.right) ⊎ (b.right ∈ cg g))
      ends = pieces_ends (length (cg g)) (cg g) g.left g.right b j

      go : EndPoint b e → ⊥
      go (inl f) = ⊎_elim (λ x. of_g (inl (f ∙ x))) (λ x. of_cut (subst (λ d. d ∈ cg g) (sym f) x)) ends.0
      go (inr f) = ⊎_elim (λ x. of_g (inr (f ∙ x))) (λ x. of_cut (subst (λ d. d ∈ cg g) (sym f) x)) ends.1

-- ---- pieces do not cross

-- at an end of a, b's line is not met, where b is across a
pub off_ends : (a b : Segment) → Opposite (side_at b (grid a.left)) (side_at b (grid a.right)) → (z : HPoint) → Pos z.W → side_at b z ≡ pos 0 → EndOf a z → ⊥
off_ends a b x z w e y = go x y
  where
    at_end : (v : Point) → At v z → side_at b (grid v) ≡ pos 0
    at_end v k = cancel_zero w (sym (side_at_scale b z.W (grid v)) ∙ ap (side_at b) (sym (at_multiple v z (at_make v z k))) ∙ e)

    go : Opposite (side_at b (grid a.left)) (side_at b (grid a.right)) → EndOf a z → ⊥
    go (falls h k) (left_end v) = zero_pos (at_end a.left v) h
    go (falls h k) (right_end v) = zero_neg (at_end a.right v) k
    go (rises h k) (left_end v) = zero_neg (at_end a.left v) h
    go (rises h k) (right_end v) = zero_pos (at_end a.right v) k

module _ (F G : List Segment) (cf cg : Segment → List Point) (by_f : CutBy F G cf) (by_g : CutBy G F cg) (split_f : Split F) (split_g : Split G) where
  -- s is across the line of g where a piece of s and a piece of g cross at z
  across_whole : (s a g b : Segment) → s ∈ F → a ∈ pieces cf s → g ∈ G → b ∈ pieces cg g → Opposite (side_at b (grid a.left)) (side_at b (grid a.right))
      → (z : HPoint) → Pos z.W → Along a z → Along b z → Opposite (side_at g (grid s.left)) (side_at g (grid s.right))
  across_whole s a g b m k n j x z w ha hb = go (balance weights.0 weights.1 (sym (side_at_mean g hs) ∙ mul_zero_right hs.k (on_line g z hg)))
    where
      hs : Along s z
      hs = piece_along cf F split_f.ordered by_f.within s m a k z w ha

      hg : Along g z
      hg = piece_along cg G split_g.ordered by_g.within g n b j z w hb

      weights : Pos hs.a × Pos hs.b
      weights =
          inner_weights s z hs (not_T (is_end s z) (λ y. off_ends a b x z w (on_line b z hb) (piece_end cf F split_f.ordered by_f.within s m a k z w ha (end_read s z y))))

      -- else the left end of a would be on the line of b
      left_on_s : Along s (grid a.left)
      left_on_s = piece_along cf F split_f.ordered by_f.within s m a k (grid a.left) (one_pos 0) (first_between (grid a.left) (grid a.right))

      go : Balance (side_at g (grid s.left)) (side_at g (grid s.right)) → Opposite (side_at g (grid s.left)) (side_at g (grid s.right))
      go (tipped y) = y
      go (level e f) = absurd (off_ends a b x (grid a.left) (one_pos 0) (chain_line (grid a.left) (chain_of cg g (split_g.ordered g n) (by_g.within g n)) b j flat) (left_end (at_itself a.left)))
        where
          flat : side_at g (grid a.left) ≡ pos 0
          flat =
              cancel_zero left_on_s.k_pos
              (side_at_mean g left_on_s ∙ ap₂ (λ u v. left_on_s.a *ℤ u +ℤ left_on_s.b *ℤ v) e f ∙ solve (left_on_s.a ∷ left_on_s.b ∷ []) (var 0 :* con (pos 0) :+ var 1 :* con (pos 0)) (con (pos 0)) tt)

module _ (F G : List Segment) (cf cg : Segment → List Point) (by_f : CutBy F G cf) (by_g : CutBy G F cg) (split_f : Split F) (split_g : Split G) where
  cross_not : (s a g b : Segment) → s ∈ F → a ∈ pieces cf s → g ∈ G → b ∈ pieces cg g → T (cross a b) → T (touch a b) → ⊥
  unfolding end_within
  cross_not s a g b m k n j x t =
      exact F G cf cg by_f by_g split_f split_g.ordered s a m k c.0 c.1
      (and_make (on a (grid c.0)) (not (is_end a (grid c.0))) (subst T (at_grid (on a) (on_scale a) c.0 z w at_c) (along_on a z oa ha))
      (not_T (is_end a (grid c.0)) (λ y. off_ends a b (cross_read a b x).1 z w (on_line b z hb) (end_read a z (subst T (sym (at_grid (is_end a) (is_end_scale a) c.0 z w at_c)) y)))))
    where
      oa : Ordered a
      oa = chain_ordered (chain_of cf s (split_f.ordered s m) (by_f.within s m)) a k

      ob : Ordered b
      ob = chain_ordered (chain_of cg g (split_g.ordered g n) (by_g.within g n)) b j

      shared : SharePoint a b
      shared = touch_sound a b oa ob t

      z : HPoint
      z = fractions shared.shared

      w : Pos z.W
      w = fractions_pos shared.shared

      ha : Along a z
      ha = on_along a z oa shared.on_one

      hb : Along b z
      hb = on_along b z ob shared.on_other

      crossed : T (cross s g)
      crossed =
          cross_make s g (across_whole G F cg cf by_g by_f split_g split_f g b s a n j m k (cross_read a b x).0 z w hb ha)
          (across_whole F G cf cg by_f by_g split_f split_g s a g b m k n j (cross_read a b x).1 z w ha hb)

      c : (c : Point) × (c ∈ cf s) × At c z
      c =
          crossing_cut F G cf cg by_f by_g split_f split_g.ordered s g m n crossed z (piece_along cf F split_f.ordered by_f.within s m a k z w ha)
          (piece_along cg G split_g.ordered by_g.within g n b j z w hb)

      at_c : T (is_at c.0 z)
      at_c = at_make c.0 z c.2

  -- 15 finds nothing
  pub pieces_apart : (a b : Segment) → a ∈ split_all cf F → b ∈ split_all cg G → touch a b ≡ false
  pieces_apart a b m k = refute (touch a b) (λ t. go t (touch_read a b t))
    where
      x : (s : Segment) × (s ∈ F) × (a ∈ pieces cf s)
      x = split_member cf F a m

      y : (g : Segment) × (g ∈ G) × (b ∈ pieces cg g)
      y = split_member cg G b k

      go : T (touch a b) → T (cross a b) ⊎ (EndWithin a b ⊎ EndWithin b a) → ⊥
      go t (inl c) = cross_not x.0 a y.0 b x.1 x.2 y.1 y.2 c t
      go t (inr (inl e)) =
          ⊎_elim (end_not_inside F G cf cg by_f by_g split_f split_g.ordered x.0 a y.0 b x.1 x.2 y.1 y.2 b.left (inl refl))
          (end_not_inside F G cf cg by_f by_g split_f split_g.ordered x.0 a y.0 b x.1 x.2 y.1 y.2 b.right (inr refl)) e
      go t (inr (inr e)) =
          ⊎_elim (end_not_inside G F cg cf by_g by_f split_g split_f.ordered y.0 b x.0 a y.1 y.2 x.1 x.2 a.left (inl refl))
          (end_not_inside G F cg cf by_g by_f split_g split_f.ordered y.0 b x.0 a y.1 y.2 x.1 x.2 a.right (inr refl)) e
