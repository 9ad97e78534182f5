-- The pieces of a chain: their points are the segment's; where one has an end of the segment, it is an end of the piece; two of them share only common ends.
use mathlib.Core.Path.{◌≡◌, sym, ◌∙◌, subst}
use mathlib.Core.Logic.{◌⊎◌, inl, inr, ⊎_elim}
use mathlib.Core.Bool.{not, ◌&&◌}
use mathlib.Core.List.{List, [], ◌∷◌}
use lib.Dec.{T, T_not}
use lib.IntN.{ℤ, pos, neg_ℤ, ◌-ℤ◌, ◌*ℤ◌}
use Rattle.whole.specs.Count.{eq_z, ◌∈◌}
use Rattle.whole.proofs.Solver.{var, opp, ◌:-◌, ◌:*◌, solve}
use Rattle.whole.proofs.Sign.{Pos, NonNeg, Neg, pos_clash, pos_neg, zero_pos, neg_zero, nonneg_both}
use Rattle.whole.proofs.Logic.{and_left, and_right, in_nil, in_cons}
use Rattle.plane.specs.declared.Point.{Point}
use Rattle.plane.specs.declared.Segment.{Segment}
use Rattle.plane.specs.Plane.{HPoint, grid, before, side_at, on, is_end, turn, is_not_before, is_not_after}
use Rattle.plane.proofs.OnSegment.{Ordered, Along, along_on, not_before_read, not_after_read}
use Rattle.plane.proofs.Means.{EndOf, left_end, right_end, At, at_make}
use Rattle.plane.proofs.Touch.{at_grid}
use Rattle.plane.proofs.Scale.{on_scale}
use Rattle.plane.proofs.Grid.{on_grid}
use Rattle.plane.proofs.Machine.{is_straight}
use Rattle.plane.proofs.AlongSegment.{Apart}
use Rattle.split_pieces.specs.Pieces.{between}
use Rattle.split_pieces.proofs.TwoPieces.{ordered_up_to, ordered_from, pieces_along}
use Rattle.split_pieces.proofs.Chain.{Chain, whole, cut, inside_along, inside_inner, inside_after, inside_before}

-- ---- a segment and the order of points

module _ (t : Segment) (o : Ordered t) (z : HPoint) (w : Pos z.W) (h : Along t z) where
  -- a grid point of it comes neither before its left end nor after its right end
  in_order : (e : Point) → At e z → T (not (before e t.left)) × T (not (before t.right e))
  in_order e k = (
    and_right (is_straight (turn t.left t.right e)) (not (before e t.left)) (and_left (is_straight (turn t.left t.right e) && not (before e t.left)) (not (before t.right e)) both),
    and_right (is_straight (turn t.left t.right e) && not (before e t.left)) (not (before t.right e)) both,
  )
    where
      both : T (is_straight (turn t.left t.right e) && not (before e t.left) && not (before t.right e))
      both = subst T (on_grid t e) (subst T (at_grid (on t) (on_scale t) e z w (at_make e z k)) (along_on t z o h))

  not_before_left : T (is_not_before t.left z)
  unfolding on
  not_before_left = and_right (eq_z (side_at t z) (pos 0)) (is_not_before t.left z) (and_left (eq_z (side_at t z) (pos 0) && is_not_before t.left z) (is_not_after t.right z) (along_on t z o h))

  not_after_right : T (is_not_after t.right z)
  unfolding on
  not_after_right = and_right (eq_z (side_at t z) (pos 0) && is_not_before t.left z) (is_not_after t.right z) (along_on t z o h)

-- neither before q nor after it
pinched : (q : Point) (z : HPoint) → T (is_not_before q z) → T (is_not_after q z) → At q z
pinched q z a b = go (not_before_read q z a) (not_after_read q z b)
  where
    turned : (e c : ℤ) → neg_ℤ (c -ℤ e *ℤ z.W) ≡ e *ℤ z.W -ℤ c
    turned e c = solve (e ∷ c ∷ z.W ∷ []) (opp (var 1 :- var 0 :* var 2)) (var 0 :* var 2 :- var 1) tt

    go : Pos (z.X -ℤ q.x *ℤ z.W) ⊎ ((z.X -ℤ q.x *ℤ z.W ≡ pos 0) × NonNeg (z.Y -ℤ q.y *ℤ z.W))
        → Pos (q.x *ℤ z.W -ℤ z.X) ⊎ ((q.x *ℤ z.W -ℤ z.X ≡ pos 0) × NonNeg (q.y *ℤ z.W -ℤ z.Y)) → At q z
    go (inl h) (inl k) = pos_clash k (subst Neg (turned q.x z.X) (pos_neg h))
    go (inl h) (inr k) = zero_pos (solve (q.x ∷ z.X ∷ z.W ∷ []) (var 1 :- var 0 :* var 2) (opp (var 0 :* var 2 :- var 1)) tt ∙ neg_zero k.0) h
    go (inr h) (inl k) = zero_pos (sym (turned q.x z.X) ∙ neg_zero h.0) k
    go (inr h) (inr k) = record { at_x = h.0; at_y = nonneg_both h.1 (subst NonNeg (sym (turned q.y z.Y)) k.1) }

-- ---- the pieces

module _ {r : Point} where
  pub chain_ordered : {p : Point} {l : List Segment} → Chain r p l → (t : Segment) → t ∈ l → Ordered t
  chain_ordered (whole p o) t m = ⊎_elim (λ e. subst Ordered (sym e) o) (λ k. absurd (in_nil k)) (in_cons m)
  chain_ordered (cut p q l o i c) t m =
      ⊎_elim (λ e. subst Ordered (sym e) (ordered_up_to (between p r) o q (inside_along (between p r) q i o) (inside_inner (between p r) q i))) (λ k. chain_ordered c t k) (in_cons m)

  module _ (z : HPoint) (w : Pos z.W) where
    pub chain_along : {p : Point} {l : List Segment} → Chain r p l → (t : Segment) → t ∈ l → Along t z → Along (between p r) z
    chain_along (whole p o) t m h = ⊎_elim (λ e. subst (λ s. Along s z) e h) (λ k. absurd (in_nil k)) (in_cons m)
    chain_along (cut p q l o i c) t m h =
        ⊎_elim (λ e. pieces_along (between p r) o q (inside_along (between p r) q i o) (inside_inner (between p r) q i) z w (inl (subst (λ s. Along s z) e h)))
        (λ k. pieces_along (between p r) o q (inside_along (between p r) q i o) (inside_inner (between p r) q i) z w (inr (chain_along c t k h))) (in_cons m)

    -- an end of the segment in a piece is an end of the piece
    pub chain_end : {p : Point} {l : List Segment} → Chain r p l → (t : Segment) → t ∈ l → Along t z → EndOf (between p r) z → EndOf t z
    chain_end (whole p o) t m h e = ⊎_elim (λ q. subst (λ s. EndOf s z) (sym q) e) (λ k. absurd (in_nil k)) (in_cons m)
    chain_end (cut p q l o i c) t m h e = ⊎_elim first (λ k. rest e (chain_along c t k h) (λ f. chain_end c t k h f)) (in_cons m)
      where
        a : Along (between p r) (grid q)
        a = inside_along (between p r) q i o

        n : T (not (is_end (between p r) (grid q)))
        n = inside_inner (between p r) q i

        first : t ≡ between p q → EndOf t z
        first f = subst (λ s. EndOf s z) (sym f) (go e)
          where
            go : EndOf (between p r) z → EndOf (between p q) z
            go (left_end k) = left_end k
            go (right_end k) =
                absurd (T_not (before q r) (in_order (between p q) (ordered_up_to (between p r) o q a n) z w (subst (λ s. Along s z) f h) r k).1 (inside_before (between p r) q i o))

        rest : EndOf (between p r) z → Along (between q r) z → (EndOf (between q r) z → EndOf t z) → EndOf t z
        rest (right_end k) g f = f (right_end k)
        rest (left_end k) g f =
            absurd (T_not (before p q) (in_order (between q r) (ordered_from (between p r) o q a n) z w g p k).0 (inside_after (between p r) q i o))

  -- two pieces are equal or share only common ends
  pub chain_apart : {p : Point} {l : List Segment} → Chain r p l → (t u : Segment) → t ∈ l → u ∈ l → (t ≡ u) ⊎ Apart t u
  chain_apart (whole p o) t u m k = inl (only t m ∙ sym (only u k))
    where
      only : (x : Segment) → x ∈ (between p r ∷ []) → x ≡ between p r
      only x m = ⊎_elim (λ e. e) (λ k. absurd (in_nil k)) (in_cons m)
  chain_apart (cut p q l o i c) t u m k = go (in_cons m) (in_cons k) (λ x y. chain_apart c t u x y)
    where
      a : Along (between p r) (grid q)
      a = inside_along (between p r) q i o

      n : T (not (is_end (between p r) (grid q)))
      n = inside_inner (between p r) q i

      -- the first piece and a later one meet at the cut
      meet : (x y : Segment) → x ≡ between p q → y ∈ l → (z : HPoint) → Pos z.W → Along x z → Along y z → EndOf x z × EndOf y z
      meet x y e m z w h g = (subst (λ s. EndOf s z) (sym e) (right_end at), chain_end z w c y m g (left_end at))
        where
          at : At q z
          at =
              pinched q z (not_before_left (between q r) (ordered_from (between p r) o q a n) z w (chain_along z w c y m g))
              (not_after_right (between p q) (ordered_up_to (between p r) o q a n) z w (subst (λ s. Along s z) e h))

      go : (t ≡ between p q) ⊎ (t ∈ l) → (u ≡ between p q) ⊎ (u ∈ l) → (t ∈ l → u ∈ l → (t ≡ u) ⊎ Apart t u) → (t ≡ u) ⊎ Apart t u
      go (inl e) (inl f) rest = inl (e ∙ sym f)
      go (inl e) (inr m) rest = inr (λ z w h g. meet t u e m z w h g)
      go (inr m) (inl f) rest = inr (λ z w h g. let b = meet u t f m z w g h in (b.1, b.0))
      go (inr m) (inr k) rest = rest m k
