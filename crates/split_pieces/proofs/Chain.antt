-- A chain of pieces from p to r: what adds up over two pieces adds up over all; the pieces by "the next cut" are a chain, and no cut lies inside one.
use Prim.Native.Nat.{ℕ, zero, suc, ◌+◌, ◌≤◌}
use native.Mathlib.Omega.{arith}
use mathlib.Core.Path.{◌≡◌, refl, sym, ap, ◌∙◌, subst}
use mathlib.Core.Logic.{◌⊎◌, inl, inr, ⊎_elim}
use mathlib.Core.Bool.{Bool, true, false, not, ◌&&◌, ◌||◌, cond, true≢false, or-false}
use mathlib.Core.List.{List, [], ◌∷◌}
use lib.Dec.{T, T_not, not_T}
use lib.IntN.{pos, ◌+ℤ◌}
use Rattle.whole.specs.Count.{bit, some, count, total, ◌∈◌, here, there}
use Rattle.whole.proofs.Solver.{var, con, ◌:+◌, solve}
use Rattle.whole.proofs.Sign.{Pos, one_pos}
use Rattle.whole.proofs.Logic.{and_left, and_right, and_make, or_cases, is_true, true_is, refute, in_nil, in_cons}
use Rattle.whole.proofs.Counted.{count_fewer, none_of_count}
use Rattle.plane.specs.declared.Point.{Point}
use Rattle.plane.specs.declared.Segment.{Segment}
use Rattle.plane.specs.Plane.{HPoint, grid, before, is_same_point, ordered, on, is_at, is_end, end_within, turn, counts_below}
use Rattle.plane.specs.Shoelace.{shoelace}
use Rattle.plane.proofs.OnSegment.{Ordered, Along, along_on, on_along}
use Rattle.plane.proofs.Order.{ordered_make, before_irreflexive, before_trans}
use Rattle.plane.proofs.Equal.{same_point_read, same_point_refl}
use Rattle.plane.proofs.Grid.{at_grid, on_grid}
use Rattle.plane.proofs.Machine.{is_straight}
use Rattle.split_pieces.specs.Pieces.{between, up_to, from, next_cut, pieces_from}
use Rattle.split_pieces.proofs.TwoPieces.{ordered_up_to, ordered_from, counts_add, along_pieces, on_pieces, terms_add}

-- ---- a point strictly inside

module _ (s : Segment) (q : Point) (t : T (end_within s q)) where
  pub inside_on : T (on s (grid q))
  unfolding end_within
  inside_on = and_left (on s (grid q)) (not (is_end s (grid q))) t

  pub inside_inner : T (not (is_end s (grid q)))
  unfolding end_within
  inside_inner = and_right (on s (grid q)) (not (is_end s (grid q))) t

  module _ (o : Ordered s) where
    pub inside_along : Along s (grid q)
    inside_along = on_along s (grid q) o inside_on

    pub inside_after : T (before s.left q)
    unfolding ordered
    inside_after = ordered_make (up_to s q) (ordered_up_to s o q inside_along inside_inner)

    pub inside_before : T (before q s.right)
    unfolding ordered
    inside_before = ordered_make (from s q) (ordered_from s o q inside_along inside_inner)

-- ---- chains

pub data Chain (r : Point) : Point → List Segment → Type 0 where
  whole : (p : Point) → Ordered (between p r) → Chain r p (between p r ∷ [])
  cut : (p q : Point) (l : List Segment) → Ordered (between p r) → T (end_within (between p r) q) → Chain r q l → Chain r p (between p q ∷ l)

-- what adds up over two pieces
abbrev pub Additive : (Segment → Bool) → Type 0
Additive f = (s : Segment) → Ordered s → (q : Point) → T (end_within s q) → bit (f s) ≡ bit (f (up_to s q)) + bit (f (from s q))

pub chain_count : {r p : Point} {l : List Segment} (f : Segment → Bool) → Additive f → Chain r p l → count f l ≡ bit (f (between p r))
chain_count f add (whole p o) = omega arith
chain_count {r} f add (cut p q l o t c) = ap (λ n. bit (f (between p q)) + n) (chain_count f add c) ∙ sym (add (between p r) o q t)

pub chain_some : {r p : Point} {l : List Segment} (z : HPoint) → Pos z.W → Chain r p l → some (λ s. on s z) l ≡ on (between p r) z
chain_some {r} z w (whole p o) = or-false (on (between p r) z)
chain_some {r} z w (cut p q l o t c) =
    ap (λ b. on (between p q) z || b) (chain_some z w c)
    ∙ sym (on_pieces (between p r) o q (inside_along (between p r) q t o) (inside_inner (between p r) q t) z w)

pub chain_shoelace : {r p : Point} {l : List Segment} → Chain r p l → total shoelace l ≡ shoelace (between p r)
chain_shoelace {r} (whole p o) = solve (shoelace (between p r) ∷ []) (var 0 :+ con (pos 0)) (var 0) tt
chain_shoelace {r} (cut p q l o t c) =
    ap (λ n. shoelace (between p q) +ℤ n) (chain_shoelace c)
    ∙ sym (terms_add (between p r) o q (inside_along (between p r) q t o) (inside_inner (between p r) q t))

module _ (z : HPoint) (w : Pos z.W) where
  pub below_additive : Additive (counts_below z)
  below_additive s o q t = counts_add s o q (inside_along s q t o) (inside_inner s q t) z w

-- ---- the next cut

abbrev pub NotPast : Point → Point → Type 0
NotPast q r = (q ≡ r) ⊎ T (before q r)

not_past_trans : (p q r : Point) → NotPast p q → NotPast q r → NotPast p r
not_past_trans p q r (inl e) k = subst (λ x. NotPast x r) (sym e) k
not_past_trans p q r (inr h) (inl e) = inr (subst (λ x. T (before p x)) e h)
not_past_trans p q r (inr h) (inr k) = inr (before_trans p q r h k)

module _ (p : Point) where
  -- one step of the search
  abbrev closer : Point → Point → Point
  closer c r = cond (before p c && before c r) c r

  closer_not_past : (c r : Point) → NotPast (closer c r) r
  closer_not_past c r = go (before p c && before c r) refl
    where
      go : (b : Bool) → before p c && before c r ≡ b → NotPast (cond b c r) r
      go true e = inr (and_right (before p c) (before c r) (is_true (before p c && before c r) e))
      go false e = inl refl

  pub next_not_past : (cuts : List Point) (r : Point) → NotPast (next_cut cuts p r) r
  next_not_past [] r = inl refl
  next_not_past (c ∷ cuts) r = not_past_trans (next_cut cuts p (closer c r)) (closer c r) r (next_not_past cuts (closer c r)) (closer_not_past c r)

  pub next_after : (cuts : List Point) (r : Point) → T (before p r) → T (before p (next_cut cuts p r))
  next_after [] r h = h
  next_after (c ∷ cuts) r h = next_after cuts (closer c r) (go (before p c && before c r) refl)
    where
      go : (b : Bool) → before p c && before c r ≡ b → T (before p (cond b c r))
      go true e = and_left (before p c) (before c r) (is_true (before p c && before c r) e)
      go false e = h

  pub next_member : (cuts : List Point) (r : Point) → (next_cut cuts p r ≡ r) ⊎ (next_cut cuts p r ∈ cuts)
  next_member [] r = inl refl
  next_member (c ∷ cuts) r = go (before p c && before c r) (next_member cuts (closer c r))
    where
      go : (b : Bool) → (next_cut cuts p (cond b c r) ≡ cond b c r) ⊎ (next_cut cuts p (cond b c r) ∈ cuts)
          → (next_cut cuts p (cond b c r) ≡ r) ⊎ (next_cut cuts p (cond b c r) ∈ (c ∷ cuts))
      go b (inr m) = inr (there m)
      go true (inl e) = inr (subst (λ x. x ∈ (c ∷ cuts)) (sym e) here)
      go false (inl e) = inl e

  -- no cut lies between p and the next one
  pub next_least : (cuts : List Point) (r c : Point) → c ∈ cuts → T (before p c) → T (before c (next_cut cuts p r)) → ⊥
  next_least [] r c m h k = elim m [ ]
  next_least (d ∷ cuts) r c m h k = go (before p d && before d r) refl (in_cons m) (λ m'. next_least cuts (closer d r) c m' h k) k
    where
      go : (b : Bool) → before p d && before d r ≡ b → (c ≡ d) ⊎ (c ∈ cuts) → (c ∈ cuts → ⊥) → T (before c (next_cut cuts p (cond b d r))) → ⊥
      go b e (inr m') f k = f m'
      go true e (inl q) g k = ⊎_elim (λ f. before_irreflexive c (subst (λ x. T (before c x)) (f ∙ sym q) k)) (λ f. before_irreflexive c (before_trans c (next_cut cuts p d) c k (subst (λ x. T (before (next_cut cuts p d) x)) (sym q) f))) (next_not_past cuts d)
      go false e (inl q) g k = true≢false (sym (true_is (before p d && before d r) (and_make (before p d) (before d r) (subst (λ x. T (before p x)) q h) (subst (λ x. T (before x r)) q last))) ∙ e)
        where
          last : T (before c r)
          last = ⊎_elim (λ f. subst (λ x. T (before c x)) f k) (λ f. before_trans c (next_cut cuts p r) r k f) (next_not_past cuts r)

-- ---- the pieces are a chain

-- what is inside s and after a cut of it is inside the second piece
rest_inside : (s : Segment) → Ordered s → (q c : Point) → T (end_within s q) → T (end_within s c) → T (before q c) → T (end_within (from s q) c)
unfolding end_within is_end
rest_inside s o q c t u h =
    and_make (on (from s q) (grid c)) (not (is_end (from s q) (grid c)))
    (⊎_elim (λ g. absurd (not_first g)) (λ g. along_on (from s q) (grid c) (ordered_from s o q a n) g) (along_pieces s o q a n (grid c) (one_pos 0) (inside_along s c u o)))
    (not_T (is_end (from s q) (grid c)) (λ e. ⊎_elim at_cut at_end (or_cases (is_at q (grid c)) (is_at s.right (grid c)) e)))
  where
    a : Along s (grid q)
    a = inside_along s q t o

    n : T (not (is_end s (grid q)))
    n = inside_inner s q t

    not_first : Along (up_to s q) (grid c) → ⊥
    not_first g = T_not (before q c) (and_right (is_straight (turn s.left q c) && not (before c s.left)) (not (before q c)) (subst T (on_grid (up_to s q) c) (along_on (up_to s q) (grid c) (ordered_up_to s o q a n) g))) h

    same : (e : Point) → T (is_at e (grid c)) → e ≡ c
    same e k = same_point_read e c (subst T (at_grid e c) k)

    at_cut : T (is_at q (grid c)) → ⊥
    at_cut k = before_irreflexive c (subst (λ x. T (before x c)) (same q k) h)

    at_end : T (is_at s.right (grid c)) → ⊥
    at_end k = before_irreflexive c (subst (λ x. T (before c x)) (same s.right k) (inside_before s c u o))

abbrev pub Inside : List Point → Point → Point → Type 0
Inside cuts p r = (c : Point) → c ∈ cuts → T (before p c) → T (before c r) → T (end_within (between p r) c)

-- one piece, where the next cut is not the end
module _ (cuts : List Point) (p r : Point) (o : Ordered (between p r)) (f : Inside cuts p r) (e : is_same_point (next_cut cuts p r) r ≡ false) where
  differ : next_cut cuts p r ≡ r → ⊥
  differ k = true≢false (sym (true_is (is_same_point (next_cut cuts p r) r) (subst (λ x. T (is_same_point (next_cut cuts p r) x)) k (same_point_refl (next_cut cuts p r)))) ∙ e)

  is_cut : next_cut cuts p r ∈ cuts
  is_cut = ⊎_elim (λ k. absurd (differ k)) (λ m. m) (next_member p cuts r)

  after : T (before p (next_cut cuts p r))
  unfolding ordered
  after = next_after p cuts r (ordered_make (between p r) o)

  at : T (end_within (between p r) (next_cut cuts p r))
  at = f (next_cut cuts p r) is_cut after (⊎_elim (λ k. absurd (differ k)) (λ k. k) (next_not_past p cuts r))

  along : Along (between p r) (grid (next_cut cuts p r))
  along = inside_along (between p r) (next_cut cuts p r) at o

  inner : T (not (is_end (between p r) (grid (next_cut cuts p r))))
  inner = inside_inner (between p r) (next_cut cuts p r) at

  further : Inside cuts (next_cut cuts p r) r
  further c m h k = rest_inside (between p r) o (next_cut cuts p r) c at (f c m (before_trans p (next_cut cuts p r) c after h) k) h

  first_piece : Ordered (between p (next_cut cuts p r))
  first_piece = ordered_up_to (between p r) o (next_cut cuts p r) along inner

  rest_ordered : Ordered (between (next_cut cuts p r) r)
  rest_ordered = ordered_from (between p r) o (next_cut cuts p r) along inner

pub pieces_chain : (n : ℕ) (cuts : List Point) (p r : Point) → Ordered (between p r) → Inside cuts p r → Chain r p (pieces_from n cuts p r)
pieces_chain zero cuts p r o f = whole p o
pieces_chain (suc n) cuts p r o f = go (is_same_point (next_cut cuts p r) r) refl (λ u g. pieces_chain n cuts (next_cut cuts p r) r u g)
  where
    go : (b : Bool) → is_same_point (next_cut cuts p r) r ≡ b → (Ordered (between (next_cut cuts p r) r) → Inside cuts (next_cut cuts p r) r → Chain r (next_cut cuts p r) (pieces_from n cuts (next_cut cuts p r) r))
        → Chain r p (cond b (between p r ∷ []) (between p (next_cut cuts p r) ∷ pieces_from n cuts (next_cut cuts p r) r))
    go true e rest = whole p o
    go false e rest =
        cut p (next_cut cuts p r) (pieces_from n cuts (next_cut cuts p r) r) o (at cuts p r o f e) (rest (rest_ordered cuts p r o f e) (further cuts p r o f e))

-- ---- no cut lies inside a piece

pub pieces_exact : (n : ℕ) (cuts : List Point) (p r : Point) → Ordered (between p r) → Inside cuts p r → count (before p) cuts ≤ n
    → (t : Segment) → t ∈ pieces_from n cuts p r → (c : Point) → c ∈ cuts → T (end_within t c) → ⊥
pieces_exact zero cuts p r o f h t m c k u = ⊎_elim (λ e. none_of_count (before p) cuts h c k (inside_after (between p r) c (subst (λ x. T (end_within x c)) e u) o)) (λ w. absurd (in_nil w)) (in_cons m)
pieces_exact (suc n) cuts p r o f h t m c k u =
    go (is_same_point (next_cut cuts p r) r) refl (λ v g less w. pieces_exact n cuts (next_cut cuts p r) r v g less t w c k u) m
  where
    -- a cut inside a piece from p would come before the next one
    none : (q : Point) → Ordered (between p q) → NotPast q (next_cut cuts p r) → t ≡ between p q → ⊥
    none q v past e = next_least p cuts r c k (inside_after (between p q) c w v) (⊎_elim (λ x. subst (λ y. T (before c y)) x (inside_before (between p q) c w v)) (λ x. before_trans c q (next_cut cuts p r) (inside_before (between p q) c w v) x) past)
      where
        w : T (end_within (between p q) c)
        w = subst (λ x. T (end_within x c)) e u

    go : (b : Bool) → is_same_point (next_cut cuts p r) r ≡ b
        → (Ordered (between (next_cut cuts p r) r) → Inside cuts (next_cut cuts p r) r → count (before (next_cut cuts p r)) cuts ≤ n → t ∈ pieces_from n cuts (next_cut cuts p r) r → ⊥)
        → t ∈ cond b (between p r ∷ []) (between p (next_cut cuts p r) ∷ pieces_from n cuts (next_cut cuts p r) r) → ⊥
    go true e rest m = ⊎_elim (none r o (inl (sym (same_point_read (next_cut cuts p r) r (is_true (is_same_point (next_cut cuts p r) r) e))))) (λ w. absurd (in_nil w)) (in_cons m)
    go false e rest m = ⊎_elim (none (next_cut cuts p r) (first_piece cuts p r o f e) (inl refl)) (rest (rest_ordered cuts p r o f e) (further cuts p r o f e) less) (in_cons m)
      where
        less : count (before (next_cut cuts p r)) cuts ≤ n
        less = omega (arith, h, count_fewer (before (next_cut cuts p r)) (before p) cuts (λ d w. before_trans p (next_cut cuts p r) d (after cuts p r o f e) w) (next_cut cuts p r) (is_cut cuts p r o f e) (after cuts p r o f e) (refute (before (next_cut cuts p r) (next_cut cuts p r)) (before_irreflexive (next_cut cuts p r))))
