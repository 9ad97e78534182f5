-- A segment that is cut at a point strictly inside it: side values of the pieces are positive multiples of its own, so counts below and terms add up,
-- and a point is on the segment exactly if it is on one of the pieces.
use mathlib.Core.Path.{◌≡◌, refl, sym, ap, ap₂, ◌∙◌, subst}
use mathlib.Core.Logic.{◌⊎◌, inl, inr, ⊎_elim}
use mathlib.Core.Bool.{Bool, true, false, not, ◌&&◌, ◌||◌}
use mathlib.Core.List.{List, [], ◌∷◌}
use Prim.Native.Nat.{◌+◌}
use lib.Dec.{T}
use native.Mathlib.Omega.{arith}
use Rattle.whole.proofs.Balance.{neg_P, neg_N}
use lib.IntN.{ℤ, pos, neg_ℤ, ◌+ℤ◌, ◌-ℤ◌, ◌*ℤ◌}
use Rattle.whole.specs.Count.{bit}
use Rattle.whole.proofs.Solver.{var, con, opp, ◌:+◌, ◌:-◌, ◌:*◌, solve}
use Rattle.whole.proofs.Sign.{Pos, NonNeg, NonPos, Half, at_least_lem, under, half, pos_nonneg, neg_pos, pos_add_nonneg, nonneg_add, nonneg_mul, pos_mul, cancel_pos, cancel_zero, mul_zero_right}
use Rattle.whole.proofs.Logic.{is_true, same_test, or_cases, or_left, or_right}
use Rattle.plane.specs.declared.Point.{Point}
use Rattle.plane.specs.declared.Segment.{Segment}
use Rattle.plane.specs.Plane.{HPoint, grid, side_at, on, is_end, counts_below}
use Rattle.plane.specs.Shoelace.{shoelace}
use Rattle.plane.proofs.Homogeneous.{triple_eq}
use Rattle.plane.proofs.OnSegment.{Ordered, slanting, upright, width, Along, right_of_left, above_left, left_of_right, below_right, on_line, along_on, on_along}
use Rattle.plane.proofs.Means.{between_compose}
use Rattle.plane.proofs.Meeting.{between_swap}
use Rattle.plane.proofs.Steps.{positive, at_least, at_least_is, positive_yes, positive_no, at_least_yes, at_least_no, positive_is, count_tests, in_count}
use Rattle.plane.proofs.Flip.{positive_times}
use Rattle.plane.proofs.Touch.{inner_weights, first_between}
use Rattle.split_pieces.specs.Pieces.{up_to, from}

nonneg_nonpos : {z : ℤ} → NonNeg z → NonPos (neg_ℤ z)
nonneg_nonpos {z} k = record { most = omega (arith, k.least, neg_P z, neg_N z) }

module _ (s : Segment) (o : Ordered s) (q : Point) (h : Along s (grid q)) (inner : T (not (is_end s (grid q)))) where
  a_pos : Pos h.a
  a_pos = (inner_weights s (grid q) h inner).0

  b_pos : Pos h.b
  b_pos = (inner_weights s (grid q) h inner).1

  -- ---- side values

  abbrev values : HPoint → List ℤ
  values z = s.left.x ∷ s.left.y ∷ s.right.x ∷ s.right.y ∷ z.X ∷ z.Y ∷ z.W ∷ q.x ∷ q.y ∷ h.k ∷ h.a ∷ h.b ∷ []

  pub side_up_to : (z : HPoint) → h.k *ℤ side_at (up_to s q) z ≡ h.b *ℤ side_at s z
  unfolding side_at
  side_up_to z =
      solve (values z) (var 9 :* ((var 7 :- var 0) :* (var 5 :- var 1 :* var 6) :- (var 8 :- var 1) :* (var 4 :- var 0 :* var 6)))
      (var 9 :* (var 7 :- var 0 :* con (pos 1)) :* (var 5 :- var 1 :* var 6) :- var 9 :* (var 8 :- var 1 :* con (pos 1)) :* (var 4 :- var 0 :* var 6)) tt
      ∙ ap₂ (λ m n. m *ℤ (z.Y -ℤ s.left.y *ℤ z.W) -ℤ n *ℤ (z.X -ℤ s.left.x *ℤ z.W)) (right_of_left s (grid q) h) (above_left s (grid q) h)
      ∙ solve (values z) (var 11 :* (var 2 :- var 0) :* (var 5 :- var 1 :* var 6) :- var 11 :* (var 3 :- var 1) :* (var 4 :- var 0 :* var 6))
      (var 11 :* ((var 2 :- var 0) :* (var 5 :- var 1 :* var 6) :- (var 3 :- var 1) :* (var 4 :- var 0 :* var 6))) tt

  pub side_from : (z : HPoint) → h.k *ℤ side_at (from s q) z ≡ h.a *ℤ side_at s z
  unfolding side_at
  side_from z =
      solve (values z) (var 9 :* ((var 2 :- var 7) :* (var 5 :- var 8 :* var 6) :- (var 3 :- var 8) :* (var 4 :- var 7 :* var 6)))
      (var 9 :* (var 2 :* con (pos 1) :- var 7) :* (var 5 :- var 8 :* var 6) :- var 9 :* (var 3 :* con (pos 1) :- var 8) :* (var 4 :- var 7 :* var 6)) tt
      ∙ ap₂ (λ m n. m *ℤ (z.Y -ℤ q.y *ℤ z.W) -ℤ n *ℤ (z.X -ℤ q.x *ℤ z.W)) (left_of_right s (grid q) h) (below_right s (grid q) h)
      ∙ solve (values z) (var 10 :* (var 2 :- var 0) :* (var 5 :- var 8 :* var 6) :- var 10 :* (var 3 :- var 1) :* (var 4 :- var 7 :* var 6))
      (var 10 :* ((var 2 :- var 0) :* (var 5 :- var 1 :* var 6) :- (var 3 :- var 1) :* (var 4 :- var 0 :* var 6) :- var 6 :* ((var 2 :- var 0) :* (var 8 :- var 1 :* con (pos 1)) :- (var 3 :- var 1) :* (var 7 :- var 0 :* con (pos 1))))) tt
      ∙ ap (λ n. h.a *ℤ ((s.right.x -ℤ s.left.x) *ℤ (z.Y -ℤ s.left.y *ℤ z.W) -ℤ (s.right.y -ℤ s.left.y) *ℤ (z.X -ℤ s.left.x *ℤ z.W) -ℤ z.W *ℤ n)) (on_line s (grid q) h)
      ∙ solve (values z) (var 10 :* ((var 2 :- var 0) :* (var 5 :- var 1 :* var 6) :- (var 3 :- var 1) :* (var 4 :- var 0 :* var 6) :- var 6 :* con (pos 0)))
      (var 10 :* ((var 2 :- var 0) :* (var 5 :- var 1 :* var 6) :- (var 3 :- var 1) :* (var 4 :- var 0 :* var 6))) tt

  same_sign : (x y : ℤ) {m : ℤ} → Pos m → h.k *ℤ x ≡ m *ℤ y → positive x ≡ positive y
  same_sign x y p e = sym (positive_times x h.k_pos) ∙ ap positive e ∙ positive_times y p

  -- ---- the pieces are ordered

  x_up_to : h.k *ℤ (q.x -ℤ s.left.x) ≡ h.b *ℤ (s.right.x -ℤ s.left.x)
  x_up_to = solve (h.k ∷ q.x ∷ s.left.x ∷ []) (var 0 :* (var 1 :- var 2)) (var 0 :* (var 1 :- var 2 :* con (pos 1))) tt ∙ right_of_left s (grid q) h

  y_up_to : h.k *ℤ (q.y -ℤ s.left.y) ≡ h.b *ℤ (s.right.y -ℤ s.left.y)
  y_up_to = solve (h.k ∷ q.y ∷ s.left.y ∷ []) (var 0 :* (var 1 :- var 2)) (var 0 :* (var 1 :- var 2 :* con (pos 1))) tt ∙ above_left s (grid q) h

  x_from : h.k *ℤ (s.right.x -ℤ q.x) ≡ h.a *ℤ (s.right.x -ℤ s.left.x)
  x_from = solve (h.k ∷ q.x ∷ s.right.x ∷ []) (var 0 :* (var 2 :- var 1)) (var 0 :* (var 2 :* con (pos 1) :- var 1)) tt ∙ left_of_right s (grid q) h

  y_from : h.k *ℤ (s.right.y -ℤ q.y) ≡ h.a *ℤ (s.right.y -ℤ s.left.y)
  y_from = solve (h.k ∷ q.y ∷ s.right.y ∷ []) (var 0 :* (var 2 :- var 1)) (var 0 :* (var 2 :* con (pos 1) :- var 1)) tt ∙ below_right s (grid q) h

  ordered_by : (t : Segment) {m : ℤ} → Pos m → h.k *ℤ (t.right.x -ℤ t.left.x) ≡ m *ℤ (s.right.x -ℤ s.left.x)
      → h.k *ℤ (t.right.y -ℤ t.left.y) ≡ m *ℤ (s.right.y -ℤ s.left.y) → Ordered s → Ordered t
  ordered_by t p e f (slanting w) = slanting (cancel_pos h.k_pos (subst Pos (sym e) (pos_mul p w)))
  ordered_by t {m} p e f (upright z w) = upright (cancel_zero h.k_pos (e ∙ mul_zero_right m z)) (cancel_pos h.k_pos (subst Pos (sym f) (pos_mul p w)))

  pub ordered_up_to : Ordered (up_to s q)
  ordered_up_to = ordered_by (up_to s q) b_pos x_up_to y_up_to o

  pub ordered_from : Ordered (from s q)
  ordered_from = ordered_by (from s q) a_pos x_from y_from o

  -- ---- counts below

  -- a and b say that the point is in the range of s, at its left end and at its right, and c that it is left of the cut
  parted : (a b c p : Bool) → (T c → T b) → (T (not c) → T a) → bit (a && b && p) ≡ bit (a && c && p) + bit (not c && b && p)
  parted true true true true f g = refl
  parted true true true false f g = refl
  parted true true false true f g = refl
  parted true true false false f g = refl
  parted true false true p f g = absurd (f tt)
  parted true false false p f g = refl
  parted false b true p f g = refl
  parted false b false p f g = absurd (g tt)

  module _ (z : HPoint) (w : Pos z.W) where
    abbrev A : ℤ
    A = z.X -ℤ s.left.x *ℤ z.W

    abbrev B : ℤ
    B = s.right.x *ℤ z.W -ℤ z.X

    abbrev C : ℤ
    C = q.x *ℤ z.W -ℤ z.X

    abbrev D : ℤ
    D = z.X -ℤ q.x *ℤ z.W

    right_further : B ≡ C +ℤ (s.right.x -ℤ q.x) *ℤ z.W
    right_further = solve (s.right.x ∷ q.x ∷ z.X ∷ z.W ∷ []) (var 0 :* var 3 :- var 2) (var 1 :* var 3 :- var 2 :+ (var 0 :- var 1) :* var 3) tt

    left_further : A ≡ D +ℤ (q.x -ℤ s.left.x) *ℤ z.W
    left_further = solve (s.left.x ∷ q.x ∷ z.X ∷ z.W ∷ []) (var 2 :- var 0 :* var 3) (var 2 :- var 1 :* var 3 :+ (var 1 :- var 0) :* var 3) tt

    right_room : NonNeg ((s.right.x -ℤ q.x) *ℤ z.W)
    right_room = nonneg_mul (width ordered_from) (pos_nonneg w)

    left_room : NonNeg ((q.x -ℤ s.left.x) *ℤ z.W)
    left_room = nonneg_mul (width ordered_up_to) (pos_nonneg w)

    sign_up_to : positive (side_at (up_to s q) z) ≡ positive (side_at s z)
    sign_up_to = same_sign (side_at (up_to s q) z) (side_at s z) b_pos (side_up_to z)

    sign_from : positive (side_at (from s q) z) ≡ positive (side_at s z)
    sign_from = same_sign (side_at (from s q) z) (side_at s z) a_pos (side_from z)

    -- right of the cut is not left of it
    at_least_turned : at_least D ≡ not (positive C)
    unfolding at_least positive
    at_least_turned = go (half D)
      where
        back : neg_ℤ D ≡ C
        back = solve (q.x ∷ z.X ∷ z.W ∷ []) (opp (var 1 :- var 0 :* var 2)) (var 0 :* var 2 :- var 1) tt

        go : Half D → at_least D ≡ not (positive C)
        go (at_least_lem k) = at_least_yes k ∙ sym (ap not (positive_no (subst NonPos back (nonneg_nonpos k))))
        go (under k) = at_least_no k ∙ sym (ap not (positive_yes (subst Pos back (neg_pos k))))

    pub counts_add : bit (counts_below z s) ≡ bit (counts_below z (up_to s q)) + bit (counts_below z (from s q))
    unfolding in_count
    counts_add =
        ap bit (count_tests s z)
        ∙ parted (at_least A) (positive B) (positive C) (positive (side_at s z)) rightwards leftwards
        ∙ sym (ap₂ (λ m n. bit m + bit n)
        (count_tests (up_to s q) z ∙ ap (λ p. at_least A && positive C && p) sign_up_to)
        (count_tests (from s q) z ∙ ap₂ (λ c p. c && positive B && p) at_least_turned sign_from))
      where
        rightwards : T (positive C) → T (positive B)
        rightwards k = is_true (positive B) (positive_yes (subst Pos (sym right_further) (pos_add_nonneg (positive_is C k) right_room)))

        leftwards : T (not (positive C)) → T (at_least A)
        leftwards k = is_true (at_least A) (at_least_yes (subst NonNeg (sym left_further) (nonneg_add (at_least_is D (subst T (sym at_least_turned) k)) left_room)))

    -- ---- on the segment, on a piece

    abbrev G : Along s z → ℤ
    G g = h.b *ℤ g.a -ℤ g.b *ℤ h.a

    -- z by the left end and the cut, or by the cut and the right end: from b r = k q − a l
    near_left : (g : Along s z) → NonNeg (G g) → Along (up_to s q) z
    near_left g k =
        record {
          k = h.b *ℤ g.k;
          a = G g;
          b = g.b *ℤ h.k;
          k_pos = pos_mul b_pos g.k_pos;
          a_least = k;
          b_least = nonneg_mul g.b_least (pos_nonneg h.k_pos);
          mean = triple_eq (coordinate z.X s.left.x s.right.x q.x (ap (λ p. p.X) g.mean) (ap (λ p. p.X) h.mean)) (coordinate z.Y s.left.y s.right.y q.y (ap (λ p. p.Y) g.mean) (ap (λ p. p.Y) h.mean)) (coordinate z.W (pos 1) (pos 1) (pos 1) (ap (λ p. p.W) g.mean) (ap (λ p. p.W) h.mean));
        }
      where
        coordinate : (x l r c : ℤ) → g.k *ℤ x ≡ g.a *ℤ l +ℤ g.b *ℤ r → h.k *ℤ c ≡ h.a *ℤ l +ℤ h.b *ℤ r → h.b *ℤ g.k *ℤ x ≡ G g *ℤ l +ℤ g.b *ℤ h.k *ℤ c
        coordinate x l r c e f =
            solve (h.b ∷ g.k ∷ x ∷ []) (var 0 :* var 1 :* var 2) (var 0 :* (var 1 :* var 2)) tt
            ∙ ap (λ m. h.b *ℤ m) e
            ∙ solve (h.a ∷ h.b ∷ g.a ∷ g.b ∷ l ∷ r ∷ []) (var 1 :* (var 2 :* var 4 :+ var 3 :* var 5)) ((var 1 :* var 2 :- var 3 :* var 0) :* var 4 :+ var 3 :* (var 0 :* var 4 :+ var 1 :* var 5)) tt
            ∙ ap (λ m. G g *ℤ l +ℤ g.b *ℤ m) (sym f)
            ∙ solve (G g ∷ l ∷ g.b ∷ h.k ∷ c ∷ []) (var 0 :* var 1 :+ var 2 :* (var 3 :* var 4)) (var 0 :* var 1 :+ var 2 :* var 3 :* var 4) tt

    near_right : (g : Along s z) → NonNeg (neg_ℤ (G g)) → Along (from s q) z
    near_right g k =
        record {
          k = h.a *ℤ g.k;
          a = g.a *ℤ h.k;
          b = neg_ℤ (G g);
          k_pos = pos_mul a_pos g.k_pos;
          a_least = nonneg_mul g.a_least (pos_nonneg h.k_pos);
          b_least = k;
          mean = triple_eq (coordinate z.X s.left.x s.right.x q.x (ap (λ p. p.X) g.mean) (ap (λ p. p.X) h.mean)) (coordinate z.Y s.left.y s.right.y q.y (ap (λ p. p.Y) g.mean) (ap (λ p. p.Y) h.mean)) (coordinate z.W (pos 1) (pos 1) (pos 1) (ap (λ p. p.W) g.mean) (ap (λ p. p.W) h.mean));
        }
      where
        coordinate : (x l r c : ℤ) → g.k *ℤ x ≡ g.a *ℤ l +ℤ g.b *ℤ r → h.k *ℤ c ≡ h.a *ℤ l +ℤ h.b *ℤ r → h.a *ℤ g.k *ℤ x ≡ g.a *ℤ h.k *ℤ c +ℤ neg_ℤ (G g) *ℤ r
        coordinate x l r c e f =
            solve (h.a ∷ g.k ∷ x ∷ []) (var 0 :* var 1 :* var 2) (var 0 :* (var 1 :* var 2)) tt
            ∙ ap (λ m. h.a *ℤ m) e
            ∙ solve (h.a ∷ h.b ∷ g.a ∷ g.b ∷ l ∷ r ∷ []) (var 0 :* (var 2 :* var 4 :+ var 3 :* var 5)) (var 2 :* (var 0 :* var 4 :+ var 1 :* var 5) :+ opp (var 1 :* var 2 :- var 3 :* var 0) :* var 5) tt
            ∙ ap (λ m. g.a *ℤ m +ℤ neg_ℤ (G g) *ℤ r) (sym f)
            ∙ solve (G g ∷ r ∷ g.a ∷ h.k ∷ c ∷ []) (var 2 :* (var 3 :* var 4) :+ opp (var 0) :* var 1) (var 2 :* var 3 :* var 4 :+ opp (var 0) :* var 1) tt

    pub along_pieces : Along s z → Along (up_to s q) z ⊎ Along (from s q) z
    along_pieces g = go (half (G g))
      where
        go : Half (G g) → Along (up_to s q) z ⊎ Along (from s q) z
        go (at_least_lem k) = inl (near_left g k)
        go (under k) = inr (near_right g (pos_nonneg (neg_pos k)))

    pub pieces_along : Along (up_to s q) z ⊎ Along (from s q) z → Along s z
    pieces_along (inl g) = between_compose (first_between (grid s.left) (grid s.right)) h g
    pieces_along (inr g) = between_compose h (between_swap (first_between (grid s.right) (grid s.left))) g

    pub on_pieces : on s z ≡ on (up_to s q) z || on (from s q) z
    on_pieces =
        same_test (on s z) (on (up_to s q) z || on (from s q) z)
        (λ t. ⊎_elim (λ g. or_left (on (up_to s q) z) (on (from s q) z) (along_on (up_to s q) z ordered_up_to g)) (λ g. or_right (on (up_to s q) z) (on (from s q) z) (along_on (from s q) z ordered_from g)) (along_pieces (on_along s z o t)))
        (λ t. along_on s z o (pieces_along (⊎_elim (λ k. inl (on_along (up_to s q) z ordered_up_to k)) (λ k. inr (on_along (from s q) z ordered_from k)) (or_cases (on (up_to s q) z) (on (from s q) z) t))))

  -- ---- the shoelace sum

  pub terms_add : shoelace s ≡ shoelace (up_to s q) +ℤ shoelace (from s q)
  unfolding shoelace side_at
  terms_add =
      solve (values (grid q)) (var 0 :* var 3 :- var 2 :* var 1)
      (var 0 :* var 8 :- var 7 :* var 1 :+ (var 7 :* var 3 :- var 2 :* var 8) :+ ((var 2 :- var 0) :* (var 8 :- var 1 :* con (pos 1)) :- (var 3 :- var 1) :* (var 7 :- var 0 :* con (pos 1)))) tt
      ∙ ap (λ n. s.left.x *ℤ q.y -ℤ q.x *ℤ s.left.y +ℤ (q.x *ℤ s.right.y -ℤ s.right.x *ℤ q.y) +ℤ n) (on_line s (grid q) h)
      ∙ solve (values (grid q)) (var 0 :* var 8 :- var 7 :* var 1 :+ (var 7 :* var 3 :- var 2 :* var 8) :+ con (pos 0)) (var 0 :* var 8 :- var 7 :* var 1 :+ (var 7 :* var 3 :- var 2 :* var 8)) tt
