-- The orders of points and of halfsegments are strict: no element comes before itself, and "comes before" is transitive. For halfsegments at one
-- point that is the transitivity of "turns left" among directions that point right or straight up, as an ordered segment's does.
use mathlib.Core.Path.{◌≡◌, refl, sym, ap, ap₂, ◌∙◌, subst, subst₂}
use mathlib.Core.Logic.{◌⊎◌, inl, inr, ⊎_elim}
use mathlib.Core.Bool.{Bool, true, false, ◌&&◌, ◌||◌, true≢false}
use mathlib.Core.List.{List, [], ◌∷◌}
use lib.Dec.{T}
use lib.IntN.{ℤ, pos, ◌+ℤ◌, ◌-ℤ◌, ◌*ℤ◌, +ℤ_invr}
use lib.Signed.{lt_z}
use Rattle.whole.specs.Count.{eq_z, ◌∈◌}
use Rattle.whole.proofs.Solver.{var, con, opp, ◌:+◌, ◌:-◌, ◌:*◌, solve}
use Rattle.whole.proofs.Sign.{Pos, pos_nonneg, zero_nonneg, neg_of_pos, nonneg_clash, zero_pos, pos_add, pos_add_nonneg, nonneg_add_pos, pos_mul, nonneg_mul, cancel_pos, pos_lt_z, zero_eq_z, lt_z0_pos, pos_lt_z0}
use Rattle.whole.proofs.Logic.{and_left, and_right, and_make, or_cases, or_left, or_right, Sorted}
use Rattle.whole.proofs.Parity.{parity, sorted_once}
use Rattle.plane.specs.declared.Point.{Point}
use Rattle.plane.specs.declared.Segment.{Segment}
use Rattle.plane.specs.declared.Halfsegment.{Halfsegment}
use Rattle.plane.specs.Plane.{before, is_same_point, is_same_segment, ordered, side, dominating, far_end, comes_before}
use Rattle.plane.proofs.OnSegment.{Ordered, slanting, upright, ordered_read, width}
use Rattle.plane.proofs.Equal.{same_point_read, same_point_refl, same_segment_read, same_segment_refl}
use Rattle.plane.proofs.Touch.{wide, tall, Step, Compare, earlier, equal, later, compare}

-- ---- points: p comes before q where the segment from p to q has ordered ends

pub ordered_make : (s : Segment) → Ordered s → T (ordered s)
unfolding ordered before
ordered_make s (slanting h) = or_left (lt_z s.left.x s.right.x) _ (pos_lt_z s.left.x s.right.x h)
ordered_make s (upright e h) =
    or_right (lt_z s.left.x s.right.x) _
    (and_make (eq_z s.left.x s.right.x) (lt_z s.left.y s.right.y) (zero_eq_z s.left.x s.right.x e) (pos_lt_z s.left.y s.right.y h))

-- the ends of an ordered segment differ
pub ends_differ {ℓ} : {A : Type ℓ} {s : Segment} → Ordered s → s.left ≡ s.right → A
ends_differ {s = s} (slanting h) e = zero_pos (ap (λ p. s.right.x -ℤ p.x) e ∙ +ℤ_invr s.right.x) h
ends_differ {s = s} (upright f h) e = zero_pos (ap (λ p. s.right.y -ℤ p.y) e ∙ +ℤ_invr s.right.y) h

abbrev from : Point → Point → Segment
from p q = record { left = p; right = q }

before_read : (p q : Point) → T (before p q) → Ordered (from p q)
unfolding ordered
before_read p q t = ordered_read (from p q) t

before_make : (p q : Point) → Ordered (from p q) → T (before p q)
unfolding ordered
before_make p q o = ordered_make (from p q) o

pub before_irreflexive : (p : Point) → T (before p p) → ⊥
before_irreflexive p t = ends_differ (before_read p p t) refl

pub before_trans : (p q r : Point) → T (before p q) → T (before q r) → T (before p r)
before_trans p q r t u = before_make p r (go (before_read p q t) (before_read q r u))
  where
    sum : (a b c : ℤ) → (b -ℤ a) +ℤ (c -ℤ b) ≡ c -ℤ a
    sum a b c = solve (a ∷ b ∷ c ∷ []) (var 1 :- var 0 :+ (var 2 :- var 1)) (var 2 :- var 0) tt

    wider : Pos ((q.x -ℤ p.x) +ℤ (r.x -ℤ q.x)) → Ordered (from p r)
    wider h = slanting (subst Pos (sum p.x q.x r.x) h)

    go : Ordered (from p q) → Ordered (from q r) → Ordered (from p r)
    go (slanting h) o = wider (pos_add_nonneg h (width o))
    go (upright e h) (slanting k) = wider (nonneg_add_pos (zero_nonneg e) k)
    go (upright e h) (upright f k) =
        upright (sym (sum p.x q.x r.x) ∙ ap₂ ◌+ℤ◌ e f) (subst Pos (sum p.y q.y r.y) (pos_add h k))

pub before_cases : (p q : Point) → T (before p q) ⊎ ((p ≡ q) ⊎ T (before q p))
before_cases p q = go (compare p q)
  where
    forward : (p q : Point) → Step p q → T (before p q)
    forward p q (wide h) = before_make p q (slanting h)
    forward p q (tall e h) = before_make p q (upright e h)

    go : Compare p q → T (before p q) ⊎ ((p ≡ q) ⊎ T (before q p))
    go (earlier h) = inl (forward p q h)
    go (equal e) = inr (inl e)
    go (later h) = inr (inr (forward q p h))

-- ---- directions of ordered segments

abbrev pub run : Segment → ℤ
run s = s.right.x -ℤ s.left.x

abbrev pub rise : Segment → ℤ
rise s = s.right.y -ℤ s.left.y

-- above zero when t's direction turns left from s's
unfoldable pub turns : Segment → Segment → ℤ
turns s t = run s *ℤ rise t -ℤ rise s *ℤ run t

pub turns_itself : (s : Segment) → turns s s ≡ pos 0
unfolding turns
turns_itself s = solve (run s ∷ rise s ∷ []) (var 0 :* var 1 :- var 1 :* var 0) (con (pos 0)) tt

-- nothing is left of straight up
turns_wide : {s t : Segment} → Ordered s → Ordered t → Pos (turns s t) → Pos (run s)
unfolding turns
turns_wide (slanting h) o p = h
turns_wide {s} {t} (upright e h) o p =
    nonneg_clash (nonneg_mul (pos_nonneg h) (width o))
    (neg_of_pos (rise s *ℤ run t)
    (subst Pos
    (ap (λ z. z *ℤ rise t -ℤ rise s *ℤ run t) e ∙ solve (rise t ∷ (rise s *ℤ run t) ∷ []) (con (pos 0) :* var 0 :- var 1) (opp (var 1)) tt) p))

-- by the x part of (s × u) t = (t × u) s + (s × t) u, × the turn
pub turns_trans : {s t u : Segment} → Ordered s → Ordered t → Ordered u → Pos (turns s t) → Pos (turns t u) → Pos (turns s u)
unfolding turns
turns_trans {s} {t} {u} o p q h k =
    cancel_pos (turns_wide p q k)
    (subst Pos
    (solve (run s ∷ rise s ∷ run t ∷ rise t ∷ run u ∷ rise u ∷ [])
    ((var 2 :* var 5 :- var 3 :* var 4) :* var 0 :+ (var 0 :* var 3 :- var 1 :* var 2) :* var 4) (var 2 :* (var 0 :* var 5 :- var 1 :* var 4)) tt)
    (pos_add_nonneg (pos_mul k (turns_wide o p h)) (nonneg_mul (pos_nonneg h) (width q))))

-- ---- halfsegments

abbrev pub half_of : Bool → Segment → Halfsegment
half_of b s = record { segment = s; is_left = b }

-- at one dominating point and on one side, the side value is the turn of the two segments: from the right end both directions are turned round
pub side_turns : (h k : Halfsegment) → dominating h ≡ dominating k → h.is_left ≡ k.is_left
    → side (dominating h) (far_end h) (far_end k) ≡ turns h.segment k.segment
unfolding dominating far_end side turns
side_turns h k e f = subst (λ b. Claim h.is_left b h.segment k.segment) f (go h.is_left h.segment k.segment) e
  where
    Claim : Bool → Bool → Segment → Segment → Type 0
    Claim a b s t = dominating (half_of a s) ≡ dominating (half_of b t) → side (dominating (half_of a s)) (far_end (half_of a s)) (far_end (half_of b t)) ≡ turns s t

    go : (b : Bool) (s t : Segment) → Claim b b s t
    go true s t e = ap (λ p. run s *ℤ (t.right.y -ℤ p.y) -ℤ rise s *ℤ (t.right.x -ℤ p.x)) e
    go false s t e =
        ap (λ p. (s.left.x -ℤ s.right.x) *ℤ (t.left.y -ℤ p.y) -ℤ (s.left.y -ℤ s.right.y) *ℤ (t.left.x -ℤ p.x)) e
        ∙ solve (s.left.x ∷ s.left.y ∷ s.right.x ∷ s.right.y ∷ t.left.x ∷ t.left.y ∷ t.right.x ∷ t.right.y ∷ [])
        ((var 0 :- var 2) :* (var 5 :- var 7) :- (var 1 :- var 3) :* (var 4 :- var 6))
        ((var 2 :- var 0) :* (var 7 :- var 5) :- (var 3 :- var 1) :* (var 6 :- var 4))
        tt

-- the order at one point: right before left, and on one side by the turn
abbrev beside_test : Bool → Bool → Bool → Bool
beside_test true true turn = turn
beside_test true false turn = false
beside_test false true turn = true
beside_test false false turn = turn

data Beside (h k : Halfsegment) : Type 0 where
  right_first : h.is_left ≡ false → k.is_left ≡ true → Beside h k
  turning : h.is_left ≡ k.is_left → Pos (turns h.segment k.segment) → Beside h k

data Precedes (h k : Halfsegment) : Type 0 where
  by_point : T (before (dominating h) (dominating k)) → Precedes h k
  at_point : dominating h ≡ dominating k → Beside h k → Precedes h k

module _ (h k : Halfsegment) where
  abbrev turn_test : Bool
  turn_test = lt_z (pos 0) (side (dominating h) (far_end h) (far_end k))

  abbrev point_test : Bool
  point_test = is_same_point (dominating h) (dominating k) && beside_test h.is_left k.is_left turn_test

comes_tests : (h k : Halfsegment) → comes_before h k ≡ before (dominating h) (dominating k) || point_test h k
unfolding comes_before
comes_tests h k = go h.is_left k.is_left h.segment k.segment
  where
    go : (a b : Bool) (s t : Segment)
        → comes_before (half_of a s) (half_of b t) ≡ before (dominating (half_of a s)) (dominating (half_of b t)) || point_test (half_of a s) (half_of b t)
    go true true s t = refl
    go true false s t = refl
    go false true s t = refl
    go false false s t = refl

module _ (h k : Halfsegment) where
  comes_read : T (comes_before h k) → Precedes h k
  comes_read t =
      ⊎_elim by_point
      (λ u. at (same_point_read (dominating h) (dominating k) (and_left (is_same_point (dominating h) (dominating k)) _ u)) h.is_left k.is_left refl refl (and_right (is_same_point (dominating h) (dominating k)) _ u))
      (or_cases (before (dominating h) (dominating k)) (point_test h k) (subst T (comes_tests h k) t))
    where
      one_side : dominating h ≡ dominating k → h.is_left ≡ k.is_left → T (turn_test h k) → Precedes h k
      one_side e f t = at_point e (turning f (subst Pos (side_turns h k e f) (lt_z0_pos (side (dominating h) (far_end h) (far_end k)) t)))

      at : dominating h ≡ dominating k → (a b : Bool) → h.is_left ≡ a → k.is_left ≡ b → T (beside_test a b (turn_test h k)) → Precedes h k
      at e true true f g t = one_side e (f ∙ sym g) t
      at e true false f g t = absurd t
      at e false true f g t = at_point e (right_first f g)
      at e false false f g t = one_side e (f ∙ sym g) t

  comes_make : Precedes h k → T (comes_before h k)
  comes_make p = subst T (sym (comes_tests h k)) (go p)
    where
      same_side_lem : (a : Bool) → T (turn_test h k) → T (beside_test a a (turn_test h k))
      same_side_lem true t = t
      same_side_lem false t = t

      beside : dominating h ≡ dominating k → Beside h k → T (beside_test h.is_left k.is_left (turn_test h k))
      beside e (right_first f g) = subst₂ (λ a b. T (beside_test a b (turn_test h k))) (sym f) (sym g) tt
      beside e (turning f p) =
          subst (λ b. T (beside_test h.is_left b (turn_test h k))) f
          (same_side_lem h.is_left (pos_lt_z0 (side (dominating h) (far_end h) (far_end k)) (subst Pos (sym (side_turns h k e f)) p)))

      go : Precedes h k → T (before (dominating h) (dominating k) || point_test h k)
      go (by_point t) = or_left (before (dominating h) (dominating k)) (point_test h k) t
      go (at_point e b) =
          or_right (before (dominating h) (dominating k)) (point_test h k)
          (and_make (is_same_point (dominating h) (dominating k)) (beside_test h.is_left k.is_left (turn_test h k)) (subst (λ p. T (is_same_point (dominating h) p)) e (same_point_refl (dominating h))) (beside e b))

pub comes_irreflexive : (h : Halfsegment) → T (comes_before h h) → ⊥
comes_irreflexive h t = go (comes_read h h t)
  where
    beside : Beside h h → ⊥
    beside (right_first f g) = true≢false (sym g ∙ f)
    beside (turning f p) = zero_pos (turns_itself h.segment) p

    go : Precedes h h → ⊥
    go (by_point u) = before_irreflexive (dominating h) u
    go (at_point e b) = beside b

pub comes_trans : (h k m : Halfsegment) → T (ordered h.segment) → T (ordered k.segment) → T (ordered m.segment)
    → T (comes_before h k) → T (comes_before k m) → T (comes_before h m)
comes_trans h k m o p q t u = comes_make h m (go (comes_read h k t) (comes_read k m u))
  where
    beside : Beside h k → Beside k m → Beside h m
    beside (right_first f g) (right_first f' g') = absurd (true≢false (sym g ∙ f'))
    beside (right_first f g) (turning f' p) = right_first f (sym f' ∙ g)
    beside (turning f a) (right_first f' g') = right_first (f ∙ f') g'
    beside (turning f a) (turning f' b) =
        turning (f ∙ f') (turns_trans (ordered_read h.segment o) (ordered_read k.segment p) (ordered_read m.segment q) a b)

    go : Precedes h k → Precedes k m → Precedes h m
    go (by_point a) (by_point b) = by_point (before_trans (dominating h) (dominating k) (dominating m) a b)
    go (by_point a) (at_point f c) = by_point (subst (λ z. T (before (dominating h) z)) f a)
    go (at_point e b) (by_point d) = by_point (subst (λ z. T (before z (dominating m))) (sym e) d)
    go (at_point e b) (at_point f d) = at_point (e ∙ f) (beside b d)

-- ---- the segments of an object, in the order of their left halfsegments, occur once each

abbrev pub LeftBefore : Segment → Segment → Type 0
LeftBefore s t = T (comes_before (half_of true s) (half_of true t))

pub segments_once : {l : List Segment} → Sorted LeftBefore l → (s : Segment) → s ∈ l → parity (is_same_segment s) l ≡ true
segments_once h = sorted_once is_same_segment same_segment_read same_segment_refl LeftBefore h (λ s m. comes_irreflexive (half_of true s))
