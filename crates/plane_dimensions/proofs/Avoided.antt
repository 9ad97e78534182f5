-- What is kept by a form above zero: to be away from a segment, and not to be at a point.
use mathlib.Core.Path.{◌≡◌, sym, ap, ◌∙◌}
use mathlib.Core.List.{[], ◌∷◌}
use lib.IntN.{ℤ, pos, negsuc, neg_ℤ, ◌-ℤ◌, ◌*ℤ◌, +ℤ_invr}
use Rattle.whole.proofs.Solver.{Exp, var, con, opp, ◌:+◌, ◌:-◌, ◌:*◌, solve}
use Rattle.whole.proofs.Sign.{Sign, minus, nought, plus, sign, zero_pos, zero_neg, sub_zero_eq}
use Rattle.plane.specs.declared.Segment.{Segment}
use Rattle.plane.specs.Plane.{HPoint, side_at}
use Rattle.plane.proofs.Homogeneous.{values₁, side_atᵉ, first}
use Rattle.plane.proofs.OnSegment.{Away, over, beneath, leftward, rightward, short, past}
use Rattle.plane_dimensions.specs.Dimensions.{Same}
use Rattle.plane_dimensions.proofs.Means.{value, Kept, kept_above, kept_below}

-- ---- away from a segment

module _ (s : Segment) where
  -- as forms: the side value, and how far a point is from each end
  abbrev side_form : HPoint
  side_form =
      record {
        X = neg_ℤ (s.right.y -ℤ s.left.y);
        Y = s.right.x -ℤ s.left.x;
        W = (s.right.y -ℤ s.left.y) *ℤ s.left.x -ℤ (s.right.x -ℤ s.left.x) *ℤ s.left.y;
      }

  abbrev side_values : Exp
  side_values = opp (var 3 :- var 1) :* var 4 :+ (var 2 :- var 0) :* var 5 :+ ((var 3 :- var 1) :* var 0 :- (var 2 :- var 0) :* var 1) :* var 6

  by_side : (q : HPoint) → value side_form q ≡ side_at s q
  unfolding value side_at
  by_side q = solve (values₁ s q) side_values (side_atᵉ first) tt

  by_side_turned : (q : HPoint) → value (record { X = neg_ℤ side_form.X; Y = neg_ℤ side_form.Y; W = neg_ℤ side_form.W }) q ≡ neg_ℤ (side_at s q)
  unfolding value side_at
  by_side_turned q =
      solve (values₁ s q) (opp (opp (var 3 :- var 1)) :* var 4 :+ opp (var 2 :- var 0) :* var 5 :+ opp ((var 3 :- var 1) :* var 0 :- (var 2 :- var 0) :* var 1) :* var 6) (opp (side_atᵉ first)) tt

  -- c W - Z, and Z - c W, for Z = X and Z = Y, turned
  before_x : (c : ℤ) (q : HPoint) → value (record { X = negsuc 0; Y = pos 0; W = c }) q ≡ neg_ℤ (q.X -ℤ c *ℤ q.W)
  unfolding value
  before_x c q = solve (c ∷ q.X ∷ q.Y ∷ q.W ∷ []) (con (negsuc 0) :* var 1 :+ con (pos 0) :* var 2 :+ var 0 :* var 3) (opp (var 1 :- var 0 :* var 3)) tt

  behind_x : (c : ℤ) (q : HPoint) → value (record { X = pos 1; Y = pos 0; W = neg_ℤ c }) q ≡ neg_ℤ (c *ℤ q.W -ℤ q.X)
  unfolding value
  behind_x c q = solve (c ∷ q.X ∷ q.Y ∷ q.W ∷ []) (con (pos 1) :* var 1 :+ con (pos 0) :* var 2 :+ opp (var 0) :* var 3) (opp (var 0 :* var 3 :- var 1)) tt

  before_y : (c : ℤ) (q : HPoint) → value (record { X = pos 0; Y = negsuc 0; W = c }) q ≡ neg_ℤ (q.Y -ℤ c *ℤ q.W)
  unfolding value
  before_y c q = solve (c ∷ q.X ∷ q.Y ∷ q.W ∷ []) (con (pos 0) :* var 1 :+ con (negsuc 0) :* var 2 :+ var 0 :* var 3) (opp (var 2 :- var 0 :* var 3)) tt

  behind_y : (c : ℤ) (q : HPoint) → value (record { X = pos 0; Y = pos 1; W = neg_ℤ c }) q ≡ neg_ℤ (c *ℤ q.W -ℤ q.Y)
  unfolding value
  behind_y c q = solve (c ∷ q.X ∷ q.Y ∷ q.W ∷ []) (con (pos 0) :* var 1 :+ con (pos 1) :* var 2 :+ opp (var 0) :* var 3) (opp (var 0 :* var 3 :- var 2)) tt

  pub away_kept : {p : HPoint} → Away s p → Kept (Away s) p
  away_kept {p} (over h) = kept_above (side_at s) side_form by_side (λ q k. over k) p h
  away_kept {p} (beneath h) = kept_below (side_at s) _ by_side_turned (λ q k. beneath k) p h
  away_kept {p} (leftward h) = kept_below (λ q. q.X -ℤ s.left.x *ℤ q.W) _ (before_x s.left.x) (λ q k. leftward k) p h
  away_kept {p} (rightward h) = kept_below (λ q. s.right.x *ℤ q.W -ℤ q.X) _ (behind_x s.right.x) (λ q k. rightward k) p h
  away_kept {p} (short e h) = kept_below (λ q. q.Y -ℤ s.left.y *ℤ q.W) _ (before_y s.left.y) (λ q k. short e k) p h
  away_kept {p} (past e h) = kept_below (λ q. s.right.y *ℤ q.W -ℤ q.Y) _ (behind_y s.right.y) (λ q k. past e k) p h

-- ---- not at a point

pub equal_zero : {x y : ℤ} → x ≡ y → x -ℤ y ≡ pos 0
equal_zero {x} {y} e = ap (λ z. z -ℤ y) e ∙ +ℤ_invr y

abbrev pub Off : HPoint → HPoint → Type 0
Off e q = Same q e → ⊥

module _ (e : HPoint) where
  -- how far q is right of e, and above it
  across : HPoint → ℤ
  across q = q.X *ℤ e.W -ℤ e.X *ℤ q.W

  up : HPoint → ℤ
  up q = q.Y *ℤ e.W -ℤ e.Y *ℤ q.W

  by_across : (q : HPoint) → value (record { X = e.W; Y = pos 0; W = neg_ℤ e.X }) q ≡ across q
  unfolding value across
  by_across q = solve (e.X ∷ e.W ∷ q.X ∷ q.Y ∷ q.W ∷ []) (var 1 :* var 2 :+ con (pos 0) :* var 3 :+ opp (var 0) :* var 4) (var 2 :* var 1 :- var 0 :* var 4) tt

  by_across_turned : (q : HPoint) → value (record { X = neg_ℤ e.W; Y = pos 0; W = e.X }) q ≡ neg_ℤ (across q)
  unfolding value across
  by_across_turned q = solve (e.X ∷ e.W ∷ q.X ∷ q.Y ∷ q.W ∷ []) (opp (var 1) :* var 2 :+ con (pos 0) :* var 3 :+ var 0 :* var 4) (opp (var 2 :* var 1 :- var 0 :* var 4)) tt

  by_up : (q : HPoint) → value (record { X = pos 0; Y = e.W; W = neg_ℤ e.Y }) q ≡ up q
  unfolding value up
  by_up q = solve (e.Y ∷ e.W ∷ q.X ∷ q.Y ∷ q.W ∷ []) (con (pos 0) :* var 2 :+ var 1 :* var 3 :+ opp (var 0) :* var 4) (var 3 :* var 1 :- var 0 :* var 4) tt

  by_up_turned : (q : HPoint) → value (record { X = pos 0; Y = neg_ℤ e.W; W = e.Y }) q ≡ neg_ℤ (up q)
  unfolding value up
  by_up_turned q = solve (e.Y ∷ e.W ∷ q.X ∷ q.Y ∷ q.W ∷ []) (con (pos 0) :* var 2 :+ opp (var 1) :* var 3 :+ var 0 :* var 4) (opp (var 3 :* var 1 :- var 0 :* var 4)) tt

  same_across : {q : HPoint} → Same q e → across q ≡ pos 0
  unfolding across
  same_across h = equal_zero h.same_x

  same_up : {q : HPoint} → Same q e → up q ≡ pos 0
  unfolding up
  same_up h = equal_zero h.same_y

  same_make : {q : HPoint} → across q ≡ pos 0 → up q ≡ pos 0 → Same q e
  unfolding across up
  same_make {q} h k =
      record { same_x = sym (sub_zero_eq (e.X *ℤ q.W) (q.X *ℤ e.W) h); same_y = sym (sub_zero_eq (e.Y *ℤ q.W) (q.Y *ℤ e.W) k) }

  -- a point is at e or stays off it
  pub data Place (p : HPoint) : Type 0 where
    at : Same p e → Place p
    off : Kept (Off e) p → Place p

  pub place : (p : HPoint) → Place p
  place p = go (sign (across p)) (sign (up p))
    where
      go : Sign (across p) → Sign (up p) → Place p
      go (plus h) v = off (kept_above across _ by_across (λ q k s. zero_pos (same_across s) k) p h)
      go (minus h) v = off (kept_below across _ by_across_turned (λ q k s. zero_neg (same_across s) k) p h)
      go (nought h) (plus k) = off (kept_above up _ by_up (λ q k s. zero_pos (same_up s) k) p k)
      go (nought h) (minus k) = off (kept_below up _ by_up_turned (λ q k s. zero_neg (same_up s) k) p k)
      go (nought h) (nought k) = at (same_make h k)

  pub off_kept : {p : HPoint} → Off e p → Kept (Off e) p
  off_kept {p} h = go (place p)
    where
      go : Place p → Kept (Off e) p
      go (at s) = absurd (h s)
      go (off k) = k
