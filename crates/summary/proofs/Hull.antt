-- Where all ends of a list's segments lie on one side of an upright or level line, every point on them does, and so does every point inside the region
-- that they bound: left, right and under it nothing counts below, and over it the column's parity is even, as its ends are.
use mathlib.Core.Path.{◌≡◌, refl, sym, ap, ap₂, ◌∙◌, subst}
use mathlib.Core.Bool.{Bool, true, false, not, ◌&&◌}
use mathlib.Core.List.{List, [], ◌∷◌}
use lib.Dec.{T}
use lib.IntN.{ℤ, pos, neg_ℤ, ◌+ℤ◌, ◌-ℤ◌, ◌*ℤ◌}
use lib.Signed.{lt_z, le_z}
use Rattle.whole.specs.Count.{◌∈◌}
use Rattle.whole.proofs.Solver.{var, con, opp, ◌:+◌, ◌:-◌, ◌:*◌, solve}
use Rattle.whole.proofs.Sign.{Pos, NonNeg, pos_nonneg, neg_of_pos, nonneg_clash, zero_pos, pos_add, pos_add_nonneg, nonneg_add_pos, nonneg_add, pos_mul, nonneg_mul, cancel_pos, lt_z_pos, le_z_nonneg, nonneg_le_z, lt_z_le_z, lt_z0_pos, pos_lt_z0}
use Rattle.whole.proofs.Logic.{and_left, and_right, and_follows, refute}
use Rattle.whole.proofs.Parity.{◌⊻◌, parity, parity_same, parity_none}
use Rattle.plane.specs.declared.Point.{Point}
use Rattle.plane.specs.declared.Segment.{Segment}
use Rattle.plane.specs.Plane.{HPoint, grid, side_at, counts_below, is_on_some, inside}
use Rattle.plane.proofs.Homogeneous.{values₁, side_atᵉ, first}
use Rattle.plane.proofs.OnSegment.{Ordered, Between, Along, width}
use Rattle.plane.proofs.Path.{Even, even_ends}
use Rattle.cells_matrix.proofs.Common.{on_find, inside_parity}

-- ---- four ways to look, and how far a point lies that way

pub data Way : Type 0 where
  east west north south : Way

abbrev pub level : Way → HPoint → ℤ
level east p = p.X
level west p = neg_ℤ p.X
level north p = p.Y
level south p = neg_ℤ p.Y

-- a point that is not beyond a, and one that is
abbrev pub Kept : Way → ℤ → Point → Type 0
Kept w a v = NonNeg (a -ℤ level w (grid v))

abbrev pub Beyond : Way → ℤ → HPoint → Type 0
Beyond w a p = Pos (level w p -ℤ a *ℤ p.W)

abbrev pub KeptAll : Way → ℤ → List Segment → Type 0
KeptAll w a l = (s : Segment) → s ∈ l → Kept w a s.left × Kept w a s.right

level_mean : (w : Way) {u v p : HPoint} (h : Between u v p) → h.k *ℤ level w p ≡ h.a *ℤ level w u +ℤ h.b *ℤ level w v
level_mean east h = ap (λ q. q.X) h.mean
level_mean west {u} {v} {p} h =
    solve (h.k ∷ p.X ∷ []) (var 0 :* opp (var 1)) (opp (var 0 :* var 1)) tt
    ∙ ap (λ q. neg_ℤ q.X) h.mean
    ∙ solve (h.a ∷ u.X ∷ h.b ∷ v.X ∷ []) (opp (var 0 :* var 1 :+ var 2 :* var 3)) (var 0 :* opp (var 1) :+ var 2 :* opp (var 3)) tt
level_mean north h = ap (λ q. q.Y) h.mean
level_mean south {u} {v} {p} h =
    solve (h.k ∷ p.Y ∷ []) (var 0 :* opp (var 1)) (opp (var 0 :* var 1)) tt
    ∙ ap (λ q. neg_ℤ q.Y) h.mean
    ∙ solve (h.a ∷ u.Y ∷ h.b ∷ v.Y ∷ []) (opp (var 0 :* var 1 :+ var 2 :* var 3)) (var 0 :* opp (var 1) :+ var 2 :* opp (var 3)) tt

-- ---- on a segment

pub on_kept : (w : Way) (a : ℤ) (s : Segment) (p : HPoint) → Along s p → Kept w a s.left → Kept w a s.right → Beyond w a p → ⊥
on_kept w a s p h l r b =
    nonneg_clash (nonneg_add (nonneg_mul h.a_least l) (nonneg_mul h.b_least r)) (neg_of_pos _ (subst Pos measured (pos_mul h.k_pos b)))
  where
    u : ℤ
    u = level w (grid s.left)

    v : ℤ
    v = level w (grid s.right)

    measured : h.k *ℤ (level w p -ℤ a *ℤ p.W) ≡ neg_ℤ (h.a *ℤ (a -ℤ level w (grid s.left)) +ℤ h.b *ℤ (a -ℤ level w (grid s.right)))
    measured =
        solve (h.k ∷ level w p ∷ a ∷ p.W ∷ []) (var 0 :* (var 1 :- var 2 :* var 3)) (var 0 :* var 1 :- var 2 :* (var 0 :* var 3)) tt
        ∙ ap₂ (λ m n. m -ℤ a *ℤ n) (level_mean w h) (ap (λ q. q.W) h.mean)
        ∙ solve (h.a ∷ level w (grid s.left) ∷ h.b ∷ level w (grid s.right) ∷ a ∷ []) (var 0 :* var 1 :+ var 2 :* var 3 :- var 4 :* (var 0 :* con (pos 1) :+ var 2 :* con (pos 1))) (opp (var 0 :* (var 4 :- var 1) :+ var 2 :* (var 4 :- var 3))) tt

pub off_kept : (w : Way) (a : ℤ) (l : List Segment) → ((t : Segment) → t ∈ l → Ordered t) → KeptAll w a l → (p : HPoint) → Beyond w a p → is_on_some l p ≡ false
off_kept w a l ord k p b = refute (is_on_some l p) (λ t. let f = on_find l ord p t in on_kept w a f.0 p f.2 (k f.0 f.1).0 (k f.0 f.1).1 b)

-- ---- the count below a point over, or under, both ends

-- W times the side value, by the heights over both ends
side_by_heights : (s : Segment) (p : HPoint)
    → p.W *ℤ side_at s p ≡ (s.right.x *ℤ p.W -ℤ p.X) *ℤ (p.Y -ℤ s.left.y *ℤ p.W) +ℤ (p.X -ℤ s.left.x *ℤ p.W) *ℤ (p.Y -ℤ s.right.y *ℤ p.W)
unfolding side_at
side_by_heights s p = solve (values₁ s p) (var 6 :* side_atᵉ first) ((var 2 :* var 6 :- var 4) :* (var 5 :- var 1 :* var 6) :+ (var 4 :- var 0 :* var 6) :* (var 5 :- var 3 :* var 6)) tt

pub over_side : (s : Segment) (p : HPoint) → Pos p.W → NonNeg (p.X -ℤ s.left.x *ℤ p.W) → Pos (s.right.x *ℤ p.W -ℤ p.X)
    → Pos (p.Y -ℤ s.left.y *ℤ p.W) → Pos (p.Y -ℤ s.right.y *ℤ p.W) → Pos (side_at s p)
over_side s p w l r a b = cancel_pos w (subst Pos (sym (side_by_heights s p)) (pos_add_nonneg (pos_mul r a) (nonneg_mul l (pos_nonneg b))))

under_side : (s : Segment) (p : HPoint) → Pos p.W → NonNeg (p.X -ℤ s.left.x *ℤ p.W) → Pos (s.right.x *ℤ p.W -ℤ p.X)
    → Pos (s.left.y *ℤ p.W -ℤ p.Y) → Pos (s.right.y *ℤ p.W -ℤ p.Y) → Pos (side_at s p) → ⊥
under_side s p w l r a b h =
    zero_pos (ap (λ z. z +ℤ ((s.right.x *ℤ p.W -ℤ p.X) *ℤ (s.left.y *ℤ p.W -ℤ p.Y) +ℤ (p.X -ℤ s.left.x *ℤ p.W) *ℤ (s.right.y *ℤ p.W -ℤ p.Y))) (side_by_heights s p) ∙ solve (values₁ s p) ((var 2 :* var 6 :- var 4) :* (var 5 :- var 1 :* var 6) :+ (var 4 :- var 0 :* var 6) :* (var 5 :- var 3 :* var 6) :+ ((var 2 :* var 6 :- var 4) :* (var 1 :* var 6 :- var 5) :+ (var 4 :- var 0 :* var 6) :* (var 3 :* var 6 :- var 5))) (con (pos 0)) tt)
    (pos_add (pos_mul w h) (pos_add_nonneg (pos_mul r a) (nonneg_mul l (pos_nonneg b))))

module _ (s : Segment) (p : HPoint) (t : T (counts_below p s)) where
  pub counts_from : NonNeg (p.X -ℤ s.left.x *ℤ p.W)
  unfolding counts_below
  counts_from = le_z_nonneg (s.left.x *ℤ p.W) p.X (and_left (le_z (s.left.x *ℤ p.W) p.X) (lt_z p.X (s.right.x *ℤ p.W)) (and_left (le_z (s.left.x *ℤ p.W) p.X && lt_z p.X (s.right.x *ℤ p.W)) (lt_z (pos 0) (side_at s p)) t))

  pub counts_to : Pos (s.right.x *ℤ p.W -ℤ p.X)
  unfolding counts_below
  counts_to = lt_z_pos p.X (s.right.x *ℤ p.W) (and_right (le_z (s.left.x *ℤ p.W) p.X) (lt_z p.X (s.right.x *ℤ p.W)) (and_left (le_z (s.left.x *ℤ p.W) p.X && lt_z p.X (s.right.x *ℤ p.W)) (lt_z (pos 0) (side_at s p)) t))

  pub counts_under : Pos (side_at s p)
  unfolding counts_below
  counts_under = lt_z0_pos (side_at s p) (and_right (le_z (s.left.x *ℤ p.W) p.X && lt_z p.X (s.right.x *ℤ p.W)) (lt_z (pos 0) (side_at s p)) t)

-- over both ends: the range of x alone, as the number of ends that are not past p
over_count : (s : Segment) (p : HPoint) → Pos p.W → NonNeg (s.right.x -ℤ s.left.x) → Pos (p.Y -ℤ s.left.y *ℤ p.W) → Pos (p.Y -ℤ s.right.y *ℤ p.W)
    → counts_below p s ≡ le_z (s.left.x *ℤ p.W) p.X ⊻ le_z (s.right.x *ℤ p.W) p.X
unfolding counts_below
over_count s p w wide a b =
    and_follows (le_z (s.left.x *ℤ p.W) p.X && lt_z p.X (s.right.x *ℤ p.W)) (lt_z (pos 0) (side_at s p))
    (λ t. pos_lt_z0 (side_at s p) (over_side s p w (le_z_nonneg (s.left.x *ℤ p.W) p.X (and_left (le_z (s.left.x *ℤ p.W) p.X) (lt_z p.X (s.right.x *ℤ p.W)) t)) (lt_z_pos p.X (s.right.x *ℤ p.W) (and_right (le_z (s.left.x *ℤ p.W) p.X) (lt_z p.X (s.right.x *ℤ p.W)) t)) a b))
    ∙ ap (λ c. le_z (s.left.x *ℤ p.W) p.X && c) (lt_z_le_z p.X (s.right.x *ℤ p.W))
    ∙ one_of (le_z (s.left.x *ℤ p.W) p.X) (le_z (s.right.x *ℤ p.W) p.X) left_too
  where
    left_too : T (le_z (s.right.x *ℤ p.W) p.X) → T (le_z (s.left.x *ℤ p.W) p.X)
    left_too t =
        nonneg_le_z (s.left.x *ℤ p.W) p.X
        (subst NonNeg (solve (values₁ s p) (var 4 :- var 2 :* var 6 :+ (var 2 :- var 0) :* var 6) (var 4 :- var 0 :* var 6) tt)
        (nonneg_add (le_z_nonneg (s.right.x *ℤ p.W) p.X t) (nonneg_mul wide (pos_nonneg w))))

    one_of : (l r : Bool) → (T r → T l) → l && not r ≡ l ⊻ r
    one_of true r f = refl
    one_of false r f = sym (refute r f)

-- ---- nothing inside lies beyond

module _ (a : ℤ) (l : List Segment) (p : HPoint) (w : Pos p.W) where
  -- a bound on an end, times W
  scaled : {z : ℤ} → NonNeg z → NonNeg (z *ℤ p.W)
  scaled h = nonneg_mul h (pos_nonneg w)

  pub even_beyond : (y : Way) → Even l → ((t : Segment) → t ∈ l → Ordered t) → KeptAll y a l → Beyond y a p → parity (counts_below p) l ≡ false
  even_beyond east even ord k b =
      parity_none (counts_below p) l
      (λ s m. refute (counts_below p s) (λ t. zero_pos (solve (s.right.x ∷ p.X ∷ p.W ∷ a ∷ []) (var 0 :* var 2 :- var 1 :+ (var 1 :- var 3 :* var 2) :+ (var 3 :- var 0) :* var 2) (con (pos 0)) tt) (pos_add_nonneg (pos_add (counts_to s p t) b) (scaled (k s m).1))))
  even_beyond west even ord k b =
      parity_none (counts_below p) l
      (λ s m. refute (counts_below p s) (λ t. zero_pos (solve (s.left.x ∷ p.X ∷ p.W ∷ a ∷ []) (var 1 :- var 0 :* var 2 :+ (opp (var 1) :- var 3 :* var 2) :+ (var 3 :- opp (var 0)) :* var 2) (con (pos 0)) tt) (pos_add_nonneg (nonneg_add_pos (counts_from s p t) b) (scaled (k s m).0))))
  even_beyond north even ord k b =
      parity_same (counts_below p) (λ s. le_z (s.left.x *ℤ p.W) p.X ⊻ le_z (s.right.x *ℤ p.W) p.X) l
      (λ s m. over_count s p w (width (ord s m)) (raised s.left.y (k s m).0) (raised s.right.y (k s m).1))
      ∙ even_ends l even (λ v. le_z (v.x *ℤ p.W) p.X)
    where
      raised : (y : ℤ) → NonNeg (a -ℤ y) → Pos (p.Y -ℤ y *ℤ p.W)
      raised y h = subst Pos (solve (p.Y ∷ y ∷ a ∷ p.W ∷ []) (var 0 :- var 2 :* var 3 :+ (var 2 :- var 1) :* var 3) (var 0 :- var 1 :* var 3) tt) (pos_add_nonneg b (scaled h))
  even_beyond south even ord k b =
      parity_none (counts_below p) l
      (λ s m. refute (counts_below p s) (λ t. under_side s p w (counts_from s p t) (counts_to s p t) (lowered s.left.y (k s m).0) (lowered s.right.y (k s m).1) (counts_under s p t)))
    where
      lowered : (y : ℤ) → NonNeg (a -ℤ neg_ℤ y) → Pos (y *ℤ p.W -ℤ p.Y)
      lowered y h = subst Pos (solve (p.Y ∷ y ∷ a ∷ p.W ∷ []) (opp (var 0) :- var 2 :* var 3 :+ (var 2 :- opp (var 1)) :* var 3) (var 1 :* var 3 :- var 0) tt) (pos_add_nonneg b (scaled h))

  -- "a point inside a region lies in its box"
  pub inside_kept : (y : Way) → Even l → ((t : Segment) → t ∈ l → Ordered t) → KeptAll y a l → Beyond y a p → inside l p ≡ false
  inside_kept y even ord k b = inside_parity l ord p (off_kept y a l ord k p b) ∙ even_beyond y even ord k b
