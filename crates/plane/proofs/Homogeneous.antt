-- Homogeneous points: their determinant, and the identities behind every lemma on the plane. Each is one call of the ring solver, over
-- the expressions that mirror the definitions.
use mathlib.Core.Path.{◌≡◌}
use mathlib.Core.List.{List, [], ◌∷◌}
use lib.IntN.{ℤ, pos, neg_ℤ, ◌+ℤ◌, ◌-ℤ◌, ◌*ℤ◌}
use Rattle.whole.proofs.Solver.{Exp, var, con, opp, ◌:+◌, ◌:-◌, ◌:*◌, solve}
use Rattle.whole.proofs.Ring.{one-mul}
use Rattle.plane.specs.declared.Point.{Point}
use Rattle.plane.specs.declared.Segment.{Segment}
use Rattle.plane.specs.Plane.{HPoint, grid, side, side_at}

infixl 26 ◌⊞◌
infixl 27 ◌⋆◌
-- a multiple of a triple, and a sum
abbrev pub ◌⋆◌ : ℤ → HPoint → HPoint
k ⋆ p = record { X = k *ℤ p.X; Y = k *ℤ p.Y; W = k *ℤ p.W }

abbrev pub ◌⊞◌ : HPoint → HPoint → HPoint
p ⊞ q = record { X = p.X +ℤ q.X; Y = p.Y +ℤ q.Y; W = p.W +ℤ q.W }

-- The determinant of three triples: above zero when p lies left of u → v
unfoldable pub det : HPoint → HPoint → HPoint → ℤ
det u v p =
    u.X *ℤ (v.Y *ℤ p.W -ℤ p.Y *ℤ v.W) -ℤ u.Y *ℤ (v.X *ℤ p.W -ℤ p.X *ℤ v.W)
    +ℤ u.W *ℤ (v.X *ℤ p.Y -ℤ p.X *ℤ v.Y)

-- how far q is right of p, times both denominators
unfoldable pub dx : HPoint → HPoint → ℤ
dx p q = q.X *ℤ p.W -ℤ p.X *ℤ q.W

-- ---- the definitions over expressions

pub record Triple : Type 0 where
  pub X : Exp
  pub Y : Exp
  pub W : Exp

abbrev pub triple : Exp → Exp → Exp → Triple
triple x y w = record { X = x; Y = y; W = w }

abbrev pub gridᵉ : Exp → Exp → Triple
gridᵉ x y = triple x y (con (pos 1))

abbrev pub detᵉ : Triple → Triple → Triple → Exp
detᵉ u v p =
    u.X :* (v.Y :* p.W :- p.Y :* v.W) :- u.Y :* (v.X :* p.W :- p.X :* v.W)
    :+ u.W :* (v.X :* p.Y :- p.X :* v.Y)

abbrev pub dxᵉ : Triple → Triple → Exp
dxᵉ p q = q.X :* p.W :- p.X :* q.W

abbrev pub sideᵉ : Exp → Exp → Exp → Exp → Triple → Exp
sideᵉ lx ly rx ry p = (rx :- lx) :* (p.Y :- ly :* p.W) :- (ry :- ly) :* (p.X :- lx :* p.W)

-- a segment's ends are the variables 0 to 3, and up to three points follow
abbrev pub left : Triple
left = gridᵉ (var 0) (var 1)

abbrev pub right : Triple
right = gridᵉ (var 2) (var 3)

abbrev pub side_atᵉ : Triple → Exp
side_atᵉ p = sideᵉ (var 0) (var 1) (var 2) (var 3) p

abbrev pub first : Triple
first = triple (var 4) (var 5) (var 6)

abbrev pub second : Triple
second = triple (var 7) (var 8) (var 9)

abbrev pub values₁ : Segment → HPoint → List ℤ
values₁ s p = s.left.x ∷ s.left.y ∷ s.right.x ∷ s.right.y ∷ p.X ∷ p.Y ∷ p.W ∷ []

abbrev pub values₂ : Segment → HPoint → HPoint → List ℤ
values₂ s p q =
    s.left.x ∷ s.left.y ∷ s.right.x ∷ s.right.y ∷ p.X ∷ p.Y ∷ p.W ∷ q.X ∷ q.Y ∷ q.W ∷ []

-- ---- side values are determinants

pub side_at_det : (s : Segment) (p : HPoint) → side_at s p ≡ det (grid s.left) (grid s.right) p
unfolding side_at det
side_at_det s p = solve (values₁ s p) (side_atᵉ first) (detᵉ left right first) tt

pub side_grid : (s : Segment) (c : Point) → side_at s (grid c) ≡ side s.left s.right c
unfolding side_at side
side_grid s c =
    solve (s.left.x ∷ s.left.y ∷ s.right.x ∷ s.right.y ∷ c.x ∷ c.y ∷ []) (side_atᵉ (gridᵉ (var 4) (var 5)))
    ((var 2 :- var 0) :* (var 5 :- var 1) :- (var 3 :- var 1) :* (var 4 :- var 0))
    tt

-- ---- Cramer's identity: both sides are where the line of s and the line p q cross

pub triple_eq : {p q : HPoint} → p.X ≡ q.X → p.Y ≡ q.Y → p.W ≡ q.W → p ≡ q
triple_eq e f g = λ i. record { X = e i; Y = f i; W = g i }

abbrev crossᵉ : Exp → Exp → Exp
crossᵉ a b = opp (side_atᵉ second) :* a :+ side_atᵉ first :* b

abbrev crossˢ : Exp → Exp → Exp
crossˢ l r = detᵉ first second right :* l :+ opp (detᵉ first second left) :* r

-- where the line of s meets the line from p to q, by the two points and by the two ends
abbrev pub crossing : Segment → HPoint → HPoint → HPoint
crossing s p q = neg_ℤ (side_at s q) ⋆ p ⊞ side_at s p ⋆ q

pub cramer : (s : Segment) (p q : HPoint)
    → crossing s p q ≡ det p q (grid s.right) ⋆ grid s.left ⊞ neg_ℤ (det p q (grid s.left)) ⋆ grid s.right
unfolding side_at det
cramer s p q =
    triple_eq (solve (values₂ s p q) (crossᵉ (var 4) (var 7)) (crossˢ (var 0) (var 2)) tt)
    (solve (values₂ s p q) (crossᵉ (var 5) (var 8)) (crossˢ (var 1) (var 3)) tt)
    (solve (values₂ s p q) (crossᵉ (var 6) (var 9)) (crossˢ (con (pos 1)) (con (pos 1))) tt)

-- its x, seen from an end of s and from p and q: the interpolation identities
pub seen_from_left : (s : Segment) (p q : HPoint)
    → side_at s p *ℤ (q.X -ℤ s.left.x *ℤ q.W) -ℤ side_at s q *ℤ (p.X -ℤ s.left.x *ℤ p.W)
    ≡ neg_ℤ (det p q (grid s.left)) *ℤ (s.right.x -ℤ s.left.x)
unfolding side_at det
seen_from_left s p q =
    solve (values₂ s p q)
    (side_atᵉ first :* (var 7 :- var 0 :* var 9) :- side_atᵉ second :* (var 4 :- var 0 :* var 6))
    (opp (detᵉ first second left) :* (var 2 :- var 0))
    tt

pub seen_from_right : (s : Segment) (p q : HPoint)
    → side_at s p *ℤ (q.X -ℤ s.right.x *ℤ q.W) -ℤ side_at s q *ℤ (p.X -ℤ s.right.x *ℤ p.W)
    ≡ neg_ℤ (det p q (grid s.right)) *ℤ (s.right.x -ℤ s.left.x)
unfolding side_at det
seen_from_right s p q =
    solve (values₂ s p q)
    (side_atᵉ first :* (var 7 :- var 2 :* var 9) :- side_atᵉ second :* (var 4 :- var 2 :* var 6))
    (opp (detᵉ first second right) :* (var 2 :- var 0))
    tt

pub seen_from_first : (s : Segment) (p q : HPoint)
    → det p q (grid s.left) *ℤ (s.right.x *ℤ p.W -ℤ p.X) -ℤ det p q (grid s.right) *ℤ (s.left.x *ℤ p.W -ℤ p.X)
    ≡ neg_ℤ (side_at s p) *ℤ dx p q
unfolding side_at det dx
seen_from_first s p q =
    solve (values₂ s p q)
    (detᵉ first second left :* (var 2 :* var 6 :- var 4) :- detᵉ first second right :* (var 0 :* var 6 :- var 4))
    (opp (side_atᵉ first) :* dxᵉ first second)
    tt

pub seen_from_second : (s : Segment) (p q : HPoint)
    → det p q (grid s.left) *ℤ (s.right.x *ℤ q.W -ℤ q.X) -ℤ det p q (grid s.right) *ℤ (s.left.x *ℤ q.W -ℤ q.X)
    ≡ neg_ℤ (side_at s q) *ℤ dx p q
unfolding side_at det dx
seen_from_second s p q =
    solve (values₂ s p q)
    (detᵉ first second left :* (var 2 :* var 9 :- var 7) :- detᵉ first second right :* (var 0 :* var 9 :- var 7))
    (opp (side_atᵉ second) :* dxᵉ first second)
    tt

-- ---- the determinant changes sign with its first two points, and is linear in its third

pub det_swap : (p q : HPoint) (v : Point) → det q p (grid v) ≡ neg_ℤ (det p q (grid v))
unfolding det
det_swap p q v =
    solve (v.x ∷ v.y ∷ pos 0 ∷ pos 0 ∷ p.X ∷ p.Y ∷ p.W ∷ q.X ∷ q.Y ∷ q.W ∷ []) (detᵉ second first left)
    (opp (detᵉ first second left))
    tt

pub dx_swap : (p q : HPoint) → dx q p ≡ neg_ℤ (dx p q)
unfolding dx
dx_swap p q =
    solve (pos 0 ∷ pos 0 ∷ pos 0 ∷ pos 0 ∷ p.X ∷ p.Y ∷ p.W ∷ q.X ∷ q.Y ∷ q.W ∷ []) (dxᵉ second first) (opp (dxᵉ first second)) tt

pub one_times : (p : HPoint) → pos 1 ⋆ p ≡ p
one_times p = triple_eq (one-mul p.X) (one-mul p.Y) (one-mul p.W)
