-- Document 02, Paper 8: "Give each cell as F, 0, 1 or 2: empty; a finite number of points and at least one; all points of some segment of non-zero length but
-- of no triangle with area; all points of some triangle with area. Points, and the ends and corners of such segments and triangles, have fraction
-- coordinates". Here of any set of points, given by what its points satisfy.
use Rattle.std.specs.Prelude.{ℕ, ◌<◌, ◌≡◌, Bool, true, false, List, ℤ, pos, ◌+ℤ◌, ◌-ℤ◌, ◌*ℤ◌}
use Rattle.whole.specs.Count.{◌∈◌}
use Rattle.plane.specs.Plane.{FractionPoint, fractions, HPoint}
use Rattle.plane_dimensions.specs.declared.Dimension.{Dimension}
use Rattle.plane_dimensions.specs.declared.Dimension.TheVariants.{Empty, Points, Length, Area}

-- ---- points, segments and triangles

-- Two points, (X/W, Y/W) each, with equal coordinates
pub record Same (p q : HPoint) : Type 0 where
  pub same_x : p.X *ℤ q.W ≡ q.X *ℤ p.W
  pub same_y : p.Y *ℤ q.W ≡ q.Y *ℤ p.W

-- Twice the area of the triangle a b c, signed, times the corners' denominators: zero exactly when the three points lie on one line
unfoldable pub area : HPoint → HPoint → HPoint → ℤ
area a b c =
    a.X *ℤ (b.Y *ℤ c.W -ℤ c.Y *ℤ b.W) -ℤ a.Y *ℤ (b.X *ℤ c.W -ℤ c.X *ℤ b.W)
    +ℤ a.W *ℤ (b.X *ℤ c.Y -ℤ c.X *ℤ b.Y)

-- p is a point of the segment from a to b: a mean of its ends, with weights that are not negative
pub record OfSegment (a b p : HPoint) : Type 0 where
  pub k : ℕ
  pub l : ℕ
  pub m : ℕ
  pub above_zero : 0 < k
  pub mean_x : pos k *ℤ p.X ≡ pos l *ℤ a.X +ℤ pos m *ℤ b.X
  pub mean_y : pos k *ℤ p.Y ≡ pos l *ℤ a.Y +ℤ pos m *ℤ b.Y
  pub mean_w : pos k *ℤ p.W ≡ pos l *ℤ a.W +ℤ pos m *ℤ b.W

-- p is a point of the triangle a b c: a mean of its corners, with weights that are not negative
pub record OfTriangle (a b c p : HPoint) : Type 0 where
  pub k : ℕ
  pub l : ℕ
  pub m : ℕ
  pub n : ℕ
  pub above_zero : 0 < k
  pub mean_x : pos k *ℤ p.X ≡ pos l *ℤ a.X +ℤ pos m *ℤ b.X +ℤ pos n *ℤ c.X
  pub mean_y : pos k *ℤ p.Y ≡ pos l *ℤ a.Y +ℤ pos m *ℤ b.Y +ℤ pos n *ℤ c.Y
  pub mean_w : pos k *ℤ p.W ≡ pos l *ℤ a.W +ℤ pos m *ℤ b.W +ℤ pos n *ℤ c.W

-- ---- a set of points

module _ (A : FractionPoint → Type 0) where
  -- "a finite number of points": a list that has every one of them
  pub record Finite : Type 0 where
    pub list : List FractionPoint
    pub each : (p : FractionPoint) → A p → (q : FractionPoint) × (q ∈ list) × Same (fractions p) (fractions q)

  -- "all points of some segment of non-zero length"
  pub record Stretch : Type 0 where
    pub a : FractionPoint
    pub b : FractionPoint
    pub non_zero : Same (fractions a) (fractions b) → ⊥
    pub all : (p : FractionPoint) → OfSegment (fractions a) (fractions b) (fractions p) → A p

  -- "all points of some triangle with area"
  pub record Patch : Type 0 where
    pub a : FractionPoint
    pub b : FractionPoint
    pub c : FractionPoint
    pub non_zero : area (fractions a) (fractions b) (fractions c) ≡ pos 0 → ⊥
    pub all : (p : FractionPoint) → OfTriangle (fractions a) (fractions b) (fractions c) (fractions p) → A p

-- ---- the four values

-- what each says of a set of points
abbrev pub Value : Dimension → (FractionPoint → Type 0) → Type 0
Value Empty A = (p : FractionPoint) → A p → ⊥
Value Points A = (p : FractionPoint) × A p × Finite A
Value Length A = Stretch A × (Patch A → ⊥)
Value Area A = Patch A

-- no set has two of the values (proofs/Values.antt)
abbrev pub OneValue : Type 1
OneValue = (A : FractionPoint → Type 0) (d e : Dimension) → Value d A → Value e A → d ≡ e

-- "Where an answer is an enum, a definition states this paper's number and values for every one of its cases": F, 0, 1 and 2 in ASCII
abbrev pub sign : Dimension → ℕ
sign Empty = 70
sign Points = 48
sign Length = 49
sign Area = 50

-- the yes or no that a value stands for: "T means any but F"
abbrev pub not_empty : Dimension → Bool
not_empty Empty = false
not_empty Points = true
not_empty Length = true
not_empty Area = true
