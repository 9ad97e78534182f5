-- The topological flags in words: each sentence of document 01's section "Flags, bit 0 first", with the paper's definitions as 01 corrects them, as a
-- type with "some" and "every" over the elements. `Flags.antt` has the same flags as tests; proofs/Sentences.antt ties the two.
-- The paper's P(F) and H(F) are the elements of F: H(F) holds a segment twice, for each end, so dp(f) is any end of any segment. B(F) is F's boundary.
use Rattle.std.specs.Prelude.{ℕ, ◌≡◌, ◌≢◌, ◌⊎◌, List, [], ◌∷◌, T, get_or}
use Rattle.whole.specs.Count.{◌∈◌}
use Rattle.plane.specs.declared.Point.{Point}
use Rattle.plane.specs.declared.Segment.{Segment}
use Rattle.plane.specs.Plane.{grid, midpoint, on, inside, is_boundary, ends_at}
use Rattle.flags.specs.Flags.{Edge, Elements, points, line, region, outline}

-- ---- the words

module _ {A : Type 0} where
  -- "∃ a ∈ l" and "∀ a ∈ l"
  abbrev pub Some : List A → (A → Type 0) → Type 0
  Some l P = (a : A) × (a ∈ l) × P a

  abbrev pub Every : List A → (A → Type 0) → Type 0
  Every l P = (a : A) → a ∈ l → P a

-- on(v, s), and the same of some segment of l
abbrev pub On : Point → Segment → Type 0
On v s = T (on s (grid v))

abbrev pub OnSome : List Segment → Point → Type 0
OnSome l v = Some l λ s. On v s

-- v is an end of s, and of some segment of l
abbrev pub EndOf : Point → Segment → Type 0
EndOf v s = (v ≡ s.left) ⊎ (v ≡ s.right)

abbrev pub EndOfSome : List Segment → Point → Type 0
EndOfSome l v = Some l λ s. EndOf v s

-- v ∈ B(l): "an end belongs to a line's boundary when an odd number of its segments end there" (document 02, Paper 6), by the rule on the number of those
abbrev pub Bound : List Segment → Point → Type 0
Bound l v = EndOfSome l v × T (is_boundary (ends_at l (grid v)))

-- some end, and "∃ v ∈ B(l)"
abbrev pub SomeEnd : List Segment → (Point → Type 0) → Type 0
SomeEnd l P = (v : Point) × EndOfSome l v × P v

abbrev pub SomeBound : List Segment → (Point → Type 0) → Type 0
SomeBound l P = (v : Point) × Bound l v × P v

-- poiInRegion(v, l)
abbrev pub Inside : List Segment → Point → Type 0
Inside l v = T (inside l (grid v))

-- "poiIntersect unequal with a common end", and v is that end
abbrev pub MeetAt : Segment → Segment → Point → Type 0
MeetAt s t v = (s ≢ t) × EndOf v s × EndOf v t

-- ---- 1, 1; and the segments of 2, 2 and of 2, 3

module _ {A : Type 0} (F G : List A) where
  -- Definition 1 (i): "∃ f ∈ P(F) ∃ g ∈ P(G) : f = g". "seg_shared, a segment in both". "segIntersect means equal".
  abbrev pub Shared : Type 0
  Shared = Some F λ f. Some G λ g. f ≡ g

  -- Definition 1 (ii): "∃ f ∈ P(F) ∀ g ∈ P(G) : f ≠ g". "a point absent from the other object". "seg_unshared, one only in its own object".
  abbrev pub Unshared : Type 0
  Unshared = Some F λ f. Every G λ g. f ≢ g

-- ---- 1, 2 and 1, 3: Definitions 2 and 3

module _ (F : List Point) (G : List Segment) where
  -- 2 (i): "∃ f ∈ P(F) ∀ g ∈ H(G) : ¬ on(f, g.s)"
  abbrev pub PoiOff : Type 0
  PoiOff = Some F λ f. Every G λ g. ¬ On f g

  -- 2 (ii): "the point lies on a segment of G and is none of G's boundary points"
  abbrev pub PoiOnInterior : Type 0
  PoiOnInterior = Some F λ f. OnSome G f × ¬ Bound G f

  -- 2 (iii): "∃ f ∈ P(F) ∃ g ∈ B(G) : f = g"
  abbrev pub PoiOnBound : Type 0
  PoiOnBound = Some F λ f. Bound G f

  -- 2 (iv): "∃ g ∈ B(G) ∀ f ∈ P(F) : f ≠ g"
  abbrev pub BoundPoiDisjoint : Type 0
  BoundPoiDisjoint = SomeBound G λ v. Every F λ f. v ≢ f

  -- 3 (i): "∃ f ∈ P(F) : poiInRegion(f, G)"
  abbrev pub PoiInside : Type 0
  PoiInside = Some F λ f. Inside G f

  -- 3 (ii): "∃ f ∈ P(F) ∃ g ∈ H(G) : on(f, g.s)"
  abbrev pub PoiOnOutline : Type 0
  PoiOnOutline = Some F λ f. OnSome G f

  -- 3 (iii): "∃ f ∈ P(F) ∀ g ∈ H(G) : ¬ poiInRegion(f, G) ∧ ¬ on(f, g.s)"
  abbrev pub PoiOutside : Type 0
  PoiOutside = Some F λ f. (¬ Inside G f) × Every G λ g. ¬ On f g

-- ---- 2, 2

module _ (F G : List Segment) where
  -- "interior_poi_shared, an end in both objects and in neither boundary"
  abbrev pub InteriorPoiShared : Type 0
  InteriorPoiShared = SomeEnd F λ v. EndOfSome G v × ((¬ Bound F v) × ¬ Bound G v)

  -- "bound_on_interior, an own boundary point on the other object but not in its boundary"
  abbrev pub BoundOnInterior : Type 0
  BoundOnInterior = SomeBound F λ v. OnSome G v × ¬ Bound G v

  -- "bound_shared, a point of both boundaries"
  abbrev pub BoundShared : Type 0
  BoundShared = SomeBound F λ v. Bound G v

  -- "bound_disjoint, an own boundary point not on the other object"
  abbrev pub BoundDisjoint : Type 0
  BoundDisjoint = SomeBound F λ v. Every G λ g. ¬ On v g

-- ---- 2, 3: Definition 5

module _ (F G : List Segment) where
  -- (i): "∀ g ∈ H(G) : ¬ segIntersect(f.s, g.s)", and "A segment that isn't one of G is inside if its midpoint is inside G"
  abbrev pub SegInside : Type 0
  SegInside = Some F λ f. (Every G λ g. f ≢ g) × T (inside G (midpoint f))

  -- (iii): "and outside if not"
  abbrev pub SegOutside : Type 0
  SegOutside = Some F λ f. (Every G λ g. f ≢ g) × ¬ T (inside G (midpoint f))

  -- (iv): "∃ f ∈ H(F) ∃ g ∈ H(G) : poiIntersect(f.s, g.s) ∧ poiIntersection(f.s, g.s) ∉ B(F)"
  abbrev pub PoiMeets : Type 0
  PoiMeets = Some F λ f. Some G λ g. (v : Point) × MeetAt f g v × ¬ Bound F v

  -- (v): "∃ f ∈ H(F) : poiInRegion(dp(f), G) ∧ dp(f) ∈ B(F)"
  abbrev pub BoundInside : Type 0
  BoundInside = SomeBound F λ v. Inside G v

  -- (vi): "∃ f ∈ H(F) ∃ g ∈ H(G) : poiIntersect(f.s, g.s) ∧ poiIntersection(f.s, g.s) ∈ B(F)"
  abbrev pub BoundMeets : Type 0
  BoundMeets = Some F λ f. Some G λ g. (v : Point) × MeetAt f g v × Bound F v

  -- (vii): "∃ f ∈ H(F) ∀ g ∈ H(G) : ¬ poiInRegion(dp(f), G) ∧ dp(f) ∈ B(F) ∧ ¬ on(dp(f), g.s)", where "only the last clause ranges over g"
  abbrev pub BoundOutside : Type 0
  BoundOutside = SomeBound F λ v. (¬ Inside G v) × Every G λ g. ¬ On v g

-- ---- 3, 3: Definition 6, "the segment read without its two ends"; "Membership is that of the midpoint."

-- the open segment of e lies in the interior of l, and in its exterior, which is neither on a segment of l nor inside
abbrev pub InInterior : List Edge → Edge → Type 0
InInterior l e = T (inside (outline l) (midpoint e.segment))

abbrev pub InExterior : List Edge → Edge → Type 0
InExterior l e = (Every (outline l) λ s. ¬ T (on s (midpoint e.segment))) × ¬ T (inside (outline l) (midpoint e.segment))

-- f.ia
abbrev pub Above : Edge → Type 0
Above e = T e.ia

module _ (F G : List Edge) where
  -- (i): "∃ f ∈ H(F) : f.ia ∧ pts(f.s) ⊂ G⁻"
  abbrev pub Class01 : Type 0
  Class01 = Some F λ f. Above f × InExterior G f

  -- (ii): "∃ f ∈ H(F) : ¬ f.ia ∧ pts(f.s) ⊂ G⁻"
  abbrev pub Class10 : Type 0
  Class10 = Some F λ f. (¬ Above f) × InExterior G f

  -- (iii): "∃ f ∈ H(F) : f.ia ∧ pts(f.s) ⊂ G°"
  abbrev pub Class12 : Type 0
  Class12 = Some F λ f. Above f × InInterior G f

  -- (iv): "∃ f ∈ H(F) : ¬ f.ia ∧ pts(f.s) ⊂ G°"
  abbrev pub Class21 : Type 0
  Class21 = Some F λ f. (¬ Above f) × InInterior G f

  -- (v): "∃ f ∈ H(F) ∃ g ∈ H(G) : f.s = g.s ∧ f.ia ∧ g.ia"
  abbrev pub Class02 : Type 0
  Class02 = Some F λ f. Some G λ g. (f.segment ≡ g.segment) × (Above f × Above g)

  -- (vi): "∃ f ∈ H(F) ∃ g ∈ H(G) : f.s = g.s ∧ ¬ f.ia ∧ ¬ g.ia"
  abbrev pub Class20 : Type 0
  Class20 = Some F λ f. Some G λ g. (f.segment ≡ g.segment) × ((¬ Above f) × ¬ Above g)

  -- (vii): "∃ f ∈ H(F) ∃ g ∈ H(G) : f.s = g.s ∧ ((f.ia ∧ ¬ g.ia) ∨ (¬ f.ia ∧ g.ia))"
  abbrev pub Class11 : Type 0
  Class11 = Some F λ f. Some G λ g. (f.segment ≡ g.segment) × ((Above f × ¬ Above g) ⊎ ((¬ Above f) × Above g))

-- (viii): "∃ f ∈ H(F) ∃ g ∈ H(G) : f.s ≠ g.s ∧ dp(f) = dp(g)"
abbrev pub BoundPoiShared : List Segment → List Segment → Type 0
BoundPoiShared F G = Some F λ f. Some G λ g. (v : Point) × MeetAt f g v

-- ---- the table, bit 0 first

abbrev pub sentences_of_f : Elements → Elements → List (Type 0)
sentences_of_f (points F) (points G) = Unshared F G ∷ Shared F G ∷ []
sentences_of_f (points F) (line G) = PoiOff F G ∷ PoiOnInterior F G ∷ PoiOnBound F G ∷ []
sentences_of_f (points F) (region G) = PoiInside F (outline G) ∷ PoiOnOutline F (outline G) ∷ PoiOutside F (outline G) ∷ []
sentences_of_f (line F) (points G) = []
sentences_of_f (line F) (line G) =
    Shared F G ∷ InteriorPoiShared F G ∷ Unshared F G ∷ BoundOnInterior F G ∷ BoundShared F G ∷ BoundDisjoint F G ∷ []
sentences_of_f (line F) (region G) =
    SegInside F (outline G)
    ∷ Shared F (outline G)
    ∷ SegOutside F (outline G)
    ∷ PoiMeets F (outline G)
    ∷ BoundInside F (outline G)
    ∷ BoundMeets F (outline G)
    ∷ BoundOutside F (outline G)
    ∷ []
sentences_of_f (region F) (points G) = []
sentences_of_f (region F) (line G) = []
sentences_of_f (region F) (region G) =
    Class01 F G
    ∷ Class10 F G
    ∷ Class12 F G
    ∷ Class21 F G
    ∷ Class02 F G
    ∷ Class20 F G
    ∷ Class11 F G
    ∷ BoundPoiShared (outline F) (outline G)
    ∷ []

abbrev pub sentences_of_g : Elements → Elements → List (Type 0)
sentences_of_g (points F) (points G) = Unshared G F ∷ []
sentences_of_g (points F) (line G) = BoundPoiDisjoint F G ∷ []
sentences_of_g (points F) (region G) = []
sentences_of_g (line F) (points G) = []
sentences_of_g (line F) (line G) = Unshared G F ∷ BoundOnInterior G F ∷ BoundDisjoint G F ∷ []
sentences_of_g (line F) (region G) = Unshared (outline G) F ∷ []
sentences_of_g (region F) (points G) = []
sentences_of_g (region F) (line G) = []
sentences_of_g (region F) (region G) = Class01 G F ∷ Class10 G F ∷ Class12 G F ∷ Class21 G F ∷ []

-- Sentence k; there is none past the last, and nothing makes it hold
abbrev pub sentence : List (Type 0) → ℕ → Type 0
sentence l k = get_or l k ⊥
