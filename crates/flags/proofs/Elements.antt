-- Tests over the elements of an object: "some" over lists, the segments of a region's edges, and a region's segment that another region has too, by the
-- sides of the interiors.
use Prim.Native.Nat.{ℕ}
use mathlib.Core.Path.{◌≡◌, refl, ap, ap₂, ◌∙◌}
use mathlib.Core.Bool.{Bool, true, false, not, ◌&&◌, ◌||◌, cond, and-false, or-false}
use mathlib.Core.List.{List, [], ◌∷◌, map, map-map}
use Rattle.whole.specs.Count.{◌∈◌, here, there, some}
use Rattle.plane.specs.declared.Segment.{Segment}
use Rattle.plane.specs.Plane.{is_same_segment}
use Rattle.scene.specs.declared.Layout.{Layout}
use Rattle.scene.specs.Conditions.{elements, keep, left_test, segments}
use Rattle.flags.specs.Flags.{Edge, outline, class02, class20, class11}
use Rattle.flags.specs.Elements.{edge_of, edges, same_edge, has_edge}

-- ---- "some" over lists

module _ {A : Type 0} where
  pub some_same : (f g : A → Bool) → ((a : A) → f a ≡ g a) → (l : List A) → some f l ≡ some g l
  some_same f g e [] = refl
  some_same f g e (a ∷ l) = ap₂ ◌||◌ (e a) (some_same f g e l)

  -- on the list
  pub some_on : (f g : A → Bool) (l : List A) → ((a : A) → a ∈ l → f a ≡ g a) → some f l ≡ some g l
  some_on f g [] e = refl
  some_on f g (a ∷ l) e = ap₂ ◌||◌ (e a here) (some_on f g l (λ b m. e b (there m)))

  pub some_never : (l : List A) → some (λ a. false) l ≡ false
  some_never [] = refl
  some_never (a ∷ l) = some_never l

  pub some_map : {B : Type 0} (f : B → Bool) (g : A → B) (l : List A) → some f (map g l) ≡ some (λ a. f (g a)) l
  some_map f g [] = refl
  some_map f g (a ∷ l) = ap (λ b. f (g a) || b) (some_map f g l)

some_keep : (f q : ℕ → Bool) (l : List ℕ) → some f (keep q l) ≡ some (λ i. q i && f i) l
some_keep f q [] = refl
some_keep f q (i ∷ l) = go (q i) (some_keep f q l)
  where
    go : (b : Bool) → some f (keep q l) ≡ some (λ i. q i && f i) l → some f (cond b (i ∷ keep q l) (keep q l)) ≡ (b && f i) || some (λ i. q i && f i) l
    go true e = ap (λ c. f i || c) e
    go false e = e

-- ---- the edges of a region

module _ (s : List ℕ) (l : Layout) where
  pub outline_edges : outline (edges s l) ≡ segments s l
  unfolding edges segments
  outline_edges = map-map (λ (e : Edge). e.segment) (edge_of s l) (keep (left_test s l) (elements l))

  pub some_edges : (f : Edge → Bool) → some f (edges s l) ≡ some (λ i. left_test s l i && f (edge_of s l i)) (elements l)
  unfolding edges
  some_edges f = some_map f (edge_of s l) (keep (left_test s l) (elements l)) ∙ some_keep (λ i. f (edge_of s l i)) (left_test s l) (elements l)

-- ---- a segment of two regions, by the sides of the interiors

module _ (t : Segment) (G : List Edge) where
  on_side : (side : Edge → Bool) (b : Bool) → some (λ g. is_same_segment t g.segment && (b && side g)) G ≡ b && some (λ g. is_same_segment t g.segment && side g) G
  on_side side true = refl
  on_side side false = some_same (λ g. is_same_segment t g.segment && false) (λ g. false) (λ g. and-false (is_same_segment t g.segment)) G ∙ some_never G

  on_other_side : (b : Bool) → some (λ g. is_same_segment t g.segment && (b && not g.ia || not b && g.ia)) G ≡ has_edge G t (not b)
  on_other_side true =
      some_same (λ g. is_same_segment t g.segment && (not g.ia || false)) (same_edge t false)
      (λ g. ap (λ c. is_same_segment t g.segment && c) (or-false (not g.ia))) G
  on_other_side false = refl

module _ (F G : List Edge) where
  pub both_above_lem : class02 F G ≡ some (λ (f : Edge). f.ia && has_edge G f.segment true) F
  both_above_lem = some_same _ (λ (f : Edge). f.ia && has_edge G f.segment true) (λ f. on_side f.segment G (λ g. g.ia) f.ia) F

  pub both_below : class20 F G ≡ some (λ (f : Edge). not f.ia && has_edge G f.segment false) F
  both_below = some_same _ (λ (f : Edge). not f.ia && has_edge G f.segment false) (λ f. on_side f.segment G (λ g. not g.ia) (not f.ia)) F

  pub opposite : class11 F G ≡ some (λ (f : Edge). has_edge G f.segment (not f.ia)) F
  opposite = some_same _ (λ (f : Edge). has_edge G f.segment (not f.ia)) (λ f. on_other_side f.segment G f.ia) F
