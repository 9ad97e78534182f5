-- The degree of a point in a sound object: as many of the object's segments end there; in points, 1 where it is one of them.
use Prim.Native.Nat.{ℕ, ◌<◌}
use mathlib.Core.Path.{◌≡◌, refl, sym, ap, subst, ◌∙◌}
use mathlib.Core.Bool.{Bool, true, false, not}
use mathlib.Core.List.{List}
use lib.Dec.{T, eqb}
use Rattle.whole.specs.Count.{◌∈◌, bit, some}
use Rattle.whole.proofs.Logic.{true_is, same_test, some_make, in_map}
use Rattle.whole.proofs.Counted.{count_same}
use Rattle.plane.specs.declared.Point.{Point}
use Rattle.plane.specs.Plane.{grid, is_same_point, dominating, is_boundary, ends_at}
use Rattle.plane.proofs.Equal.{same_point_read, same_point_refl}
use Rattle.scene.specs.declared.Shape.TheVariants.{Points}
use Rattle.scene.specs.declared.Layout.{Layout}
use Rattle.scene.specs.Conditions.{elements, has_segments, half, segments}
use Rattle.scene_segments.proofs.Indices.{element_in, in_element}
use Rattle.check_verdict.proofs.Laws.{SoundObject, no_point_twice}
use Rattle.flags.specs.Flags.{has_point}
use Rattle.flags.specs.Elements.{point_of, points_of}
use Rattle.flags.proofs.Boundary.{boundary_none, boundary_one}
use Rattle.flags.proofs.Elements.{some_on, some_map}
use Rattle.scene_keys.specs.Keyed.{point_as, element_point}
use Rattle.scene_keys.proofs.Elements.{point_of_half}
use Rattle.flags_meetings.specs.Met.{degree}
use Rattle.check_conditions.proofs.Halves.{distinct_indices, one_index, halves_end}
use Rattle.check_conditions.proofs.Counting.{count_one}

-- ---- an object with segments

module _ {s : List ℕ} {l : Layout} (o : SoundObject s l) (has : has_segments l.shape ≡ true) where
  pub degree_ends : (v : Point) → degree s l v ≡ ends_at (segments s l) (grid v)
  unfolding degree
  degree_ends v =
      count_same (λ i. is_same_point (element_point s l i) v) (λ i. is_same_point (dominating (half s l i)) v) (elements l) (λ i m. ap (λ p. is_same_point p v) (point_of_half s l has i))
      ∙ halves_end s l o.read o.order o.paired has v

-- ---- points

pub point_itself : (s : List ℕ) (l : Layout) → l.shape ≡ Points → (i : ℕ) → element_point s l i ≡ point_of s l i
point_itself s l is i = ap (λ k. point_as s l k i) is

module _ {s : List ℕ} {l : Layout} (o : SoundObject s l) (is : l.shape ≡ Points) where
  none : has_segments l.shape ≡ false
  none = ap has_segments is

  degree_point : (v : Point) → degree s l v ≡ bit (has_point (points_of s l) v)
  unfolding degree points_of
  degree_point v =
      count_same (λ i. is_same_point (element_point s l i) v) test (elements l) (λ i m. ap (λ p. is_same_point p v) (point_itself s l is i) ∙ turned (point_of s l i))
      ∙ count_one test (distinct_indices l.count 0) (λ i j m k t u. one i j m k (sym (same_point_read v (point_of s l i) t) ∙ same_point_read v (point_of s l j) u))
      ∙ ap bit (sym (some_map (is_same_point v) (point_of s l) (elements l)))
    where
      test : ℕ → Bool
      test i = is_same_point v (point_of s l i)

      turned : (p : Point) → is_same_point p v ≡ is_same_point v p
      turned p =
          same_test (is_same_point p v) (is_same_point v p) (λ t. subst (λ q. T (is_same_point q p)) (same_point_read p v t) (same_point_refl p))
          (λ t. subst (λ q. T (is_same_point q v)) (same_point_read v p t) (same_point_refl v))

      one : (i j : ℕ) → i ∈ elements l → j ∈ elements l → point_of s l i ≡ point_of s l j → i ≡ j
      one i j m k e =
          one_index i j (λ h. no_point_twice o none i j h (in_element l j k) e) (λ h. no_point_twice o none j i h (in_element l i m) (sym e))

  -- the degree is 1 where the point is one of them, which makes it bound, and else 0
  pub point_there : (v : Point) → has_point (points_of s l) v ≡ is_boundary (degree s l v)
  point_there v = go (has_point (points_of s l) v) ∙ ap is_boundary (sym (degree_point v))
    where
      go : (b : Bool) → b ≡ is_boundary (bit b)
      go true = sym boundary_one
      go false = sym boundary_none

  pub point_absent : (v : Point) → not (has_point (points_of s l) v) ≡ eqb (degree s l v) 0
  point_absent v = go (has_point (points_of s l) v) ∙ ap (λ n. eqb n 0) (sym (degree_point v))
    where
      go : (b : Bool) → not b ≡ eqb (bit b) 0
      go true = refl
      go false = refl

  -- its own points are
  pub own_point : (i : ℕ) → i < l.count → is_boundary (degree s l (element_point s l i)) ≡ true
  unfolding points_of
  own_point i h =
      sym (point_there (element_point s l i))
      ∙ true_is (has_point (points_of s l) (element_point s l i)) (subst (λ p. T (has_point (points_of s l) p)) (sym (point_itself s l is i)) (some_make (is_same_point (point_of s l i)) (in_map (point_of s l) (element_in l i h)) (same_point_refl (point_of s l i))))

  -- "some point" by the elements
  pub some_points : (f : Point → Bool) (d : ℕ → Bool) → ((i : ℕ) → i < l.count → f (element_point s l i) ≡ d i) → some f (points_of s l) ≡ some d (elements l)
  unfolding points_of
  some_points f d e =
      some_map f (point_of s l) (elements l) ∙ some_on (λ i. f (point_of s l i)) d (elements l) (λ i m. ap f (sym (point_itself s l is i)) ∙ e i (in_element l i m))
