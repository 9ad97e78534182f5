-- Several kinds of meetings together, as one test of the degrees and the note at some element of F; and a point of both objects at the elements of either.
use Prim.Native.Nat.{ℕ}
use mathlib.Core.Path.{◌≡◌, refl, sym, ap, ap₂, subst, ◌∙◌}
use mathlib.Core.Bool.{Bool, true, false, not, ◌&&◌, ◌||◌, or_assoc, or-false}
use mathlib.Core.List.{List}
use lib.Dec.{T, eqb, ltb}
use lib.ListN.{get_or}
use Rattle.whole.specs.Count.{◌∈◌, some}
use Rattle.whole.proofs.Logic.{same_test, some_find, some_make}
use Rattle.plane.specs.declared.Point.{Point}
use Rattle.plane.specs.Plane.{is_same_point, is_boundary}
use Rattle.plane.proofs.Equal.{same_point_read}
use Rattle.scene.specs.declared.Layout.{Layout}
use Rattle.scene.specs.declared.Scene.{Scene}
use Rattle.scene.specs.Conditions.{elements}
use Rattle.flags.proofs.Elements.{some_same}
use Rattle.scene_keys.specs.Keyed.{element_point}
use Rattle.flags_meetings.specs.Met.{degree, is_inner, Test, bound_outside_test, bound_inside_test, bound_on_test, bound_bound_test, bound_inner_test, inner_bound_test, inner_inner_test, some_of_f, meetings}
use Rattle.flags_meetings.proofs.PointKinds.{Kind, none, bound, inner, kind_of}
use Rattle.flags_table.specs.Table.{alone}
use Rattle.check_conditions.proofs.Counting.{some_or, some_count}
use Rattle.flags_table.proofs.Sizes.{Size, nought, one, more, size_of}

-- ---- a point of both objects

-- a point of a degree above 0 is that of some element
pub element_at : (s : List ℕ) (l : Layout) (v : Point) → T (ltb 0 (degree s l v)) → (i : ℕ) × (i ∈ elements l) × (element_point s l i ≡ v)
unfolding degree
element_at s l v t =
    let w = some_find (λ i. is_same_point (element_point s l i) v) (elements l) (subst T (sym (some_count (λ i. is_same_point (element_point s l i) v) (elements l))) t) in
    (w.0, w.1, same_point_read (element_point s l w.0) v w.2)

-- so a test that holds only of points of both objects may be made at the elements of either
pub at_either : (s : List ℕ) (l m : Layout) (c : Point → Bool) → ((v : Point) → T (c v) → T (ltb 0 (degree s l v)) × T (ltb 0 (degree s m v)))
    → some (λ i. c (element_point s l i)) (elements l) ≡ some (λ j. c (element_point s m j)) (elements m)
at_either s l m c both =
    same_test (some (λ i. c (element_point s l i)) (elements l)) (some (λ j. c (element_point s m j)) (elements m))
    (move l m (λ v t. (both v t).1)) (move m l (λ v t. (both v t).0))
  where
    move : (l m : Layout) → ((v : Point) → T (c v) → T (ltb 0 (degree s m v))) → T (some (λ i. c (element_point s l i)) (elements l)) → T (some (λ j. c (element_point s m j)) (elements m))
    move l m there h =
        let w = some_find (λ i. c (element_point s l i)) (elements l) h in
        let k = element_at s m (element_point s l w.0) (there (element_point s l w.0) w.2) in
        some_make (λ j. c (element_point s m j)) k.1 (subst (λ p. T (c p)) (sym k.2) w.2)

-- ---- kinds of meetings together

module _ (s : List ℕ) (sc : Scene) (notes : List ℕ) where
  abbrev met : Test → Bool
  met = some_of_f s sc notes

  -- two kinds, as one test
  either : (t u r : Test) → ((a b n : ℕ) → t a b n || u a b n ≡ r a b n) → met t || met u ≡ met r
  either t u r e =
      some_or _ _ (elements sc.f)
      ∙ some_same _ (λ i. r (degree s sc.f (element_point s sc.f i)) (degree s sc.g (element_point s sc.f i)) (get_or notes i 0))
      (λ i. e (degree s sc.f (element_point s sc.f i)) (degree s sc.g (element_point s sc.f i)) (get_or notes i 0)) (elements sc.f)

  -- bound in F and none of G's: not on G, and wherever it is
  pub bound_off : met bound_outside_test || met bound_inside_test ≡ met (λ a b n. is_boundary a && (eqb b 0 && not (ltb 1 n)))
  bound_off = either bound_outside_test bound_inside_test (λ a b n. is_boundary a && (eqb b 0 && not (ltb 1 n))) (λ a b n. go (is_boundary a) (eqb b 0) (size_of n))
    where
      go : (x y : Bool) {z e m : Bool} → Size z e m → x && (y && z) || x && (y && e) ≡ x && (y && not m)
      go true true nought = refl
      go true true one = refl
      go true true more = refl
      go true false n = refl
      go false y n = refl

  pub bound_alone : alone (meetings s sc notes) ≡ met (λ a b n. is_boundary a && eqb b 0)
  bound_alone =
      ap (λ x. x || met bound_on_test) bound_off
      ∙ either (λ a b n. is_boundary a && (eqb b 0 && not (ltb 1 n))) bound_on_test (λ a b n. is_boundary a && eqb b 0) (λ a b n. go (is_boundary a) (eqb b 0) (ltb 1 n))
    where
      go : (x y m : Bool) → x && (y && not m) || x && (y && m) ≡ x && y
      go true true true = refl
      go true true false = refl
      go true false m = refl
      go false y m = refl

  -- of both, bound in F, inner in F, and of either kind
  both : (x : Bool) {p z e m : Bool} → Kind p z e m → x && e || x && m ≡ x && p
  both true none = refl
  both true bound = refl
  both true inner = refl
  both false b = refl

  pub bound_meets : met bound_bound_test || met bound_inner_test ≡ met (λ a b n. is_boundary a && ltb 0 b)
  bound_meets = either bound_bound_test bound_inner_test (λ a b n. is_boundary a && ltb 0 b) (λ a b n. both (is_boundary a) (kind_of b))

  pub inner_meets : met inner_bound_test || met inner_inner_test ≡ met (λ a b n. is_inner a && ltb 0 b)
  inner_meets = either inner_bound_test inner_inner_test (λ a b n. is_inner a && ltb 0 b) (λ a b n. both (is_inner a) (kind_of b))

  pub meets : met bound_bound_test || met bound_inner_test || met inner_bound_test || met inner_inner_test ≡ met (λ a b n. ltb 0 a && ltb 0 b)
  meets =
      or_assoc (met bound_bound_test || met bound_inner_test) (met inner_bound_test) (met inner_inner_test)
      ∙ ap₂ ◌||◌ bound_meets inner_meets
      ∙ either (λ a b n. is_boundary a && ltb 0 b) (λ a b n. is_inner a && ltb 0 b) (λ a b n. ltb 0 a && ltb 0 b) (λ a b n. go (kind_of a) (ltb 0 b))
    where
      go : {p z e m : Bool} → Kind p z e m → (y : Bool) → e && y || m && y ≡ p && y
      go none y = refl
      go bound y = or-false y
      go inner y = refl

  -- bound in F, and on G: inner there, or between its ends, and anywhere on it
  pub bound_on_interior_lem : met bound_on_test || met bound_inner_test ≡ met (λ a b n. is_boundary a && (eqb b 0 && ltb 1 n || is_inner b))
  bound_on_interior_lem = either bound_on_test bound_inner_test (λ a b n. is_boundary a && (eqb b 0 && ltb 1 n || is_inner b)) (λ a b n. go (is_boundary a) (eqb b 0 && ltb 1 n) (is_inner b))
    where
      go : (x y z : Bool) → x && y || x && z ≡ x && (y || z)
      go true y z = refl
      go false y z = refl

  pub bound_on_object : met bound_on_test || met bound_bound_test || met bound_inner_test ≡ met (λ a b n. is_boundary a && (ltb 0 b || ltb 1 n))
  bound_on_object =
      or_assoc (met bound_on_test) (met bound_bound_test) (met bound_inner_test)
      ∙ ap (λ x. met bound_on_test || x) bound_meets
      ∙ either bound_on_test (λ a b n. is_boundary a && ltb 0 b) (λ a b n. is_boundary a && (ltb 0 b || ltb 1 n)) (λ a b n. go (is_boundary a) (kind_of b) (ltb 1 n))
    where
      go : (x : Bool) {p z e m : Bool} → Kind p z e m → (y : Bool) → x && (z && y) || x && p ≡ x && (p || y)
      go true none y = or-false y
      go true bound y = refl
      go true inner y = refl
      go false b y = refl
