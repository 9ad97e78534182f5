-- Which event comes next, by keys: where those of the dominating points of two halfsegments differ, they tell which of the two comes first.
use Prim.Native.Nat.{ℕ, ◌<◌, ◌≤◌}
use native.Mathlib.Omega.{arith}
use mathlib.Core.Path.{◌≡◌, refl, sym, ap, subst, ◌∙◌}
use mathlib.Core.Bool.{Bool, true, false, not}
use mathlib.Core.List.{List}
use lib.Dec.{T, T_not, ltb}
use borrow.Author.Tests.{ltb-true, ltb-false}
use Rattle.whole.proofs.Logic.{true_is, refute}
use Rattle.plane.specs.declared.Point.{Point}
use Rattle.plane.specs.declared.Halfsegment.{Halfsegment}
use Rattle.plane.specs.Plane.{in_range, before, dominating, comes_before}
use Rattle.scene.specs.declared.Layout.{Layout}
use Rattle.scene.specs.Read.{IsObject}
use Rattle.scene.specs.Conditions.{has_segments, half}
use Rattle.scene_keys.specs.Keyed.{key, keys, next_key}
use Rattle.scene_keys.proofs.Keys.{key_less, next_in}
use Rattle.scene_keys.proofs.Elements.{point_in_range, point_of_half}
use Rattle.sweep_laws.proofs.Ordered.{not_after, comes_by_point}

-- h of F and k of G
module _ (h k : Halfsegment) where
  abbrev p : Point
  p = dominating h

  abbrev q : Point
  q = dominating k

  by_keys : T (in_range p) → T (in_range q) → (key p ≡ key q → ⊥) → ltb (key p) (key q) ≡ not (comes_before k h)
  by_keys r t other = go (ltb (key p) (key q)) refl
    where
      go : (b : Bool) → ltb (key p) (key q) ≡ b → b ≡ not (comes_before k h)
      go true e = sym (ap not (refute (comes_before k h) (λ c. T_not (before p q) (not_after k h c) (key_less p q r t (ltb-true (key p) (key q) e)))))
      go false e = sym (ap not (true_is (comes_before k h) (comes_by_point k h (key_less q p t r (below (key p) (key q) (ltb-false (key p) (key q) e) other)))))
        where
          below : (m n : ℕ) → n ≤ m → (m ≡ n → ⊥) → n < m
          below m n l o = omega (arith, l, o)

-- the element i of f and j of g
module _ (s : List ℕ) (f g : Layout) (is_f : IsObject s f) (is_g : IsObject s g) (i j : ℕ) (within_f : i < f.count) (within_g : j < g.count) where
  pub first_by_keys : has_segments f.shape ≡ true → has_segments g.shape ≡ true → {a b : ℕ} → a ≡ next_key s f i → b ≡ next_key s g j → (a ≡ b → ⊥)
      → ltb a b ≡ not (comes_before (half s g j) (half s f i))
  first_by_keys has_f has_g {a} {b} of_f_lem of_g_lem other =
      ap (λ (m : ℕ). ltb m b) key_f_lem ∙ ap (ltb (key (dominating (half s f i)))) key_g_lem
      ∙ by_keys (half s f i) (half s g j)
      (subst (λ (v : Point). T (in_range v)) (point_of_half s f has_f i) (point_in_range s f is_f i within_f))
      (subst (λ (v : Point). T (in_range v)) (point_of_half s g has_g j) (point_in_range s g is_g j within_g))
      (λ e. other (key_f_lem ∙ e ∙ sym key_g_lem))
    where
      key_f_lem : a ≡ key (dominating (half s f i))
      key_f_lem = of_f_lem ∙ next_in f.count (keys s f) i within_f ∙ ap key (point_of_half s f has_f i)

      key_g_lem : b ≡ key (dominating (half s g j))
      key_g_lem = of_g_lem ∙ next_in g.count (keys s g) j within_g ∙ ap key (point_of_half s g has_g j)
