-- A point strictly inside a segment is on its line, after its left end and before its right.
use mathlib.Core.Path.{◌≡◌, refl, sym, ap₂, ◌∙◌, subst}
use mathlib.Core.Bool.{Bool, true, false, not, ◌&&◌, ◌||◌}
use mathlib.Core.Logic.{◌⊎◌, inl, inr}
use lib.Dec.{T}
use lib.IntN.{pos}
use Rattle.whole.specs.Count.{eq_z}
use Rattle.whole.proofs.Logic.{true_is, refute}
use Rattle.plane.specs.declared.Point.{Point}
use Rattle.plane.specs.declared.Segment.{Segment}
use Rattle.plane.specs.Plane.{before, is_same_point, side, end_within}
use Rattle.plane.proofs.Grid.{on_by_side, end_grid}
use Rattle.plane.proofs.Order.{before_irreflexive, before_trans, before_cases}
use Rattle.plane.proofs.Equal.{same_point_read, same_point_refl}

-- p comes before q exactly where q does not come before it and is another, whichever of the two is named first
module _ (p q : Point) (same : Bool) (read : T same → p ≡ q) (make : p ≡ q → same ≡ true) where
  neither : (not (before q p) && not same) ≡ before p q
  neither = go (before_cases p q)
    where
      none : p ≡ q → before p q ≡ false
      none e = refute (before p q) (λ t. before_irreflexive q (subst (λ r. T (before r q)) e t))

      go : T (before p q) ⊎ ((p ≡ q) ⊎ T (before q p)) → (not (before q p) && not same) ≡ before p q
      go (inl t) = rw (true_is (before p q) t, refute (before q p) (λ u. before_irreflexive p (before_trans p q p t u)), refute same (λ u. before_irreflexive q (subst (λ r. T (before r q)) (read u) t))) refl
      go (inr (inl e)) = rw (make e, none e) (no_more (not (before q p)))
        where
          no_more : (b : Bool) → (b && false) ≡ false
          no_more true = refl
          no_more false = refl
      go (inr (inr t)) = rw (true_is (before q p) t, refute (before p q) (λ u. before_irreflexive p (before_trans p q p u t))) refl

sorted : (a b c d e : Bool) → ((a && b && c) && not (d || e)) ≡ (a && (b && not d) && (c && not e))
sorted false b c d e = refl
sorted true false c d e = refl
sorted true true false true e = refl
sorted true true false false e = refl
sorted true true true true e = refl
sorted true true true false e = refl

pub inside_is : (s : Segment) (c : Point) → (eq_z (side s.left s.right c) (pos 0) && before s.left c && before c s.right) ≡ end_within s c
unfolding end_within
inside_is s c =
    sym (ap₂ (λ a b. a && not b) (on_by_side s c) (end_grid s c)
    ∙ sorted (eq_z (side s.left s.right c) (pos 0)) (not (before c s.left)) (not (before s.right c)) (is_same_point s.left c) (is_same_point s.right c)
    ∙ ap₂ (λ b d. eq_z (side s.left s.right c) (pos 0) && b && d)
    (neither s.left c (is_same_point s.left c) (same_point_read s.left c) (λ e. subst (λ r. is_same_point s.left r ≡ true) e (true_is (is_same_point s.left s.left) (same_point_refl s.left))))
    (neither c s.right (is_same_point s.right c) (λ t. sym (same_point_read s.right c t)) (λ e. subst (λ r. is_same_point s.right r ≡ true) (sym e) (true_is (is_same_point s.right s.right) (same_point_refl s.right)))))
