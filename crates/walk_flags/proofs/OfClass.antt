-- The class of one element's segment: one of the other object's, or none of them.
use Prim.Native.Nat.{ℕ}
use mathlib.Core.Path.{◌≡◌, refl, sym, ap, ◌∙◌}
use mathlib.Core.Bool.{Bool, true, false, not, ◌&&◌, ◌||◌}
use mathlib.Core.List.{List}
use lib.Dec.{eqb}
use Rattle.scene.specs.declared.Layout.{Layout}
use Rattle.scene.specs.Conditions.{half, ia, left_test, segments}
use Rattle.flags.specs.Flags.{has_segment}
use Rattle.flags_classes.specs.Classed.{is_shared, other_above, other_below}
use Rattle.flags_table.specs.Table.{unshared, shared}
use Rattle.flags_table.proofs.Classing.{has_either}
use Rattle.walk_flags.specs.OneTaken.{class_at}

module _ (s : List ℕ) (own other : Layout) (note : ℕ → ℕ) (i : ℕ) where
  pub is_unshared : left_test s own i && not (has_segment (segments s other) (half s own i).segment) ≡ unshared (class_at s own other note i)
  is_unshared = go (left_test s own i) (ia s own i) (is_shared s own other i) (eqb (note i) 0)
    where
      go : (l x w z : Bool) → l && not w ≡ l && (x && (not w && z)) || l && (not x && (not w && z)) || l && (x && (not w && not z)) || l && (not x && (not w && not z))
      go false x w z = refl
      go true true true z = refl
      go true true false true = refl
      go true true false false = refl
      go true false true z = refl
      go true false false true = refl
      go true false false false = refl

  pub is_shared_lem : left_test s own i && has_segment (segments s other) (half s own i).segment ≡ shared (class_at s own other note i)
  is_shared_lem =
      ap (λ w. left_test s own i && w) (sym (has_either s other (half s own i).segment))
      ∙ go (left_test s own i) (ia s own i) (other_above s own other i) (other_below s own other i)
    where
      go : (l x a b : Bool) → l && (a || b) ≡ (l && (x && a) || l && (not x && b)) || l && (x && b || not x && a)
      go false x a b = refl
      go true true true b = refl
      go true true false true = refl
      go true true false false = refl
      go true false true true = refl
      go true false true false = refl
      go true false false true = refl
      go true false false false = refl

-- with the interior above it, or not
pub either_side : (l x w : Bool) → l && w ≡ l && (x && w) || l && (not x && w)
either_side false x w = refl
either_side true true true = refl
either_side true true false = refl
either_side true false w = refl
