-- How many elements an object has at most; which objects have left halfsegments, and that none is passed at the start.
use Prim.Native.Nat.{ℕ, ◌≤◌}
use native.Mathlib.Omega.{arith}
use mathlib.Core.Path.{◌≡◌}
use mathlib.Core.Bool.{true}
use mathlib.Core.List.{List}
use lib.Dec.{T}
use Rattle.whole.proofs.Logic.{and_left, is_true}
use Rattle.scene.specs.declared.Layout.{Layout}
use Rattle.scene.specs.Read.{IsObject}
use Rattle.scene.specs.Conditions.{has_segments, half, left_test}
use Rattle.scene.proofs.Taken.{taken_object}
use Rattle.flags_classes.specs.Walked.{NoneLeft}

-- so that there is room for a note of each
pub few : (s : List ℕ) (l : Layout) → IsObject s l → l.count ≤ 1024
few s l is = (taken_object s l.start l is).few

module _ (s : List ℕ) (l : Layout) where
  -- which objects with segments alone have
  pub left_has : (i : ℕ) → left_test s l i ≡ true → T (has_segments l.shape)
  left_has i e = and_left (has_segments l.shape) (half s l i).is_left (is_true (left_test s l i) e)

  pub none_yet : (i : ℕ) → NoneLeft s l i i
  none_yet i m h n = absurd (omega arith)
