-- The verdict on an object from the bytes of it and an empty one, and the check by the verdict.
use Rattle.std.specs.Prelude.{Ok, Err}
use Prim.Native.Nat.{ℕ, ◌≤◌}
use native.Mathlib.Omega.{arith}
use mathlib.Core.Path.{◌≡◌, sym, ap, subst, ◌∙◌}
use mathlib.Core.List.{List, ◌++◌}
use lib.ListN.{length}
use Rattle.scene.specs.declared.Layout.{Layout}
use Rattle.scene.specs.declared.Scene.{Scene}
use Rattle.scene.specs.declared.Refusal.{Refusal}
use Rattle.scene.specs.Read.{arranged, read_alone, IsScene}
use Rattle.scene.specs.Conditions.{check_object}
use Rattle.scene.proofs.Taken.{layout, longest, taken_alone, object_short}
use Rattle.check_verdict.specs.Refusals.{object_verdict, geometry_verdict}
use Rattle.check_verdict.proofs.Verdicts.{object_read}
use Rattle.check_alone.specs.Beside.{empty_of}
use Rattle.check_alone.proofs.EmptyBeside.{scene, is_scene, verdict_same}

pub short : (s : List ℕ) (l : Layout) → read_alone s ≡ Ok l → length s ≤ longest
short s l read = let t = taken_alone s l read in omega (arith, object_short s 0 l t.object, t.all)

-- what the verdict makes of the check
module _ (s : List ℕ) (l : Layout) (e : read_alone s ≡ Ok l) where
  pub at_fault : (r : Refusal) → object_verdict s l ≡ Err r → check_object s ≡ Err r
  at_fault r q = rw (object_read s l e, q)

  pub taken : object_verdict s l ≡ Ok tt → check_object s ≡ Ok l
  taken q = rw (object_read s l e, q)

-- the empty object stands where the object ends
module _ (s : List ℕ) (l : Layout) (read : read_alone s ≡ Ok l) where
  abbrev pub as_laid : Scene
  as_laid = arranged l (layout l.shape (length s) 0)

  scene_is : scene s l l.shape read ≡ as_laid
  scene_is = ap (λ (m : ℕ). arranged l (layout l.shape m 0)) (omega arith)

  pub laid_scene : IsScene (s ++ empty_of l.shape) as_laid
  laid_scene = subst (IsScene (s ++ empty_of l.shape)) scene_is (is_scene s l l.shape read)

  pub laid_verdict : geometry_verdict (s ++ empty_of l.shape) as_laid ≡ object_verdict s l
  laid_verdict = ap (geometry_verdict (s ++ empty_of l.shape)) (sym scene_is) ∙ verdict_same s l l.shape read
