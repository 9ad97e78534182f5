-- What taking one element sets, whatever the types: the table, read off the meeting at the element's point and the class of its segment.
use Prim.Native.Nat.{ℕ, ◌<◌}
use mathlib.Core.Path.{◌≡◌, refl, ap, ap₂}
use mathlib.Core.Bool.{true, false}
use mathlib.Core.List.{List, map}
use Rattle.scene.specs.declared.Shape.{Shape}
use Rattle.scene.specs.declared.Shape.TheVariants.{Points, Line, Region}
use Rattle.scene.specs.declared.Scene.{Scene}
use Rattle.sweep_laws.specs.Noted.{Noted}
use Rattle.check_verdict.proofs.Laws.{SoundScene}
use Rattle.flags.specs.Flags.{pack}
use Rattle.flags.specs.Elements.{elements_as}
use Rattle.flags_table.specs.Table.{flags_of_f_by, flags_of_g_by}
use Rattle.walk_events.specs.Taking.{tests_of, passes, own_tests, taken_flags}
use Rattle.walk_flags.specs.OneTaken.{met_by_f, met_by_g, class_by_f, class_by_g}
use Rattle.walk_flags.proofs.OfPoints.{points_points_f, points_line_f, points_region_f, points_points_g, points_line_g}
use Rattle.walk_flags.proofs.LineLine.{line_line_f, line_line_g, line_region_g}
use Rattle.walk_flags.proofs.LineRegion.{line_region_f}
use Rattle.walk_flags.proofs.RegionRegion.{region_region_f, region_region_g}

module _ {s : List ℕ} {sc : Scene} {notes : List ℕ} (o : SoundScene s sc) (n : Noted s sc notes) where
  pub one_of_f : (i : ℕ) → i < sc.f.count
      → taken_flags true s sc.f sc.g i ≡ pack (flags_of_f_by sc.f.shape sc.g.shape (met_by_f s sc notes i) (class_by_f s sc notes i))
  one_of_f i h = ap pack (go sc.f.shape sc.g.shape refl refl)
    where
      go : (k m : Shape) → sc.f.shape ≡ k → sc.g.shape ≡ m → map (passes s sc.f i) (own_tests true s sc.f sc.g) ≡ flags_of_f_by k m (met_by_f s sc notes i) (class_by_f s sc notes i)
      go Points Points f g = points_points_f notes o f i h (class_by_f s sc notes i) g
      go Points Line f g = points_line_f notes o f i h (class_by_f s sc notes i) n g
      go Points Region f g = points_region_f notes o f i h (class_by_f s sc notes i) n g
      go Line Points f g = ap₂ (λ k l. map (passes s sc.f i) (tests_of true (elements_as s sc.f k) (elements_as s sc.g l))) f g
      go Line Line f g = line_line_f notes o f g i h
      go Line Region f g = line_region_f o n f g i h
      go Region Points f g = ap₂ (λ k l. map (passes s sc.f i) (tests_of true (elements_as s sc.f k) (elements_as s sc.g l))) f g
      go Region Line f g = ap₂ (λ k l. map (passes s sc.f i) (tests_of true (elements_as s sc.f k) (elements_as s sc.g l))) f g
      go Region Region f g = region_region_f o n f g i h

  -- of an element of G the meeting may have any note
  pub one_of_g : (note j : ℕ) → j < sc.g.count
      → taken_flags false s sc.g sc.f j ≡ pack (flags_of_g_by sc.f.shape sc.g.shape (met_by_g s sc notes note j) (class_by_g s sc notes j))
  one_of_g note j h = ap pack (go sc.f.shape sc.g.shape refl refl)
    where
      go : (k m : Shape) → sc.f.shape ≡ k → sc.g.shape ≡ m → map (passes s sc.g j) (own_tests false s sc.g sc.f) ≡ flags_of_g_by k m (met_by_g s sc notes note j) (class_by_g s sc notes j)
      go Points Points f g = points_points_g notes o f note j h (class_by_g s sc notes j) g
      go Points Line f g = points_line_g notes o f note j h (class_by_g s sc notes j) g
      go Points Region f g = ap₂ (λ k l. map (passes s sc.g j) (tests_of false (elements_as s sc.g k) (elements_as s sc.f l))) g f
      go Line Points f g = ap₂ (λ k l. map (passes s sc.g j) (tests_of false (elements_as s sc.g k) (elements_as s sc.f l))) g f
      go Line Line f g = line_line_g notes o f g note j h
      go Line Region f g = line_region_g notes o f g note j
      go Region Points f g = ap₂ (λ k l. map (passes s sc.g j) (tests_of false (elements_as s sc.g k) (elements_as s sc.f l))) g f
      go Region Line f g = ap₂ (λ k l. map (passes s sc.g j) (tests_of false (elements_as s sc.g k) (elements_as s sc.f l))) g f
      go Region Region f g = region_region_g o n f g note j h
