-- The flags of a sound scene are those that the table reads off its meetings and classes, whatever the types.
use Prim.Native.Nat.{ℕ}
use mathlib.Core.Path.{◌≡◌, refl}
use mathlib.Core.List.{List}
use Rattle.scene.specs.declared.Shape.{Shape}
use Rattle.scene.specs.declared.Shape.TheVariants.{Points, Line, Region}
use Rattle.scene.specs.declared.Scene.{Scene}
use Rattle.sweep_laws.specs.Noted.{Noted}
use Rattle.check_verdict.proofs.Laws.{SoundScene}
use Rattle.flags.specs.Flags.{flags_of_f, flags_of_g}
use Rattle.flags.specs.Elements.{elements_as, elements_of}
use Rattle.flags_meetings.specs.Met.{meetings}
use Rattle.flags_classes.specs.Classed.{classes_of_f, classes_of_g}
use Rattle.flags_table.specs.Table.{flags_of_f_by, flags_of_g_by}
use Rattle.flags_table.proofs.PointsPoints.{points_points_f, points_points_g}
use Rattle.flags_table.proofs.PointsLine.{points_line_f, points_line_g}
use Rattle.flags_table.proofs.PointsRegion.{points_region_f}
use Rattle.flags_table.proofs.LineLine.{line_line_f, line_line_g}
use Rattle.flags_table.proofs.LineRegion.{line_region_f, line_region_g}
use Rattle.flags_table.proofs.RegionRegion.{region_region_f, region_region_g}

module _ {s : List ℕ} {sc : Scene} {notes : List ℕ} (o : SoundScene s sc) (n : Noted s sc notes) where
  pub flags_of_f_lem : flags_of_f (elements_of s sc.f) (elements_of s sc.g) ≡ flags_of_f_by sc.f.shape sc.g.shape (meetings s sc notes) (classes_of_f s sc notes)
  flags_of_f_lem = go sc.f.shape sc.g.shape refl refl
    where
      go : (k m : Shape) → sc.f.shape ≡ k → sc.g.shape ≡ m → flags_of_f (elements_as s sc.f k) (elements_as s sc.g m) ≡ flags_of_f_by k m (meetings s sc notes) (classes_of_f s sc notes)
      go Points Points f g = points_points_f notes o f g
      go Points Line f g = points_line_f o n f g
      go Points Region f g = points_region_f o n f g
      go Line Points f g = refl
      go Line Line f g = line_line_f notes o f g
      go Line Region f g = line_region_f o n f g
      go Region Points f g = refl
      go Region Line f g = refl
      go Region Region f g = region_region_f o n f g

  pub flags_of_g_lem : flags_of_g (elements_of s sc.f) (elements_of s sc.g) ≡ flags_of_g_by sc.f.shape sc.g.shape (meetings s sc notes) (classes_of_g s sc notes)
  flags_of_g_lem = go sc.f.shape sc.g.shape refl refl
    where
      go : (k m : Shape) → sc.f.shape ≡ k → sc.g.shape ≡ m → flags_of_g (elements_as s sc.f k) (elements_as s sc.g m) ≡ flags_of_g_by k m (meetings s sc notes) (classes_of_g s sc notes)
      go Points Points f g = points_points_g notes o f g
      go Points Line f g = points_line_g o n f g
      go Points Region f g = refl
      go Line Points f g = refl
      go Line Line f g = line_line_g notes o f g
      go Line Region f g = line_region_g o n f g
      go Region Points f g = refl
      go Region Line f g = refl
      go Region Region f g = region_region_g o n f g
