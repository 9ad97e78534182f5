-- 1, 1: the flags of two sets of points by the degrees, which are 0 and 1.
use Prim.Native.Nat.{ℕ}
use mathlib.Core.Path.{◌≡◌, sym, ap₂, ◌∙◌}
use mathlib.Core.Bool.{not, ◌&&◌, and-true}
use mathlib.Core.List.{List, [], ◌∷◌}
use Rattle.scene.specs.declared.Shape.TheVariants.{Points}
use Rattle.scene.specs.declared.Scene.{Scene}
use Rattle.check_verdict.proofs.Laws.{SoundScene}
use Rattle.flags.specs.Flags.{points, has_point, poi_disjoint, poi_shared, flags_of_f, flags_of_g}
use Rattle.flags.specs.Elements.{points_of}
use Rattle.scene_keys.specs.Keyed.{element_point}
use Rattle.flags_meetings.specs.Met.{meetings}
use Rattle.flags_classes.specs.Classed.{classes_of_f, classes_of_g}
use Rattle.flags_table.specs.Table.{alone, flags_of_f_by, flags_of_g_by}
use Rattle.flags_table.proofs.Degrees.{point_there, point_absent, own_point, some_points}
use Rattle.flags_table.proofs.Meeting.{bound_alone}

module _ {s : List ℕ} {sc : Scene} (notes : List ℕ) (o : SoundScene s sc) (f : sc.f.shape ≡ Points) (g : sc.g.shape ≡ Points) where
  pub points_points_f : flags_of_f (points (points_of s sc.f)) (points (points_of s sc.g)) ≡ flags_of_f_by Points Points (meetings s sc notes) (classes_of_f s sc notes)
  points_points_f = λ j. absent j ∷ both j ∷ []
    where
      absent : poi_disjoint (points_of s sc.f) (points_of s sc.g) ≡ alone (meetings s sc notes)
      absent =
          some_points o.f_sound f (λ v. not (has_point (points_of s sc.g) v)) _
          (λ i h. ap₂ ◌&&◌ (sym (own_point o.f_sound f i h)) (point_absent o.g_sound g (element_point s sc.f i)))
          ∙ sym (bound_alone s sc notes)

      both : poi_shared (points_of s sc.f) (points_of s sc.g) ≡ (meetings s sc notes).bound_bound
      both =
          some_points o.f_sound f (has_point (points_of s sc.g)) _
          (λ i h. ap₂ ◌&&◌ (sym (own_point o.f_sound f i h)) (point_there o.g_sound g (element_point s sc.f i)))

  pub points_points_g : flags_of_g (points (points_of s sc.f)) (points (points_of s sc.g)) ≡ flags_of_g_by Points Points (meetings s sc notes) (classes_of_g s sc notes)
  points_points_g = λ j. absent j ∷ []
    where
      absent : poi_disjoint (points_of s sc.g) (points_of s sc.f) ≡ (meetings s sc notes).bound_of_g
      absent =
          some_points o.g_sound g (λ v. not (has_point (points_of s sc.f) v)) _
          (λ j h. sym (and-true (not (has_point (points_of s sc.f) (element_point s sc.g j)))) ∙ ap₂ ◌&&◌ (point_absent o.f_sound f (element_point s sc.g j)) (sym (own_point o.g_sound g j h)))
