-- What a taken scene or object gives, in the form that the plane's lemmas take: elements in range and in strict order, partners, segments that are
-- split, even ends and right ia for regions, and no touch across the two objects.
use Rattle.scene.specs.declared.Reason.TheVariants.{Flawed}
use Rattle.scene.specs.declared.Flaw.TheVariants.{TouchingAcross}
use Rattle.std.specs.Prelude.{None, Ok}
use Prim.Native.Nat.{ℕ, ◌≤◌}
use mathlib.Core.Path.{◌≡◌}
use mathlib.Core.List.{List, [], ◌∷◌, ◌++◌, map}
use Rattle.plane.proofs.Accepted.{Across, across_from_touch}
use Rattle.scene.specs.declared.Layout.{Layout}
use Rattle.scene.specs.declared.Scene.{Scene}
use Rattle.scene.specs.Read.{shape_number, given_first, given_second, IsObject, IsScene}
use Rattle.scene.specs.Conditions.{segments, Rule, rule, object_rules, over_both, touching_across, scene_rules, check_scene_by, check_object}
use Rattle.scene.proofs.Taken.{TakenScene, both_of_given, taken_read}
use Rattle.scene.proofs.Given.{NoFault, in_neither, checked_scene_lem, checked_object_lem}
use Rattle.sweep_laws.proofs.SoundObject.{no_touch_across}
pub use Rattle.sweep_laws.proofs.SoundObject.{SoundObject, in_strict_order, no_half_twice, no_point_twice, left_in, in_left, segments_in_range, all_ordered, segments_sorted, no_touch, split, partner_of, segment_in, half_of_lem, regular, ia_is, point_in_range, points_sorted}

-- ---- a scene that 10 to 15 do not refuse

pub record SoundScene (s : List ℕ) (sc : Scene) : Type 0 where
  pub taken : TakenScene s sc
  pub f_sound : SoundObject s sc.f
  pub g_sound : SoundObject s sc.g
  pub apart : touching_across s sc ≡ None

-- it was read
pub sound_read : {s : List ℕ} {sc : Scene} → SoundScene s sc → IsScene s sc
sound_read o = taken_read o.taken

-- F's type is not above G's
pub ascending : {s : List ℕ} {sc : Scene} → SoundScene s sc → shape_number sc.f.shape ≤ shape_number sc.g.shape
ascending o = o.taken.ascending

-- 15: no segment of F touches one of G
pub across : {s : List ℕ} {sc : Scene} → SoundScene s sc → Across (segments s sc.f) (segments s sc.g)
across {s} {sc} o =
    across_from_touch (segments s sc.f) (segments s sc.g) (all_ordered o.f_sound) (all_ordered o.g_sound)
    (λ t u m k. (no_touch_across o.f_sound o.g_sound o.apart t u m k).0)

-- an object that 10 to 14 do not refuse
pub sound_object : (s : List ℕ) (l : Layout) → check_object s ≡ Ok l → SoundObject s l
sound_object s l e =
    let c = checked_object_lem s l e in
    record { read = c.0.read; order = c.1.0; paired = c.1.1.0; apart = c.1.1.1.0; even = c.1.1.1.1.0; right_ia = c.1.1.1.1.1.0 }

no_fault_after : {A : Type 0} (s : List ℕ) (a : A) (rules more : List (Rule A)) → NoFault s a (rules ++ more) → NoFault s a more
no_fault_after s a [] more n = n
no_fault_after s a (r ∷ rules) more n = no_fault_after s a rules more n.1

-- whatever conditions of its own a question has
pub sound_scene : (nine later : List (Rule Scene)) (s : List ℕ) (sc : Scene) → check_scene_by (scene_rules nine later) s ≡ Ok sc → SoundScene s sc
sound_scene nine later s sc e = record { taken = c.0; f_sound = both.0; g_sound = both.1; apart = n.1.1.1.1.1.0 }
  where
    c : TakenScene s sc × NoFault s sc (scene_rules nine later)
    c = checked_scene_lem (scene_rules nine later) s sc e

    n : NoFault s sc (map over_both object_rules ++ (rule (Flawed TouchingAcross) touching_across ∷ later))
    n = no_fault_after s sc nine (map over_both object_rules ++ (rule (Flawed TouchingAcross) touching_across ∷ later)) c.1

    each : NoFault s (given_first sc) object_rules × NoFault s (given_second sc) object_rules
    each = in_neither s sc object_rules (n.0, (n.1.0, (n.1.1.0, (n.1.1.1.0, (n.1.1.1.1.0, tt)))))

    of : {l : Layout} → IsObject s l → NoFault s l object_rules → SoundObject s l
    of is f = record { read = is; order = f.0; paired = f.1.0; apart = f.1.1.0; even = f.1.1.1.0; right_ia = f.1.1.1.1.0 }

    both : SoundObject s sc.f × SoundObject s sc.g
    both = both_of_given (SoundObject s) sc (of c.0.first_read each.0) (of c.0.second_taken.read each.1)
