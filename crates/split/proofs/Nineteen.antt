-- What an answer says of crossings off the grid, for every byte string and every room.
use Rattle.std.specs.Prelude.{Err, None, Ok, Some}
use Rattle.scene.specs.Read.{Fault}
use Prim.Native.Nat.{ℕ}
use native.Mathlib.Omega.{arith}
use mathlib.Core.Path.{◌≡◌, refl, sym, ap, subst, ◌∙◌}
use mathlib.Core.Logic.{⊎_elim}
use mathlib.Core.Bool.{Bool, true, false, cond, true≢false}
use mathlib.Core.List.{List}
use Rattle.whole.proofs.Logic.{true_is}
use Rattle.scene.specs.declared.Scene.{Scene}
use Rattle.scene.specs.declared.Reason.TheVariants.{OffGrid, TooManyElements, NoRoom}
use Rattle.scene.specs.Read.{decide, given_first, given_second}
use Rattle.scene.specs.Conditions.{has_segments, segments}
use Rattle.sweep_laws.proofs.SoundObject.{SoundObject, all_ordered}
use Rattle.split_cuts.specs.Split.{off_grid}
use Rattle.split.specs.Split.{is_copied, are_too_many, is_too_short, check_raw}
use Rattle.split.specs.OffGrid.{NoneOff, OffGridSays, OffGridMeans}
use Rattle.split.proofs.Given.{both_sound, one_false, none_in}
use Rattle.split.proofs.Judged.{with_own, split_after}
use Rattle.split.proofs.CrossedRecords.{none_crossed, earliest_crossed}

module _ (s : List ℕ) (sc : Scene) where
  -- after 19
  later : NoneOff s sc → (f g : Fault) → OffGridSays s sc (decide Err TooManyElements f (decide Err NoRoom g (Ok sc)))
  later none (Some p) g = record { at_fault = λ e. absurd (omega arith); no_fault = λ _. none }
  later none None (Some p) = record { at_fault = λ e. absurd (omega arith); no_fault = λ _. none }
  later none None None = none

  -- of a copied scene, one object has no segments
  copied : is_copied sc ≡ true → NoneOff s sc
  copied h i w =
      ⊎_elim (λ e. true≢false (sym (true_is (has_segments (given_first sc).shape) w.has_segment_lem) ∙ e)) (λ e. none_in s (given_second sc) e w.crossed.among)
      (one_false (has_segments (given_first sc).shape) (has_segments (given_second sc).shape) h)

  module _ (raw : check_raw s ≡ Ok sc) where
    first_sound : SoundObject s (given_first sc)
    first_sound = (both_sound s sc raw).0

    second_sound : SoundObject s (given_second sc)
    second_sound = (both_sound s sc raw).1

    asked : (f g h : Fault) → off_grid s (given_first sc) (segments s (given_second sc)) ≡ f
        → OffGridSays s sc (decide Err OffGrid f (decide Err TooManyElements g (decide Err NoRoom h (Ok sc))))
    asked (Some p) g h e =
        record { at_fault = λ _. earliest_crossed s (given_first sc) first_sound (segments s (given_second sc)) (all_ordered second_sound) p e; no_fault = λ k. absurd (omega arith) }
    asked None g h e = later (none_crossed s (given_first sc) first_sound (segments s (given_second sc)) (all_ordered second_sound) e) g h

    either : (g h : Fault) (b : Bool) → is_copied sc ≡ b
        → OffGridSays s sc (decide Err OffGrid (cond b None (off_grid s (given_first sc) (segments s (given_second sc)))) (decide Err TooManyElements g (decide Err NoRoom h (Ok sc))))
    either g h true e = later (copied e) g h
    either g h false e = asked (off_grid s (given_first sc) (segments s (given_second sc))) g h refl

pub off_grid_means : (s : List ℕ) (room : ℕ) → OffGridMeans s room
off_grid_means s room sc raw =
    subst (OffGridSays s sc) (sym (split_after s room ∙ ap (with_own s room) raw))
    (either s sc raw (are_too_many s sc) (is_too_short room s sc) (is_copied sc) refl)
