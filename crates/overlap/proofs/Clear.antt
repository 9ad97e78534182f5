-- The midpoint of a segment of either region lies on a region's segments where the segment is one of them, and nowhere else; so of each segment that the
-- walk comes to.
use Prim.Native.Nat.{ℕ}
use mathlib.Core.Logic.{◌⊎◌, ⊎_elim}
use mathlib.Core.List.{List}
use Rattle.whole.specs.Count.{◌∈◌}
use Rattle.plane.specs.declared.Segment.{Segment}
use Rattle.plane.proofs.OnSegment.{ordered_read}
use Rattle.scene.specs.declared.Scene.{Scene}
use Rattle.scene.specs.Conditions.{segments}
use Rattle.check_verdict.proofs.Laws.{SoundScene, all_ordered, split, across}
use Rattle.flags.specs.Elements.{Clear}
use Rattle.flags.proofs.Clear.{clear_of}
use Rattle.cells_matrix.proofs.Common.{across_swap}

pub either_clear : {s : List ℕ} {sc : Scene} → SoundScene s sc → (t : Segment) → (t ∈ segments s sc.f) ⊎ (t ∈ segments s sc.g) → Clear (segments s sc.f) t × Clear (segments s sc.g) t
either_clear {s} {sc} o t = ⊎_elim of_f_lem of_g_lem
  where
    of_f_lem : t ∈ segments s sc.f → Clear (segments s sc.f) t × Clear (segments s sc.g) t
    of_f_lem k =
        let d = ordered_read t (all_ordered o.f_sound t k) in (
          clear_of (segments s sc.f) (all_ordered o.f_sound) t d (λ u i. (split o.f_sound).apart t u k i),
          clear_of (segments s sc.g) (all_ordered o.g_sound) t d (λ u i. across o t u k i),
        )

    of_g_lem : t ∈ segments s sc.g → Clear (segments s sc.f) t × Clear (segments s sc.g) t
    of_g_lem k =
        let d = ordered_read t (all_ordered o.g_sound t k) in (
          clear_of (segments s sc.f) (all_ordered o.f_sound) t d (λ u i. across_swap (across o) t u k i),
          clear_of (segments s sc.g) (all_ordered o.g_sound) t d (λ u i. (split o.g_sound).apart t u k i),
        )
