-- A walk's state, and what a portion of it gives, for every ground and every state; the beginning; and the state after n events, which is a function of the scene, the wanted masks
-- and n.
use Rattle.std.specs.Prelude.{Result, Ok, Err, ℕ, ◌+◌, ◌-◌, ◌*◌, ◌≡◌, min, Bool, ◌&&◌, cond, List, eqb, leb, length, get_or}
use Rattle.std.specs.Int.Bits.{bit_or}
use Rattle.scene.specs.declared.Scene.{Scene}
use Rattle.scene.specs.declared.Refusal.{Refusal}
use Rattle.scene.specs.declared.Reason.TheVariants.{Malformed, NoRoom}
use Rattle.scene.specs.Read.{CheckedScene, turned}
use Rattle.scene.specs.Conditions.{check_scene}
use Rattle.scene_segments.proofs.Walk.{between}
use Rattle.sweep_laws.specs.Noted.{Noted}
use Rattle.flags.proofs.Marks.{gather}
use Rattle.flags_masks.specs.declared.FlagMasks.{FlagMasks}
use Rattle.flags_masks.specs.declared.Wanted.{Wanted}
use Rattle.flags_masks.specs.Wanted.{masks_for, only}
use Rattle.flags_vectors.specs.declared.Vectors.{Vectors}
use Rattle.flags_vectors.specs.Vectors.{check_vectors}
use Rattle.walk_events.specs.Portions.{total, found_f, found_g}
use Rattle.walk_flags.specs.declared.Marks.{Marks}
use Rattle.walk_flags.specs.OneTaken.{marked_f, marked_g}
use Rattle.walk.specs.declared.Walk.{Walk}
use Rattle.walk.specs.Ground.{ground_of}

abbrev pub WalkAnswer : Type 0
WalkAnswer = Result Walk Refusal

-- what a state says: the wanted flags that are set, in the caller's order, and "done exactly when no event remains"
abbrev pub shown : Walk → Vectors
shown w = record { f = cond w.is_turned w.found.g w.found.f; g = cond w.is_turned w.found.f w.found.g }

abbrev pub done : Walk → Bool
done w = eqb w.taken w.events

-- ---- a portion, of any bytes as ground

-- one of the four bytes of the events from one up to another, put together
abbrev pub byte_in : List ℕ → (which : ℕ) → (from to : ℕ) → ℕ
byte_in g which from to = gather (λ n. get_or g (4 * n + which) 0) (between from to)

abbrev pub marks_of_f : List ℕ → (from to : ℕ) → Marks
marks_of_f g from to = record { met = byte_in g 0 from to; classes = byte_in g 1 from to }

abbrev pub marks_of_g : List ℕ → (from to : ℕ) → Marks
marks_of_g g from to = record { met = byte_in g 2 from to; classes = byte_in g 3 from to }

-- with so many events taken, by the marks of those that are new
abbrev pub moved : List ℕ → Walk → ℕ → Walk
moved g w to =
    record {
      f = w.f;
      g = w.g;
      is_turned = w.is_turned;
      want = w.want;
      events = w.events;
      taken = to;
      found = record { f = bit_or w.found.f (marked_f w.f w.g w.want (marks_of_f g w.taken to)); g = bit_or w.found.g (marked_g w.f w.g w.want (marks_of_g g w.taken to)) };
    }

-- the state fits the ground: no more events than a scene has, each with its four bytes, and no more taken than there are
abbrev pub is_over : List ℕ → Walk → Bool
is_over g w = leb w.events 2048 && (leb (4 * w.events) (length g) && leb w.taken w.events)

abbrev pub at_fault : WalkAnswer
at_fault = Err (record { reason = Malformed; place = 0 })

-- "takes that many or all that remain, and hands the walk's state back"; 24 at 0 where the state does not fit the ground
unfoldable pub portion_of : List ℕ → Walk → ℕ → WalkAnswer
portion_of g w n = cond (is_over g w) (Ok (moved g w (w.taken + min n (w.events - w.taken)))) at_fault

-- ---- the state after n events

-- the wanted flags of F and of G that n events set
abbrev pub found_at : List ℕ → Scene → FlagMasks → ℕ → Vectors
found_at s sc want n = record { f = only want.f (found_f s sc n); g = only want.g (found_g s sc n) }

abbrev pub state_at : List ℕ → Scene → FlagMasks → ℕ → Walk
state_at s sc want n =
    record {
      f = sc.f.shape;
      g = sc.g.shape;
      is_turned = turned sc;
      want = want;
      events = total s sc;
      taken = n;
      found = found_at s sc want n;
    }

-- ---- the beginning

-- "Let the vectors question begin with the scene's checks"; 21 after them, where the buffer has no four bytes for each element
abbrev pub begun_as : List ℕ → Scene → FlagMasks → ℕ → WalkAnswer
begun_as s sc want room = cond (leb (4 * (sc.f.count + sc.g.count)) room) (Ok (state_at s sc want 0)) (Err (record { reason = NoRoom; place = 0 }))

abbrev pub begin_if : List ℕ → Wanted → ℕ → CheckedScene → WalkAnswer
begin_if s wanted room (Err r) = Err r
begin_if s wanted room (Ok sc) = begun_as s sc (masks_for wanted sc) room

unfoldable pub begin_of : List ℕ → Wanted → ℕ → WalkAnswer
begin_of s wanted room = begin_if s wanted room (check_vectors s wanted)

-- a buffer has the ground of a scene that is taken, by the notes that the sweep made of it, and behind that what it had before
pub record GroundIs (s : List ℕ) (sc : Scene) (before g : List ℕ) : Type 0 where
  pub taken : check_scene s ≡ Ok sc
  pub notes : List ℕ
  pub noted : Noted s sc notes
  pub ground : g ≡ ground_of s sc notes before

-- the buffer after the ground of a scene was to be laid; where there is no room as before
abbrev pub LaidFor : List ℕ → Scene → (before after : List ℕ) → WalkAnswer → Type 0
LaidFor s sc before after (Err r) = after ≡ before
LaidFor s sc before after (Ok w) = GroundIs s sc before after

-- the buffer after the beginning; on a refusal as before
abbrev pub GroundAfter : List ℕ → (before after : List ℕ) → WalkAnswer → Type 0
GroundAfter s before after (Err r) = after ≡ before
GroundAfter s before after (Ok w) = (sc : Scene) × GroundIs s sc before after
