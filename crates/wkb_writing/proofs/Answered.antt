-- What a call to write answers, by the check of the object, its type and the room.
use Rattle.std.specs.Prelude.{Ok, Err}
use Prim.Native.Nat.{ℕ, ◌<◌, ◌≤◌}
use mathlib.Core.Path.{◌≡◌, refl, sym, ap, ◌∙◌}
use mathlib.Core.Bool.{Bool, true, false, cond}
use mathlib.Core.List.{List}
use lib.ListN.{length}
use borrow.Author.Tests.{le-leb, lt-leb}
use Rattle.scene.specs.declared.Shape.{Shape}
use Rattle.scene.specs.declared.Shape.TheVariants.{Points, Line, Region}
use Rattle.scene.specs.declared.Layout.{Layout}
use Rattle.scene.specs.declared.Refusal.{Refusal}
use Rattle.scene.specs.Read.{CheckedObject}
use Rattle.scene.specs.Conditions.{is_region, object, check_object}
use Rattle.scene.proofs.Taken.{layout}
use Rattle.check_verdict.specs.SharedPoints.{CheckedObjectMeans}
use Rattle.wkb_writing.specs.Wkb.{wkb_of}
use Rattle.wkb_writing.specs.Writing.{WriteAnswer, no_region, no_room, fitted, written_as, written_if, write_of, buffer_after, wkb_if, written_buffer}

-- ---- by the type

module _ (s : List ℕ) (start count room : ℕ) where
  unregion : (k : Shape) → is_region k ≡ false → written_as (object s (layout k start count)) room ≡ fitted (length (wkb_of (object s (layout k start count)))) room
  unfolding object
  unregion Points e = refl
  unregion Line e = refl
  unregion Region e = cc

  region_as : (k : Shape) → is_region k ≡ true → no_region ≡ written_as (object s (layout k start count)) room
  unfolding object
  region_as Points e = cc
  region_as Line e = cc
  region_as Region e = refl

pub region_refused : (s : List ℕ) (l : Layout) (room : ℕ) → is_region l.shape ≡ true → no_region ≡ written_as (object s l) room
region_refused s l room e = region_as s l.start l.count room l.shape e

pub by_room : (s : List ℕ) (l : Layout) (room : ℕ) → is_region l.shape ≡ false → written_as (object s l) room ≡ fitted (length (wkb_of (object s l))) room
by_room s l room e = unregion s l.start l.count room l.shape e

module _ (s : List ℕ) (l : Layout) (flat : is_region l.shape ≡ false) where
  abbrev wkb : List ℕ
  wkb = wkb_of (object s l)

  pub too_short : (room : ℕ) → room < length (wkb_of (object s l)) → no_room ≡ written_as (object s l) room
  too_short room h =
      ap (λ (b : Bool). cond b (Ok (length wkb)) no_room) (sym (lt-leb (length wkb) room h)) ∙ sym (by_room s l room flat)

  pub enough : (room : ℕ) → length (wkb_of (object s l)) ≤ room → Ok (length (wkb_of (object s l))) ≡ written_as (object s l) room
  enough room h =
      ap (λ (b : Bool). cond b (Ok (length wkb)) no_room) (sym (le-leb (length wkb) room h)) ∙ sym (by_room s l room flat)

-- ---- any bytes

module _ (s before : List ℕ) where
  abbrev pub Answered : WriteAnswer → List ℕ → Type 0
  Answered r after = (r ≡ write_of s (length before)) × (after ≡ written_buffer s before) × CheckedObjectMeans s (check_object s)

  pub buffer_by : {o : CheckedObject} → check_object s ≡ o → written_buffer s before ≡ buffer_after (wkb_if s o) (written_if s (length before) o) before
  unfolding written_buffer write_of
  buffer_by e = ap (λ (o : CheckedObject). buffer_after (wkb_if s o) (written_if s (length before) o) before) e

  pub refused_answer : (r : Refusal) → check_object s ≡ Err r → CheckedObjectMeans s (check_object s) → Answered (Err r) before
  unfolding write_of
  refused_answer r e m = (sym (ap (written_if s (length before)) e), sym (buffer_by e), m)

  pub taken_answer : (l : Layout) → check_object s ≡ Ok l → CheckedObjectMeans s (check_object s) → {r : WriteAnswer} {after : List ℕ} → r ≡ written_as (object s l) (length before)
      → after ≡ buffer_after (wkb_of (object s l)) r before → Answered r after
  unfolding write_of
  taken_answer l e m {r} {after} q h =
      (q ∙ sym (ap (written_if s (length before)) e), h ∙ ap (λ (a : WriteAnswer). buffer_after (wkb_of (object s l)) a before) q ∙ sym (buffer_by e), m)
