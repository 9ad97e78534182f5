-- The answer of the beginning.
use Rattle.std.specs.Prelude.{Ok, Err}
use Prim.Native.Nat.{ℕ, ◌+◌, ◌*◌, ◌<◌, ◌≤◌}
use mathlib.Core.Path.{◌≡◌, sym, ap, ◌∙◌}
use mathlib.Core.Bool.{cond}
use mathlib.Core.List.{List}
use borrow.Author.Tests.{lt-leb}
use Rattle.std.proofs.lemmas.Bool.{le-leb}
use Rattle.scene.specs.declared.Scene.{Scene}
use Rattle.scene.specs.declared.Refusal.{Refusal}
use Rattle.scene.specs.declared.Reason.TheVariants.{NoRoom}
use Rattle.flags_masks.specs.declared.FlagMasks.{FlagMasks}
use Rattle.flags_masks.specs.declared.Wanted.{Wanted}
use Rattle.flags_vectors.specs.declared.question.MaskedScene.{MaskedScene}
use Rattle.flags_vectors.specs.Vectors.{asked_of}
use Rattle.flags_vectors.proofs.Answered.{asked_refused, asked_taken}
use Rattle.walk.specs.Walked.{WalkAnswer, state_at, begun_as, begin_if, begin_of}

module _ (s : List ℕ) (sc : Scene) (want : FlagMasks) (room : ℕ) where
  short : WalkAnswer
  short = Err (record { reason = NoRoom; place = 0 })

  pub begun_is : 4 * (sc.f.count + sc.g.count) ≤ room → begun_as s sc want room ≡ Ok (state_at s sc want 0)
  unfolding short
  begun_is h = ap (λ b. cond b (Ok (state_at s sc want 0)) short) (le-leb (4 * (sc.f.count + sc.g.count)) room h)

  pub begun_short : room < 4 * (sc.f.count + sc.g.count) → begun_as s sc want room ≡ Err (record { reason = NoRoom; place = 0 })
  unfolding short
  begun_short h = ap (λ b. cond b (Ok (state_at s sc want 0)) short) (lt-leb (4 * (sc.f.count + sc.g.count)) room h)

module _ (s : List ℕ) (wanted : Wanted) (room : ℕ) where
  pub begin_refused : (r : Refusal) → asked_of s wanted ≡ Err r → begin_of s wanted room ≡ Err r
  unfolding begin_of
  begin_refused r e = ap (begin_if s wanted room) (asked_refused s wanted r e)

  pub begin_taken : (a : MaskedScene) → asked_of s wanted ≡ Ok a → begin_of s wanted room ≡ begun_as s a.scene a.masks room
  unfolding begin_of
  begin_taken a e =
      let q = asked_taken s wanted a e in
      ap (begin_if s wanted room) q.0 ∙ ap (λ (m : FlagMasks). begun_as s a.scene m room) (sym q.1)
