-- Only the first bytes matter: no taken scene is longer than 38,918 bytes, and what a scene's bytes are answered turns on their first 38,919.
use Rattle.std.specs.Prelude.{Err, Ok}
use Rattle.scene.specs.Read.{CheckedObject}
use Prim.Native.Nat.{ℕ, ◌+◌, ◌<◌, ◌≤◌, min}
use native.Mathlib.Nat.{add-zero, lt_irrefl}
use native.Mathlib.Decide.{dec_le}
use native.Mathlib.Omega.{arith}
use mathlib.Core.Path.{◌≡◌, refl, sym, ap, ◌∙◌}
use mathlib.Core.List.{List}
use lib.ListN.{length, take, length-take}
use lib.Seq.{get_or-take, take_all}
use borrow.Author.Tests.{lt-leb}
use Rattle.scene.specs.declared.Reason.TheVariants.{MoreBytes}
use Rattle.scene.specs.declared.Shape.{Shape}
use Rattle.scene.specs.declared.Shape.TheVariants.{Points, Line, Region}
use Rattle.scene.specs.declared.Layout.{Layout}
use Rattle.scene.specs.declared.Scene.{Scene}
use Rattle.scene.specs.declared.Refusal.{Refusal}
use Rattle.scene.specs.Read.{byte, shape_of, end_place, after, most, read_object, read_scene}
use Rattle.scene.specs.Conditions.{Rule, checked_scene, check_scene_by}
use Rattle.scene.proofs.Taken.{layout, longest, taken_object, object_short, scene_short}
use Rattle.scene.proofs.Given.{checked_scene_lem}
use Rattle.scene.proofs.Moved.{Agree, Reach, moved_object_lem, unmoved_object}

-- two byte strings that agree in their first n bytes give the same object wherever all of the longest object would lie in these
same_object : {n : ℕ} {s t : List ℕ} → Agree 0 n s t → (at : ℕ) → at + longest ≤ n → read_object t at ≡ read_object s at
same_object {n} {s} g at h = moved_object_lem g at at (sym (add-zero at)) (reach (shape_of (byte s (at + 1)))) ∙ unmoved_object (read_object s at)
  where
    within : (k : Shape) → end_place (layout k at most) < n
    within Points = omega arith
    within Line = omega arith
    within Region = omega arith

    reach : (k : Shape) → Reach n s k at
    reach k = record { last = most; few = omega arith; within = within k; no_more = λ h. absurd (lt_irrefl most h) }

-- ---- a scene
abbrev pub enough : ℕ
enough = 38919

record BothRefused (s t : List ℕ) : Type 0 where
  refusal : Refusal
  of_s : read_scene s ≡ Err refusal
  of_t : read_scene t ≡ Err refusal

module _ (s t : List ℕ) (g : Agree 0 enough s t) where
  both_refused : BothRefused s t
  unfolding read_scene
  both_refused = of_f_lem (read_object s 0) refl
    where
      of_g_lem : (f : Layout) → read_object s 0 ≡ Ok f → read_object t 0 ≡ Ok f
          → (o : CheckedObject) → read_object s (after f) ≡ o → read_object t (after f) ≡ o → BothRefused s t
      of_g_lem f e e' (Err r) q q' = record { refusal = r; of_s = rw (e, q); of_t = rw (e', q') }
      of_g_lem f e e' (Ok o) q q' = record {
        refusal = record { reason = MoreBytes; place = after o };
        of_s = rw (e, q, lt-leb (length s) (after o) (omega (arith, g.long_s, short)));
        of_t = rw (e', q', lt-leb (length t) (after o) (omega (arith, g.long_t, short)));
      }
        where
          short : after o < enough
          short = omega (arith, object_short s 0 f (taken_object s 0 f e), object_short s (after f) o (taken_object s (after f) o q))

      of_f_lem : (o : CheckedObject) → read_object s 0 ≡ o → BothRefused s t
      of_f_lem (Err r) e = record { refusal = r; of_s = rw e; of_t = rw (same_object g 0 (omega arith) ∙ e) }
      of_f_lem (Ok f) e =
          of_g_lem f e (same_object g 0 (omega arith) ∙ e) (read_object s (after f)) refl
          (same_object g (after f) (omega (arith, object_short s 0 f (taken_object s 0 f e))))

-- "two byte strings that agree in their first 38,919 bytes": whatever further conditions a question has, they are answered alike
pub only_first_bytes : (rules : List (Rule Scene)) (s t : List ℕ) → take enough s ≡ take enough t → check_scene_by rules s ≡ check_scene_by rules t
unfolding check_scene_by
only_first_bytes rules s t e = go (dec_le enough (length s))
  where
    lengths : min enough (length s) ≡ min enough (length t)
    lengths = sym (length-take enough s) ∙ ap length e ∙ length-take enough t

    agree : enough ≤ length s → Agree 0 enough s t
    agree h = record {
      long_s = h;
      long_t = omega (arith, lengths);
      same = λ i b. ap (byte t) (add-zero i) ∙ sym (get_or-take enough t i 0 b) ∙ ap (λ (x : List ℕ). byte x i) (sym e) ∙ get_or-take enough s i 0 b;
    }

    go : Dec (enough ≤ length s) → checked_scene rules s (read_scene s) ≡ checked_scene rules t (read_scene t)
    go (yes h) =
        let b = both_refused s t (agree h) in
        rw (b.of_s, b.of_t)
    go (no h) =
        let same : s ≡ t = sym (take_all enough s (omega arith)) ∙ e ∙ take_all enough t (omega (arith, lengths)) in
        ap (check_scene_by rules) same

pub taken_short : (rules : List (Rule Scene)) (s : List ℕ) (sc : Scene) → check_scene_by rules s ≡ Ok sc → length s ≤ 38918
taken_short rules s sc e = scene_short s sc (checked_scene_lem rules s sc e).0
