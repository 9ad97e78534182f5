-- The parts of an accepted object's summary, and the answer by the scene that the object and an empty one form.
use Rattle.check_verdict.specs.Refusals.{Verdict}
use Rattle.flags_vectors.specs.Vectors.{SceneAnswer, with_vectors}
use Prim.Native.Nat.{ℕ, ◌≤◌}
use Rattle.std.specs.Prelude.{Result, Ok, Err}
use native.Mathlib.Omega.{arith}
use mathlib.Core.Path.{◌≡◌, refl, sym, ap, ◌∙◌}
use mathlib.Core.Bool.{Bool, true, false, not, ◌||◌, cond, true≢false}
use mathlib.Core.List.{List, [], ◌∷◌, ◌++◌}
use lib.Dec.{T, eqb}
use lib.ListN.{length}
use borrow.Author.Tests.{eqb-true}
use Rattle.whole.proofs.Logic.{or_left, or_right, is_true}
use Rattle.scene.specs.declared.Shape.{Shape}
use Rattle.scene.specs.declared.Shape.TheVariants.{Points, Line, Region}
use Rattle.scene.specs.declared.Layout.{Layout}
use Rattle.scene.specs.declared.Scene.{Scene}
use Rattle.scene.specs.declared.Refusal.{Refusal}
use Rattle.scene.specs.Read.{descends, read_alone}
use Rattle.scene.specs.Conditions.{check_scene, check_object}
use Rattle.scene.proofs.Taken.{longest, taken_alone, object_short}
use Rattle.scene.proofs.Outcomes.{never_taken, same_taken}
use Rattle.scene.proofs.Given.{object_checked}
use Rattle.check_verdict.specs.Refusals.{settle, object_verdict}
use Rattle.check_verdict.proofs.Verdicts.{object_read}
use Rattle.check_verdict.specs.SharedPoints.{CheckedObjectMeans}
use Rattle.check_verdict.proofs.CheckedMeans.{checked_object_means}
use Rattle.check_verdict.proofs.Laws.{SoundObject}
use Rattle.flags.specs.Flags.{Elements, pack}
use Rattle.flags.specs.Elements.{elements_as, elements_of}
use Rattle.flags_masks.specs.declared.Wanted.{Wanted}
use Rattle.flags_vectors.specs.declared.Vectors.{Vectors}
use Rattle.flags_vectors.specs.Vectors.{vectors_in, answer_of}
use Rattle.flags_vectors.proofs.Answered.{all_tidy, was_refused, was_taken}
use Rattle.cells_matrix.proofs.Theorem as M
use Rattle.cells.proofs.Taken.{empty_as}
use Rattle.summary.specs.declared.Summary.{Summary}
use Rattle.summary.specs.Summary.{corners, grow, box_of, shape_of, is_empty, beside, flags_f, ascending_vectors, swapped, far_vectors}
use Rattle.summary_objects.specs.Objects.{summary_in}
use Rattle.check_verdict.proofs.Laws.{sound_object}
use Rattle.check_alone.specs.Beside.{empty_of}
use Rattle.check_alone.proofs.Alone.{short}
use Rattle.summary_objects.proofs.Accepted.{elements_in_range}
use Rattle.summary_objects.proofs.Told.{far_told}
use Rattle.summary_making.specs.Making.{corners_from, widest, beside_empty, summarized, summary_answer_of}
use Rattle.summary_making.proofs.Corners.{corners_are, grow_widest}
use Rattle.check_alone.proofs.EmptyBeside.{nothing, scene, empty_read, empty_faultless, checked_beside}

-- ---- type, emptiness and box

pub shape_is : (s : List ℕ) (l : Layout) → shape_of (elements_of s l) ≡ l.shape
shape_is s l = go l.shape
  where
    go : (k : Shape) → shape_of (elements_as s l k) ≡ k
    go Points = refl
    go Line = refl
    go Region = refl

same_empty : (F : Elements) → is_empty F ≡ M.is_empty F
same_empty (Elements.points []) = refl
same_empty (Elements.points (v ∷ l)) = refl
same_empty (Elements.line []) = refl
same_empty (Elements.line (s ∷ l)) = refl
same_empty (Elements.region []) = refl
same_empty (Elements.region (e ∷ l)) = refl

pub empty_is : (s : List ℕ) (l : Layout) → SoundObject s l → is_empty (elements_of s l) ≡ eqb l.count 0
empty_is s l o = same_empty (elements_of s l) ∙ empty_as s l o l.shape refl

no_corners : (F : Elements) → corners F ≡ [] → is_empty F ≡ true
no_corners (Elements.points []) e = refl
no_corners (Elements.points (v ∷ l)) e = cc
no_corners (Elements.line []) e = refl
no_corners (Elements.line (s ∷ l)) e = cc
no_corners (Elements.region []) e = refl
no_corners (Elements.region (r ∷ l)) e = cc

module _ (s : List ℕ) (l : Layout) (e : check_object s ≡ Ok l) where
  pub empty_box : l.count ≡ 0 → box_of [] ≡ (summary_in s l).bounds
  empty_box none = ap box_of (sym (ap (λ (n : ℕ). corners_from s l n 0) none) ∙ corners_are s l)

  pub filled_box : (l.count ≡ 0 → ⊥) → grow widest (corners_from s l l.count 0) ≡ (summary_in s l).bounds
  filled_box some =
      ap (grow widest) (corners_are s l)
      ∙ grow_widest (corners (elements_of s l)) (elements_in_range s l (sound_object s l e))
      (λ none. some (eqb-true l.count 0 (sym (empty_is s l (sound_object s l e)) ∙ no_corners (elements_of s l) none)))

-- ---- beside an empty object

empty_taken : (k : Shape) → check_object (empty_of k) ≡ Ok (nothing k)
empty_taken k = let n = empty_faultless k in object_checked (empty_of k) (nothing k) (empty_read k) (n.0, (n.1, (n.2, (n.3, (n.4, tt)))))

not_descending : (k : Shape) → descends k k ≡ false
not_descending Points = refl
not_descending Line = refl
not_descending Region = refl

same_type : (s t : Summary) → t.shape ≡ s.shape → (far_vectors s t).f ≡ beside_empty s
same_type s t e = go (descends s.shape t.shape) (ap (descends s.shape) e ∙ not_descending s.shape) ∙ ap (λ (k : Shape). pack (flags_f s.shape k (not s.empty) s.boundary)) e
  where
    go : (b : Bool) → b ≡ false → (cond b (swapped (ascending_vectors t s)) (ascending_vectors s t)).f ≡ pack (flags_f s.shape t.shape (not s.empty) s.boundary)
    go true q = absurd (true≢false q)
    go false q = refl

module _ (s : List ℕ) (l : Layout) (read : read_alone s ≡ Ok l) where
  abbrev k : Shape
  k = l.shape

  pub refused_beside : (r : Refusal) → check_scene (s ++ empty_of k) ≡ Err r → check_object s ≡ Err r
  refused_beside r e = object_read s l read ∙ go (object_verdict s l) (sym (checked_beside s l k read) ∙ e)
    where
      go : (v : Verdict) → settle Err v (Ok (scene s l k read)) ≡ Err r → settle Err v (Ok l) ≡ Err r
      go (Ok tt) q = absurd (never_taken (sym q))
      go (Err x) q = let h : x ≡ r = cc in ap Err h

  pub taken_beside : (sc : Scene) → check_scene (s ++ empty_of k) ≡ Ok sc → (check_object s ≡ Ok l) × (scene s l k read ≡ sc)
  taken_beside sc e = let w = go (object_verdict s l) (sym (checked_beside s l k read) ∙ e) in (object_read s l read ∙ w.0, w.1)
    where
      go : (v : Verdict) → settle Err v (Ok (scene s l k read)) ≡ Ok sc
          → (settle Err v (Ok l) ≡ Ok l) × (scene s l k read ≡ sc)
      go (Ok tt) q = (refl, same_taken q)
      go (Err x) q = absurd (never_taken q)

  -- the answer to the scene, for the object
  module _ {a : SceneAnswer} (is : a ≡ answer_of (s ++ empty_of k) Wanted.All) where
    pub refused_alone : (r : Refusal) → a ≡ Err r → check_object s ≡ Err r
    refused_alone r e = refused_beside r (was_refused Wanted.All all_tidy (s ++ empty_of k) is r e)

    pub taken_so : (sc : Scene) (v : Vectors) → a ≡ Ok (with_vectors sc v) → (check_object s ≡ Ok l) × (v.f ≡ beside_empty (summary_in s l))
    taken_so sc v e = (taken.0, ap (λ (v : Vectors). v.f) (all.1 ∙ ap (λ (x : Scene). vectors_in (s ++ empty_of k) x Wanted.All) (sym taken.1) ∙ sym told) ∙ vector)
      where
        all : (check_scene (s ++ empty_of k) ≡ Ok sc) × (v ≡ vectors_in (s ++ empty_of k) sc Wanted.All)
        all = was_taken Wanted.All all_tidy (s ++ empty_of k) is sc v e

        taken : (check_object s ≡ Ok l) × (scene s l k read ≡ sc)
        taken = taken_beside sc all.0

        F : Summary
        F = summary_in s l

        G : Summary
        G = summary_in (empty_of k) (nothing k)

        hollow : T G.empty
        hollow = is_true G.empty (empty_is (empty_of k) (nothing k) (sound_object (empty_of k) (nothing k) (empty_taken k)))

        told : far_vectors F G ≡ vectors_in (s ++ empty_of k) (scene s l k read) Wanted.All
        told =
            far_told s (empty_of k) l (nothing k) taken.0 (empty_taken k)
            (or_left (F.empty || G.empty) (beside F.bounds G.bounds) (or_right F.empty G.empty hollow))

        vector : (far_vectors F G).f ≡ beside_empty F
        vector = same_type F G (shape_is (empty_of k) (nothing k) ∙ sym (shape_is s l))

-- ---- the answer

module _ (s : List ℕ) where
  abbrev Answered : Result Summary Refusal → Type 0
  Answered a = (a ≡ summary_answer_of s) × CheckedObjectMeans s (check_object s)

  pub refused_answer : (r : Refusal) → check_object s ≡ Err r → {a : Result Summary Refusal} → a ≡ Err r → Answered a
  unfolding summary_answer_of
  refused_answer r e q = (q ∙ sym (ap (summarized s) e), checked_object_means s)

  pub made_answer : (l : Layout) → check_object s ≡ Ok l → {m : Summary} → m ≡ summary_in s l → Answered (Ok m)
  unfolding summary_answer_of
  made_answer l e q = (ap Ok q ∙ sym (ap (summarized s) e), checked_object_means s)
