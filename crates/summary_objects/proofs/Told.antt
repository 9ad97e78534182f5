-- What two summaries tell of accepted objects: two that are far form an accepted scene, and the vectors told are the full answer.
use Rattle.std.specs.Prelude.{Err}
use Prim.Native.Nat.{ℕ}
use Rattle.std.specs.Prelude.{Option, Some, None, Result, Ok}
use mathlib.Core.Path.{◌≡◌, refl, sym, ap, ap₂, subst, ◌∙◌}
use mathlib.Core.Logic.{◌↔◌}
use mathlib.Core.Bool.{Bool, true, false, cond, false≢true}
use mathlib.Core.List.{List, ◌++◌, map}
use lib.Dec.{T}
use Rattle.whole.specs.Count.{◌∈◌}
use Rattle.whole.proofs.Logic.{and_left, is_true, true_is}
use Rattle.plane.specs.declared.Segment.{Segment}
use Rattle.plane.specs.Plane.{fractions}
use Rattle.plane.proofs.OnSegment.{ordered_read, on_along}
use Rattle.plane.proofs.Scale.{fractions_pos}
use Rattle.scene.specs.declared.Shape.{Shape}
use Rattle.scene.specs.declared.Shape.TheVariants.{Points, Line, Region}
use Rattle.scene.specs.declared.Layout.{Layout}
use Rattle.scene.specs.declared.Scene.{Scene}
use Rattle.scene.specs.declared.Refusal.{Refusal}
use Rattle.scene.specs.Read.{read_alone, IsScene}
use Rattle.scene.specs.Conditions.{has_segments, half, left_test, segments, over_both, object_rules, touching_across, check_scene, check_object}
use Rattle.scene.proofs.Given.{NoFault}
use Rattle.scene.proofs.SideBySide.{beside, beside_read, beside_faultless}
use Rattle.check_verdict.specs.Refusals.{settle, geometry_verdict}
use Rattle.check_verdict.specs.SharedPoints.{OnlyEndsShared, CheckedObjectMeans}
use Rattle.check_verdict.proofs.Laws.{SoundObject, in_left, all_ordered}
use Rattle.check_verdict.proofs.CheckedMeans.{checked_object_means}
use Rattle.check_verdict.proofs.EitherOrder.{across_none, checked}
use Rattle.flags.specs.Flags.{segments_of}
use Rattle.flags.specs.Elements.{elements_as, elements_of}
use Rattle.flags.proofs.Elements.{outline_edges}
use Rattle.flags_masks.specs.declared.Wanted.{Wanted}
use Rattle.flags_vectors.specs.Vectors.{vectors_in}
use Rattle.cells.proofs.AskedTwice.{given_flags, all_vectors, first_is, second_is}
use Rattle.summary.specs.declared.Summary.{Summary}
use Rattle.flags_vectors.specs.declared.Vectors.{Vectors}
use Rattle.summary.specs.Summary.{are_far, Near, far_vectors, summary_at, bytes_of, good_bytes, bad, told_of, asked_of}
use Rattle.summary.proofs.Theorem.{full_answer, far_apart}
use Rattle.summary.proofs.Near.{look_exactly}
use Rattle.summary.proofs.Bytes.{good_bytes_lem, good_summary, asked_good}
use Rattle.summary_objects.specs.Objects.{summary_in, NeverBad, ToldInFull, LookExactlyIfNear}
use Rattle.check_verdict.proofs.Laws.{sound_object}
use Rattle.summary_objects.proofs.Accepted.{elements_good, summary_good}

pub read_of : (s : List ℕ) (l : Layout) → check_object s ≡ Ok l → read_alone s ≡ Ok l
read_of s l e = (subst (CheckedObjectMeans s) e (checked_object_means s)).0

-- the segments are those of the elements
module _ (s : List ℕ) (l : Layout) (o : SoundObject s l) where
  as_segments : {t : Segment} → t ∈ segments s l → t ∈ segments_of (elements_of s l)
  as_segments {t} m = go l.shape refl
    where
      has : has_segments l.shape ≡ true
      has = let w = in_left o m in true_is (has_segments l.shape) (and_left (has_segments l.shape) (half s l w.0).is_left (is_true (left_test s l w.0) w.2))

      go : (k : Shape) → l.shape ≡ k → t ∈ segments_of (elements_as s l k)
      go Points e = absurd (false≢true (sym (ap has_segments e) ∙ has))
      go Line e = m
      go Region e = subst (λ (r : List Segment). t ∈ r) (sym (outline_edges s l)) m

-- ---- two objects

module _ (a b : List ℕ) (l m : Layout) (first : check_object a ≡ Ok l) (second : check_object b ≡ Ok m)
    (far : T (are_far (summary_in a l) (summary_in b m))) where
  abbrev scene : Scene
  scene = beside a b l m

  is_scene : IsScene (a ++ b) scene
  is_scene = beside_read a b l m (read_of a l first) (read_of b m second)

  share_none : OnlyEndsShared (segments a l) (segments b m)
  share_none t u i j n p =
      let o = sound_object a l first in
      let q = sound_object b m second in
      far_apart (elements_of a l) (elements_of b m) far t u (as_segments a l o i) (as_segments b m q j) (fractions p.shared) (fractions_pos p.shared)
      (on_along t (fractions p.shared) (ordered_read t (all_ordered o t i)) p.on_one) (on_along u (fractions p.shared) (ordered_read u (all_ordered q u j)) p.on_other)

  -- 10 to 14 find no fault in either, and 15 none across
  geometry_sound : geometry_verdict (a ++ b) scene ≡ (Ok tt)
  unfolding geometry_verdict
  geometry_sound = rw (n.0, n.1.0, n.1.1.0, n.1.1.1.0, n.1.1.1.1.0, apart)
    where
      n : NoFault (a ++ b) scene (map over_both object_rules)
      n = beside_faultless a b l m (read_of a l first) (read_of b m second) first second

      apart : touching_across (a ++ b) scene ≡ None
      apart = (across_none a b l m (read_of a l first) (read_of b m second)).1 share_none

  -- two accepted objects whose boxes share no point, or of which one is empty, always form an accepted scene
  pub far_taken : check_scene (a ++ b) ≡ Ok scene
  far_taken = checked (a ++ b) scene is_scene ∙ ap (λ v. settle Err v (Ok scene)) geometry_sound

  -- whose vectors are what their summaries tell
  pub far_told : far_vectors (summary_in a l) (summary_in b m) ≡ vectors_in (a ++ b) scene Wanted.All
  far_told =
      full_answer (elements_of a l) (elements_of b m) (elements_good a l (sound_object a l first)) (elements_good b m (sound_object b m second)) far
      ∙ sym (all_vectors (a ++ b) scene is_scene ∙ ap₂ given_flags (first_is a b l m (read_of a l first) (read_of b m second)) (second_is a b l m (read_of a l first) (read_of b m second)))

-- ---- over records

pub never_bad : (r : List ℕ) → NeverBad r
never_bad r one =
    let s = summary_in one.object one.layout in
    subst (λ (r : List ℕ). T (good_bytes r)) one.is (is_true (good_bytes (bytes_of s)) (good_bytes_lem s (summary_good one.object one.layout one.accepted)))

pub told_in_full : (r q : List ℕ) {answer : Result (Option Vectors) Refusal} → answer ≡ asked_of r q → ToldInFull r q answer
unfolding told_of
told_in_full r q is one other v e = go (are_far s t) refl (sym tells ∙ sym is ∙ e)
  where
    s : Summary
    s = summary_in one.object one.layout

    t : Summary
    t = summary_in other.object other.layout

    tells : asked_of r q ≡ Ok (cond (are_far s t) (Some (far_vectors s t)) None)
    tells =
        ap₂ asked_of (sym one.is) (sym other.is)
        ∙ asked_good s t (summary_good one.object one.layout one.accepted) (summary_good other.object other.layout other.accepted)

    go : (b : Bool) → are_far s t ≡ b → ◌≡◌ {A = Result (Option Vectors) Refusal} (Ok (cond b (Some (far_vectors s t)) None)) (Ok (Some v))
        → (sc : Scene) × (check_scene (one.object ++ other.object) ≡ Ok sc) × (v ≡ vectors_in (one.object ++ other.object) sc Wanted.All)
    go true f h =
        let x : far_vectors s t ≡ v = cc in (
          beside one.object other.object one.layout other.layout,
          far_taken one.object other.object one.layout other.layout one.accepted other.accepted (is_true (are_far s t) f),
          sym x ∙ far_told one.object other.object one.layout other.layout one.accepted other.accepted (is_true (are_far s t) f),
        )
    go false f h = cc

module _ (r q : List ℕ) where
  pub look_exactly_if_near : {answer : Result (Option Vectors) Refusal} → answer ≡ asked_of r q → LookExactlyIfNear r q answer
  unfolding asked_of
  look_exactly_if_near {answer} is = (λ e. go (good_bytes r) (good_bytes q) refl refl (sym is ∙ e), λ n. is ∙ back (true_is (good_bytes r) n.0) (true_is (good_bytes q) n.1) n.2)
    where
      tells : good_bytes r ≡ true → good_bytes q ≡ true → (told_of (summary_at r 0) (summary_at q 0) ≡ None) ↔ Near (summary_at r 0) (summary_at q 0)
      tells a b = look_exactly (summary_at r 0) (summary_at q 0) (good_summary r a) (good_summary q b)

      go : (a b : Bool) → good_bytes r ≡ a → good_bytes q ≡ b → cond a (cond b (Ok (told_of (summary_at r 0) (summary_at q 0))) (bad 1)) (bad 0) ≡ Ok None
          → T (good_bytes r) × T (good_bytes q) × Near (summary_at r 0) (summary_at q 0)
      go true true a b e = (is_true (good_bytes r) a, is_true (good_bytes q) b, (tells a b).0 cc)
      go true false a b e = cc
      go false b x y e = cc

      back : good_bytes r ≡ true → good_bytes q ≡ true → Near (summary_at r 0) (summary_at q 0) → cond (good_bytes r) (cond (good_bytes q) (Ok (told_of (summary_at r 0) (summary_at q 0))) (bad 1)) (bad 0) ≡ Ok None
      back a b n = rw (a, b) (ap Ok ((tells a b).1 n))
