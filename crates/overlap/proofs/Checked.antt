-- The check of two regions: the verdicts that lead to it, with 16 last; the check before the list, with 17 after it; and what a scene gives that passes all,
-- its notes in lent bytes too.
use Rattle.scene.specs.declared.Reason.TheVariants.{NotRegions, ShortBuffer}
use Rattle.std.specs.Prelude.{Err, None, Ok, Some}
use Rattle.scene.specs.Read.{CheckedScene, Fault}
use Rattle.check_verdict.specs.Refusals.{Verdict}
use Prim.Native.Nat.{ℕ, ◌<◌, ◌≤◌}
use native.Mathlib.Omega.{arith}
use mathlib.Core.Path.{◌≡◌, refl, sym, ap, subst, ◌∙◌}
use mathlib.Core.Bool.{Bool, true, false}
use mathlib.Core.List.{List, []}
use lib.Dec.{T, leb, leb→le}
use lib.ListN.{length}
use borrow.Author.Tests.{le-leb, lt-leb}
use Rattle.scene.specs.declared.Layout.{Layout}
use Rattle.scene.specs.declared.Scene.{Scene}
use Rattle.scene.specs.declared.Refusal.{Refusal}
use Rattle.scene.specs.Read.{unless, decide, judge, given_first, given_second, read_scene, IsScene}
use Rattle.scene.specs.Conditions.{is_region, or_else, conditions, scene_rules, check_scene_by}
use Rattle.scene.proofs.Taken.{both_of_given}
use Rattle.scene.proofs.Indices.{not_nothing}
use Rattle.scene.proofs.Outcomes.{never_taken, same_taken}
use Rattle.scene.proofs.Given.{NoFault, checked_scene_lem}
use Rattle.check_verdict.specs.Refusals.{settle, geometry_verdict}
use Rattle.check_verdict.specs.SharedPoints.{CheckedMeans}
use Rattle.check_verdict.proofs.Verdicts.{check_refused, check_read}
use Rattle.check_verdict.proofs.CheckedMeans.{checked_means_by}
use Rattle.check_verdict.proofs.Laws.{sound_scene}
use Rattle.overlap.specs.Walked.{TwoRegions}
use Rattle.sweep_laws.specs.Noted.{Noted}
use Rattle.sweep_notes.specs.Lent.{OnceLaid}
use Rattle.sweep_notes.proofs.Kept.{laid_length, laid_noted}
use Rattle.overlap.specs.Rules.{list_of, not_regions, shorter, region_rules, judged, check_regions, list_rules, check_list, NotedWhere}

-- ---- 16 comes last

module _ (s : List ℕ) (sc : Scene) where
  pub sixteen : (p : ℕ) → not_regions s sc ≡ Some p → judged s sc ≡ Err (record { reason = NotRegions; place = p })
  sixteen p q = rw q

  pub passed : not_regions s sc ≡ None → judged s sc ≡ Ok sc
  passed q = rw q

  -- it takes the scene itself
  judged_same : (o : Scene) → judged s sc ≡ Ok o → sc ≡ o
  judged_same o = go (not_regions s sc)
    where
      go : (a : Fault) → decide Err NotRegions a (Ok sc) ≡ Ok o → sc ≡ o
      go (Some p) e = absurd (never_taken e)
      go None e = same_taken e

  -- so its notes are those of the scene that is taken
  pub noted_judged : {checked : CheckedScene} {notes : List ℕ} → checked ≡ judged s sc → Noted s sc notes → NotedWhere s checked notes
  noted_judged {checked} {notes} e n o q = subst (λ (sc : Scene). Noted s sc notes) (judged_same o (sym e ∙ q)) n

-- a refusal leaves no notes to speak of
pub not_noted : {s : List ℕ} {r : Refusal} {notes : List ℕ} {checked : CheckedScene} → checked ≡ Err r → NotedWhere s checked notes
not_noted e sc q = absurd (never_taken (sym e ∙ q))

-- ---- the check of two regions, by the verdicts that led to it

module _ (s : List ℕ) where
  pub unread : (r : Refusal) → read_scene s ≡ Err r → check_regions s ≡ Err r
  unfolding check_regions
  unread r e = check_refused (scene_rules [] region_rules) s r e

  module _ (sc : Scene) (is : IsScene s sc) where
    pub at_fault : (r : Refusal) → geometry_verdict s sc ≡ Err r → check_regions s ≡ Err r
    unfolding check_regions
    at_fault r g = rw (check_read [] region_rules s sc is, g)

    pub sound_regions : geometry_verdict s sc ≡ (Ok tt) → judged s sc ≡ check_regions s
    unfolding check_regions
    sound_regions g = rw (check_read [] region_rules s sc is, g)

-- ---- and 17 after it

module _ (s : List ℕ) (room : ℕ) where
  abbrev with_room : CheckedScene → CheckedScene
  with_room (Err r) = Err r
  with_room (Ok sc) = decide Err ShortBuffer (shorter room s sc) (Ok sc)

  list_after : check_list s room ≡ with_room (check_regions s)
  unfolding check_list check_regions
  list_after = go (read_scene s) refl
    where
      judged_after : (sc : Scene) (a : Fault)
          → decide Err NotRegions a (decide Err ShortBuffer (shorter room s sc) (Ok sc)) ≡ with_room (decide Err NotRegions a (Ok sc))
      judged_after sc (Some p) = refl
      judged_after sc None = refl

      by_verdict : (sc : Scene) (v : Verdict)
          → settle Err v (judge Err (Ok sc) (conditions (list_rules room) s sc)) ≡ with_room (settle Err v (judged s sc))
      by_verdict sc (Err r) = refl
      by_verdict sc (Ok tt) = judged_after sc (not_regions s sc)

      go : (o : CheckedScene) → read_scene s ≡ o → check_scene_by (scene_rules [] (list_rules room)) s ≡ with_room (check_scene_by (scene_rules [] region_rules) s)
      go (Err r) e = rw (check_refused (scene_rules [] (list_rules room)) s r e, check_refused (scene_rules [] region_rules) s r e)
      go (Ok sc) e = rw (check_read [] (list_rules room) s sc e, check_read [] region_rules s sc e) (by_verdict sc (geometry_verdict s sc))

  pub no_regions : (r : Refusal) → check_regions s ≡ Err r → check_list s room ≡ Err r
  no_regions r e = list_after ∙ ap with_room e

  module _ (sc : Scene) (regions : check_regions s ≡ Ok sc) where
    pub seventeen : room < length (list_of s sc) → check_list s room ≡ Err (record { reason = ShortBuffer; place = 0 })
    seventeen h = list_after ∙ ap with_room regions ∙ rw (lt-leb (length (list_of s sc)) room h)

    pub roomy : length (list_of s sc) ≤ room → check_list s room ≡ Ok sc
    roomy h = list_after ∙ ap with_room regions ∙ rw (le-leb (length (list_of s sc)) room h)

-- ---- what 16 and 17 say where they have no fault

pub both_regions : (s : List ℕ) (sc : Scene) → not_regions s sc ≡ None → T (is_region sc.f.shape) × T (is_region sc.g.shape)
both_regions s sc e =
    let w = go (is_region (given_first sc).shape) (is_region (given_second sc).shape) e in
    both_of_given (λ (l : Layout). T (is_region l.shape)) sc w.0 w.1
  where
    go : (a b : Bool) → or_else (unless a (given_first sc).start) (unless b (given_second sc).start) ≡ None → T a × T b
    go true true e = (tt, tt)
    go true false e = absurd (not_nothing e)
    go false b e = absurd (not_nothing e)

enough : (n room : ℕ) → unless (leb n room) 0 ≡ None → n ≤ room
enough n room e = leb→le n room (go (leb n room) e)
  where
    go : (b : Bool) → unless b 0 ≡ None → T b
    go true e = tt
    go false e = absurd (not_nothing e)

-- ---- a scene of two regions that is taken

pub two_regions : (s : List ℕ) (sc : Scene) → check_regions s ≡ Ok sc → TwoRegions s sc
unfolding check_regions
two_regions s sc e = (sound_scene [] region_rules s sc e, regions.0, regions.1)
  where
    faults : NoFault s sc (scene_rules [] region_rules)
    faults = (checked_scene_lem (scene_rules [] region_rules) s sc e).1

    regions : T (is_region sc.f.shape) × T (is_region sc.g.shape)
    regions = both_regions s sc faults.1.1.1.1.1.1.0

-- and one whose list is taken
pub record Listable (s : List ℕ) (room : ℕ) (sc : Scene) : Type 0 where
  pub taken : TwoRegions s sc
  pub fits : length (list_of s sc) ≤ room

pub listable : (s : List ℕ) (room : ℕ) (sc : Scene) → check_list s room ≡ Ok sc → Listable s room sc
listable s room sc e = go (check_regions s) refl (sym (list_after s room) ∙ e)
  where
    by_room : (o : Scene) (a : Fault) → shorter room s o ≡ a → decide Err ShortBuffer a (Ok o) ≡ Ok sc → (o ≡ sc) × (shorter room s o ≡ None)
    by_room o (Some p) q h = absurd (never_taken h)
    by_room o None q h = (same_taken h, q)

    go : (o : CheckedScene) → check_regions s ≡ o → with_room s room o ≡ Ok sc → Listable s room sc
    go (Err r) q h = absurd (never_taken h)
    go (Ok o) q h =
        let w = by_room o (shorter room s o) refl h in
        subst (Listable s room) w.0 (record { taken = two_regions s o q; fits = enough (length (list_of s o)) room w.1 })

-- ---- the check in points

pub list_means : (s : List ℕ) (room : ℕ) → CheckedMeans s (check_list s room)
unfolding check_list
list_means s room = checked_means_by [] (list_rules room) s (λ _. tt) (λ _. (omega arith, (omega arith, tt)))

pub regions_mean : (s : List ℕ) → CheckedMeans s (check_regions s)
unfolding check_regions
regions_mean s = checked_means_by [] region_rules s (λ _. tt) (λ _. (omega arith, tt))

-- and so a scene that is taken was read

pub list_read : (s : List ℕ) (room : ℕ) (sc : Scene) → check_list s room ≡ Ok sc → IsScene s sc
list_read s room sc e = (subst (CheckedMeans s) e (list_means s room)).0

pub regions_read : (s : List ℕ) (sc : Scene) → check_regions s ≡ Ok sc → IsScene s sc
regions_read s sc e = (subst (CheckedMeans s) e (regions_mean s)).0

-- ---- the notes of the scene that is taken, in lent bytes too

noted_lent : {s : List ℕ} {checked : CheckedScene} {notes : List ℕ}
    → ((sc : Scene) → checked ≡ Ok sc → IsScene s sc)
    → NotedWhere s checked notes
    → OnceLaid notes (NotedWhere s checked)
noted_lent read noted old new h laid = (laid_length h laid, λ sc taken. laid_noted (read sc taken) laid (noted sc taken))

pub regions_lent : {s : List ℕ} {checked : CheckedScene} {notes : List ℕ} → checked ≡ check_regions s → NotedWhere s checked notes → OnceLaid notes (NotedWhere s checked)
regions_lent {s} is = noted_lent (λ sc taken. regions_read s sc (sym is ∙ taken))

pub list_lent : {s : List ℕ} (room : ℕ) {checked : CheckedScene} {notes : List ℕ} → checked ≡ check_list s room → NotedWhere s checked notes → OnceLaid notes (NotedWhere s checked)
list_lent {s} room is = noted_lent (λ sc taken. list_read s room sc (sym is ∙ taken))
