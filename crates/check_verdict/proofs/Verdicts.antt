-- Verdicts: the conditions of a list one after the other by their numbers, and how the check of a question is put together from the verdicts of its
-- parts, whatever conditions of its own it has.
use Rattle.std.specs.Prelude.{Err, None, Ok, Some}
use Rattle.scene.specs.Read.{Fault}
use Prim.Native.Nat.{ℕ}
use mathlib.Core.Path.{◌≡◌, refl, sym, ap, ap₂, ◌∙◌}
use mathlib.Core.Bool.{Bool, true, false}
use mathlib.Core.List.{List, [], ◌∷◌, ◌++◌}
use Rattle.scene.specs.declared.Layout.{Layout}
use Rattle.scene.specs.declared.Scene.{Scene}
use Rattle.scene.specs.declared.Refusal.{Refusal}
use Rattle.scene.specs.declared.Flaw.{Flaw}
use Rattle.scene.specs.declared.Flaw.TheVariants.{Misplaced, Unpaired, Touching, OddEnd, WrongIa, TouchingAcross}
use Rattle.scene.specs.declared.Reason.{Reason}
use Rattle.scene.specs.declared.Reason.TheVariants.{Flawed}
use Rattle.scene.specs.Read.{Condition, condition, decide, judge, given_first, given_second, read_scene, read_alone, IsObject, IsScene}
use Rattle.scene.specs.Conditions.{out_of_order, unpaired, touching_itself, odd_end, wrong_ia, or_else, touching_across, Rule, conditions, scene_rules, checked_scene, check_scene_by, checked_object, check_object, object_rules}
use Rattle.sweep_laws.specs.Swept.{object_of, InOrder, Passes}
use Rattle.check_verdict.specs.Refusals.{scene_fault_under, flawed, scene_flaws, Verdict, verdict, settle, object_verdict, geometry_rules, geometry_verdict}
use Rattle.scene.proofs.Outcomes.{never_taken}
use Rattle.scene.proofs.Taken.{both_of_given, given_of_both}
use Rattle.scene.proofs.Given.{neither}
use Rattle.check_conditions.proofs.Earliest.{fault_11, fault_12, fault_13, fault_14, fault_15}

-- ---- flaw by flaw

module _ (found : Flaw → Fault) (f : Flaw) (flaws : List Flaw) where
  pub refuses : (p : ℕ) → found f ≡ Some p → verdict (flawed found (f ∷ flaws)) ≡ Err (record { reason = Flawed f; place = p })
  refuses p e = rw e

  pub passes : found f ≡ None → verdict (flawed found (f ∷ flaws)) ≡ verdict (flawed found flaws)
  passes e = rw e

-- equal faults refuse alike, and where there is none what follows decides
decide_alike : (n : Reason) (f g : Fault) (a b : Verdict) → f ≡ g → (f ≡ None → a ≡ b) → decide Err n f a ≡ decide Err n g b
decide_alike n f g a b e then = go f refl ∙ ap (λ (h : Fault). decide Err n h b) e
  where
    go : (h : Fault) → f ≡ h → decide Err n h a ≡ decide Err n h b
    go (Some p) q = refl
    go None q = then q

-- each test rests on the conditions before it
pub geometry_flawed : (s : List ℕ) (sc : Scene) → IsObject s (given_first sc) → IsObject s (given_second sc)
    → geometry_verdict s sc ≡ verdict (flawed (scene_fault_under s sc) scene_flaws)
unfolding geometry_verdict out_of_order
geometry_flawed s sc is_first_lem is_second =
    decide_alike (Flawed Misplaced) (or_else (out_of_order s (given_first sc)) (out_of_order s (given_second sc))) (scene_fault_under s sc Misplaced) _ _ refl (λ order.
    let o = neither (out_of_order s (given_first sc)) (out_of_order s (given_second sc)) order in
    decide_alike (Flawed Unpaired) (or_else (unpaired s (given_first sc)) (unpaired s (given_second sc))) (scene_fault_under s sc Unpaired) _ _ (ap₂ or_else (sym (fault_11 s (given_first sc) is_first_lem o.0)) (sym (fault_11 s (given_second sc) is_second o.1))) (λ paired.
    let p = neither (unpaired s (given_first sc)) (unpaired s (given_second sc)) paired in
    decide_alike (Flawed Touching) (or_else (touching_itself s (given_first sc)) (touching_itself s (given_second sc))) (scene_fault_under s sc Touching) _ _ (ap₂ or_else (sym (fault_12 s (given_first sc) is_first_lem o.0)) (sym (fault_12 s (given_second sc) is_second o.1))) (λ _.
    decide_alike (Flawed OddEnd) (or_else (odd_end s (given_first sc)) (odd_end s (given_second sc))) (scene_fault_under s sc OddEnd) _ _ (ap₂ or_else (sym (fault_13 s (given_first sc) is_first_lem o.0 p.0)) (sym (fault_13 s (given_second sc) is_second o.1 p.1))) (λ _.
    decide_alike (Flawed WrongIa) (or_else (wrong_ia s (given_first sc)) (wrong_ia s (given_second sc))) (scene_fault_under s sc WrongIa) _ _ (ap₂ or_else (sym (fault_14 s (given_first sc) is_first_lem o.0 p.0)) (sym (fault_14 s (given_second sc) is_second o.1 p.1))) (λ _.
    decide_alike (Flawed TouchingAcross) (touching_across s sc) (scene_fault_under s sc TouchingAcross) _ _ (sym (fault_15 s (given_second sc) is_second o.1 (given_first sc) is_first_lem)) (λ _. refl))))))

-- ---- 10 to 15 refuse no scene in which they find no fault

pub passes_sound : (s : List ℕ) (sc : Scene) → InOrder s sc → Passes s sc → geometry_verdict s sc ≡ (Ok tt)
unfolding geometry_verdict
passes_sound s sc order p =
    let o = given out_of_order order in
    let a = given unpaired p.paired in
    let b = given touching_itself p.apart in
    let c = given odd_end p.even in
    let d = given wrong_ia p.right_ia in
    rw (o.0, o.1, a.0, a.1, b.0, b.1, c.0, c.1, d.0, d.1, p.across)
  where
    given : (f : List ℕ → Layout → Fault) → ((first : Bool) → f s (object_of s sc first) ≡ None) → (f s (given_first sc) ≡ None) × (f s (given_second sc) ≡ None)
    given f q = given_of_both (λ (l : Layout). f s l ≡ None) sc (q true) (q false)

-- and in one that they do not refuse they find none
sound_first : (n : Reason) (f : Fault) (rest : Verdict) → decide Err n f rest ≡ (Ok tt) → (f ≡ None) × (rest ≡ (Ok tt))
sound_first n (Some p) rest e = absurd (never_taken e)
sound_first n None rest e = (refl, e)

pub sound_passes : (s : List ℕ) (sc : Scene) → geometry_verdict s sc ≡ (Ok tt) → InOrder s sc × Passes s sc
unfolding geometry_verdict
sound_passes s sc e =
    let a = sound_first (Flawed Misplaced) (either out_of_order) _ e in
    let b = sound_first (Flawed Unpaired) (either unpaired) _ a.1 in
    let c = sound_first (Flawed Touching) (either touching_itself) _ b.1 in
    let d = sound_first (Flawed OddEnd) (either odd_end) _ c.1 in
    let i = sound_first (Flawed WrongIa) (either wrong_ia) _ d.1 in (
      of_both_lem out_of_order a.0,
      record {
        paired = of_both_lem unpaired b.0;
        apart = of_both_lem touching_itself c.0;
        even = of_both_lem odd_end d.0;
        right_ia = of_both_lem wrong_ia i.0;
        across = (sound_first (Flawed TouchingAcross) (touching_across s sc) (Ok tt) i.1).0;
      },
    )
  where
    either : (List ℕ → Layout → Fault) → Fault
    either f = or_else (f s (given_first sc)) (f s (given_second sc))

    of_both_lem : (f : List ℕ → Layout → Fault) → either f ≡ None → (first : Bool) → f s (object_of s sc first) ≡ None
    of_both_lem f q first =
        let n = neither (f s (given_first sc)) (f s (given_second sc)) q in
        let w = both_of_given (λ (l : Layout). f s l ≡ None) sc n.0 n.1 in
        go first w.0 w.1
      where
        go : (first : Bool) → f s sc.f ≡ None → f s sc.g ≡ None → f s (object_of s sc first) ≡ None
        go true x y = x
        go false x y = y

-- ---- one list of conditions after another

module _ {A : Type 0} (refuse : Refusal → A) (taken : A) where
  pub judge_append : (cs ds : List Condition) → judge refuse taken (cs ++ ds) ≡ settle refuse (verdict cs) (judge refuse taken ds)
  judge_append [] ds = refl
  judge_append (c ∷ cs) ds = go c.fault (judge_append cs ds)
    where
      go : (f : Fault) → judge refuse taken (cs ++ ds) ≡ settle refuse (verdict cs) (judge refuse taken ds)
          → decide refuse c.reason f (judge refuse taken (cs ++ ds)) ≡ settle refuse (decide Err c.reason f (verdict cs)) (judge refuse taken ds)
      go (Some p) e = refl
      go None e = e

  module _ {B : Type 0} (s : List ℕ) (b : B) where
    conditions_append : (rules more : List (Rule B)) → conditions (rules ++ more) s b ≡ conditions rules s b ++ conditions more s b
    conditions_append [] more = refl
    conditions_append (r ∷ rules) more = ap (λ (cs : List Condition). condition r.reason (r.fault s b) ∷ cs) (conditions_append rules more)

    pub judge_rules : (rules more : List (Rule B))
        → judge refuse taken (conditions (rules ++ more) s b) ≡ settle refuse (verdict (conditions rules s b)) (judge refuse taken (conditions more s b))
    judge_rules rules more = ap (judge refuse taken) (conditions_append rules more) ∙ judge_append (conditions rules s b) (conditions more s b)

-- ---- the check of a question: 1 to 7, its nine, 10 to 15, and its later ones

pub check_refused : (rules : List (Rule Scene)) (s : List ℕ) (r : Refusal) → read_scene s ≡ Err r → check_scene_by rules s ≡ Err r
unfolding check_scene_by
check_refused rules s r e = rw e

pub check_read : (nine later : List (Rule Scene)) (s : List ℕ) (sc : Scene) → IsScene s sc
    → check_scene_by (scene_rules nine later) s
    ≡ settle Err (verdict (conditions nine s sc))
    (settle Err (geometry_verdict s sc) (judge Err (Ok sc) (conditions later s sc)))
unfolding check_scene_by geometry_verdict
check_read nine later s sc e =
    ap (checked_scene (scene_rules nine later) s) e
    ∙ judge_rules Err (Ok sc) s sc nine (geometry_rules ++ later)
    ∙ ap (settle Err (verdict (conditions nine s sc))) (judge_rules Err (Ok sc) s sc geometry_rules later)

-- and of one object
pub object_refused : (s : List ℕ) (r : Refusal) → read_alone s ≡ Err r → check_object s ≡ Err r
unfolding check_object
object_refused s r e = rw e

pub object_read : (s : List ℕ) (l : Layout) → read_alone s ≡ Ok l
    → check_object s ≡ settle Err (object_verdict s l) (Ok l)
unfolding check_object object_verdict
object_read s l e = ap (checked_object s) e ∙ judge_append Err (Ok l) (conditions object_rules s l) []
