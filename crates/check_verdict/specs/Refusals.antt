-- The conditions 10 to 15 over a scene, and the first of several conditions that refuses: what the functions of this crate promise,
-- from the definitions in scene's Conditions.antt.
use Rattle.std.specs.Prelude.{Result, Ok, Err, ◌≡◌, ℕ, List, [], ◌∷◌, ◌++◌, map}
use Rattle.scene.specs.declared.Layout.{Layout}
use Rattle.scene.specs.declared.Scene.{Scene}
use Rattle.scene.specs.declared.Refusal.{Refusal}
use Rattle.scene.specs.declared.Flaw.{Flaw}
use Rattle.scene.specs.declared.Flaw.TheVariants.{Misplaced, Unpaired, Touching, OddEnd, WrongIa, TouchingAcross}
use Rattle.scene.specs.declared.Reason.TheVariants.{Flawed}
use Rattle.scene.specs.Read.{Fault, Condition, condition, judge, given_first, given_second}
use Rattle.scene.specs.Conditions.{Rule, rule, conditions, object_rules, or_else, over_both, touching_across}
use Rattle.check_conditions.specs.Faults.{fault_under}

-- the earliest record of a scene that has a flaw: 10 to 14 are about both objects, the one given first before the other, and 15 is about the records of the one
-- given first
abbrev pub fault_in_either : List ℕ → Scene → Flaw → Fault
fault_in_either s sc f = or_else (fault_under s (given_first sc) (given_second sc) f) (fault_under s (given_second sc) (given_first sc) f)

abbrev pub scene_fault_under : List ℕ → Scene → Flaw → Fault
scene_fault_under s sc Misplaced = fault_in_either s sc Misplaced
scene_fault_under s sc Unpaired = fault_in_either s sc Unpaired
scene_fault_under s sc Touching = fault_in_either s sc Touching
scene_fault_under s sc OddEnd = fault_in_either s sc OddEnd
scene_fault_under s sc WrongIa = fault_in_either s sc WrongIa
scene_fault_under s sc TouchingAcross = fault_under s (given_first sc) (given_second sc) TouchingAcross

-- nothing, or a refusal
abbrev pub Verdict : Type 0
Verdict = Result (Unit {0}) Refusal

-- what a test of one flaw may answer is what is found of it
abbrev pub Finds : (Flaw → Fault → Type 0) → (Flaw → Fault) → Type 0
Finds Answers found = (f : Flaw) (o : Fault) → Answers f o → o ≡ found f

-- several flaws as conditions, by what is found of each
abbrev pub flawed : (Flaw → Fault) → List Flaw → List Condition
flawed found flaws = map (λ (f : Flaw). condition (Flawed f) (found f)) flaws

-- in the order of the conditions
abbrev pub scene_flaws : List Flaw
scene_flaws = Misplaced ∷ Unpaired ∷ Touching ∷ OddEnd ∷ WrongIa ∷ TouchingAcross ∷ []

-- the first of several conditions that refuses, if any does
abbrev pub verdict : List Condition → Verdict
verdict = judge Err (Ok tt)

-- 10 to 14 over one object
unfoldable pub object_verdict : List ℕ → Layout → Verdict
object_verdict s l = verdict (conditions object_rules s l)

-- 10 to 14 over the two objects of a scene
unfoldable pub objects_verdict : List ℕ → Scene → Verdict
objects_verdict s sc = verdict (conditions (map over_both object_rules) s sc)

-- 10 to 15 over a scene
abbrev pub geometry_rules : List (Rule Scene)
geometry_rules = map over_both object_rules ++ (rule (Flawed TouchingAcross) touching_across ∷ [])

unfoldable pub geometry_verdict : List ℕ → Scene → Verdict
geometry_verdict s sc = verdict (conditions geometry_rules s sc)

-- what follows a verdict: nothing where it refuses
abbrev pub settle : {A : Type 0} → (Refusal → A) → Verdict → A → A
settle refuse (Err r) rest = refuse r
settle refuse (Ok tt) rest = rest
