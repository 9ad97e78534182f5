-- Two objects' bytes one after the other, and the other way round: a condition finds a fault in the one scene exactly where it finds one in the other, so both
-- are taken, or both are refused under one number.
use Rattle.scene.specs.declared.Reason.TheVariants.{Flawed}
use Rattle.scene.specs.declared.Flaw.TheVariants.{TouchingAcross}
use Rattle.std.specs.Prelude.{Err, None, Ok, Some}
use Rattle.scene.specs.Read.{CheckedScene, Fault}
use Rattle.check_verdict.specs.Refusals.{Verdict}
use Prim.Native.Nat.{ℕ}
use native.Mathlib.Omega.{arith}
use mathlib.Core.Path.{◌≡◌, refl, sym, ap, ap₂, subst, subst₂, ◌∙◌}
use mathlib.Core.Logic.{◌↔◌}
use mathlib.Core.Bool.{Bool, not, and_comm}
use mathlib.Core.List.{List, [], ◌∷◌, ◌++◌, map}
use lib.Dec.{T}
use lib.ListN.{length}
use Rattle.plane.specs.declared.Segment.{Segment}
use Rattle.plane.specs.Plane.{is_end, fractions, SharePoint}
use Rattle.scene.specs.declared.Layout.{Layout}
use Rattle.scene.specs.declared.Scene.{Scene}
use Rattle.scene.specs.Read.{number_of, decide, given_first, given_second, read_alone, IsScene}
use Rattle.scene.specs.Conditions.{segments, Rule, rule, conditions, or_else, over_both, object_rules, touching_across, check_scene}
use Rattle.scene.proofs.Taken.{Arranged, taken_alone, taken_scene}
use Rattle.scene.proofs.Indices.{not_nothing}
use Rattle.scene.proofs.Moved.{moved, moved_fault}
use Rattle.scene.proofs.Standing.{Moves, moved_faults, segments_stay}
use Rattle.scene.proofs.SideBySide.{first_stands, second_stands, beside, beside_read, beside_given}
use Rattle.check_verdict.specs.Refusals.{verdict, settle, geometry_rules, geometry_verdict}
use Rattle.check_verdict.specs.SharedPoints.{OnlyEndsShared, OnlyEndsAcross}
use Rattle.check_verdict.proofs.Verdicts.{check_read}
use Rattle.check_verdict.proofs.Numbers.{Numbered, numbered}
use Rattle.check_verdict.proofs.CheckedMeans.{none_across}

-- ---- lists of conditions

-- a fault in both, or in neither
pub record Alike (f g : Fault) : Type 0 where
  pub there : f ≡ None → g ≡ None
  pub back : g ≡ None → f ≡ None

abbrev verdict_number : Verdict → ℕ
verdict_number (Ok tt) = 0
verdict_number (Err r) = number_of r.reason

module _ (s t : List ℕ) (a b : Scene) where
  abbrev AllAlike : List (Rule Scene) → Type 0
  AllAlike [] = Unit {0}
  AllAlike (r ∷ rules) = Alike (r.fault s a) (r.fault t b) × AllAlike rules

  same_number : (rules : List (Rule Scene)) → AllAlike rules → verdict_number (verdict (conditions rules s a)) ≡ verdict_number (verdict (conditions rules t b))
  same_number [] h = refl
  same_number (r ∷ rules) h = go (r.fault s a) (r.fault t b) h.0 (same_number rules h.1)
    where
      go : (f g : Fault) → Alike f g → verdict_number (verdict (conditions rules s a)) ≡ verdict_number (verdict (conditions rules t b))
          → verdict_number (decide Err r.reason f (verdict (conditions rules s a))) ≡ verdict_number (decide Err r.reason g (verdict (conditions rules t b)))
      go (Some p) (Some q) k e = refl
      go (Some p) None k e = absurd (not_nothing (k.back refl))
      go None (Some q) k e = absurd (not_nothing (k.there refl))
      go None None k e = e

-- ---- a b, and b a

-- 10 to 14, of each object
either_order : (i j k n : ℕ) (f g : Fault) → Alike (or_else (moved_fault i f) (moved_fault j g)) (or_else (moved_fault k g) (moved_fault n f))
either_order i j k n (Some p) (Some q) = record { there = λ e. absurd (not_nothing e); back = λ e. absurd (not_nothing e) }
either_order i j k n (Some p) None = record { there = λ e. absurd (not_nothing e); back = λ e. absurd (not_nothing e) }
either_order i j k n None (Some q) = record { there = λ e. absurd (not_nothing e); back = λ e. absurd (not_nothing e) }
either_order i j k n None None = record { there = λ e. refl; back = λ e. refl }

-- 15, of both
share_swap : {t u : Segment} → SharePoint t u → SharePoint u t
share_swap {t} {u} p = record {
  shared = p.shared;
  on_one = p.on_other;
  on_other = p.on_one;
  not_both_ends = subst (λ (b : Bool). T (not b)) (and_comm (is_end t (fractions p.shared)) (is_end u (fractions p.shared))) p.not_both_ends;
}

ends_swap : {these others : List Segment} → OnlyEndsShared these others → OnlyEndsShared others these
ends_swap f u t m k n p = f t u k m (λ e. n (sym e)) (share_swap p)

-- one order: what is found in the bytes of each object alone is found in the scene
module _ (a b : List ℕ) (l m : Layout) (first : read_alone a ≡ Ok l) (second : read_alone b ≡ Ok m) where
  abbrev scene : Scene
  scene = beside a b l m

  given : Arranged l (moved (length a) m) scene
  given = beside_given a b l m first second

  pub read : IsScene (a ++ b) scene
  read = beside_read a b l m first second

  pub segments_first : segments (a ++ b) (given_first scene) ≡ segments a l
  segments_first = ap (segments (a ++ b)) given.first ∙ segments_stay (first_stands a b l (taken_alone a l first).read)

  pub segments_second : segments (a ++ b) (given_second scene) ≡ segments b m
  segments_second = ap (segments (a ++ b)) given.second ∙ segments_stay (second_stands a b m (taken_alone b m second).read)

  -- 15 finds none exactly where no two segments share more than common ends
  pub across_none : (touching_across (a ++ b) scene ≡ None) ↔ OnlyEndsShared (segments a l) (segments b m)
  across_none = subst₂ (λ (x y : List Segment). (touching_across (a ++ b) scene ≡ None) ↔ OnlyEndsShared x y) segments_first segments_second exactly
    where
      exactly : (touching_across (a ++ b) scene ≡ None) ↔ OnlyEndsAcross (a ++ b) scene
      exactly = let t = taken_scene (a ++ b) scene read in none_across (a ++ b) scene t.first_read t.second_taken.read

  -- a rule over both objects, by what it finds in each
  module _ (r : Rule Layout) where
    abbrev FoundFirst : Type 0
    FoundFirst = r.fault (a ++ b) l ≡ moved_fault 0 (r.fault a l)

    abbrev FoundSecond : Type 0
    FoundSecond = r.fault (a ++ b) (moved (length a) m) ≡ moved_fault (length a) (r.fault b m)

    found : FoundFirst → FoundSecond → (over_both r).fault (a ++ b) scene ≡ or_else (moved_fault 0 (r.fault a l)) (moved_fault (length a) (r.fault b m))
    found x y = ap₂ or_else (ap (r.fault (a ++ b)) given.first ∙ x) (ap (r.fault (a ++ b)) given.second ∙ y)

-- both orders
module _ (a b : List ℕ) (l m : Layout) (first : read_alone a ≡ Ok l) (second : read_alone b ≡ Ok m) where
  abbrev ab : Scene
  ab = beside a b l m

  abbrev ba : Scene
  ba = beside b a m l

  alike_rules : (rules : List (Rule Layout)) → Moves (first_stands a b l (taken_alone a l first).read) rules → Moves (second_stands a b m (taken_alone b m second).read) rules
      → Moves (first_stands b a m (taken_alone b m second).read) rules → Moves (second_stands b a l (taken_alone a l first).read) rules
      → (more : List (Rule Scene)) → AllAlike (a ++ b) (b ++ a) ab ba more → AllAlike (a ++ b) (b ++ a) ab ba (map over_both rules ++ more)
  alike_rules [] x y z w more h = h
  alike_rules (r ∷ rules) x y z w more h = (
    subst₂ Alike (sym (found a b l m first second r x.0 y.0)) (sym (found b a m l second first r z.0 w.0)) (either_order 0 (length a) 0 (length b) (r.fault a l) (r.fault b m)),
    alike_rules rules x.1 y.1 z.1 w.1 more h,
  )

  alike_across : Alike (touching_across (a ++ b) ab) (touching_across (b ++ a) ba)
  alike_across =
      let x = across_none a b l m first second in
      let y = across_none b a m l second first in
      record { there = λ e. y.1 (ends_swap (x.0 e)); back = λ e. x.1 (ends_swap (y.0 e)) }

  same_verdict_number : verdict_number (geometry_verdict (a ++ b) ab) ≡ verdict_number (geometry_verdict (b ++ a) ba)
  unfolding geometry_verdict
  same_verdict_number =
      same_number (a ++ b) (b ++ a) ab ba geometry_rules
      (alike_rules object_rules (moved_faults (first_stands a b l (taken_alone a l first).read)) (moved_faults (second_stands a b m (taken_alone b m second).read))
      (moved_faults (first_stands b a m (taken_alone b m second).read)) (moved_faults (second_stands b a l (taken_alone a l first).read)) (rule (Flawed TouchingAcross) touching_across ∷ []) (alike_across, tt))

-- ---- the check

abbrev pub checked_number : CheckedScene → ℕ
checked_number (Ok sc) = 0
checked_number (Err r) = number_of r.reason

module _ (s : List ℕ) (sc : Scene) (is : IsScene s sc) where
  pub checked : check_scene s ≡ settle Err (geometry_verdict s sc) (Ok sc)
  unfolding check_scene
  checked = check_read [] [] s sc is

  number_is : checked_number (check_scene s) ≡ verdict_number (geometry_verdict s sc)
  number_is = ap checked_number checked ∙ go (geometry_verdict s sc)
    where
      go : (v : Verdict) → checked_number (settle Err v (Ok sc)) ≡ verdict_number v
      go (Ok tt) = refl
      go (Err r) = refl

  -- number 0 is that of no refusal
  pub zero_taken : checked_number (check_scene s) ≡ 0 → check_scene s ≡ Ok sc
  zero_taken e = checked ∙ go (geometry_verdict s sc) refl (sym number_is ∙ e)
    where
      go : (v : Verdict) → geometry_verdict s sc ≡ v → verdict_number v ≡ 0 → settle Err v (Ok sc) ≡ Ok sc
      go (Ok tt) q z = refl
      go (Err r) q z = absurd (omega (arith, z, subst Numbered (checked ∙ ap (λ (v : Verdict). settle Err v (Ok sc)) q) (numbered s)))

pub same_number_twice : (a b : List ℕ) (l m : Layout) → read_alone a ≡ Ok l → read_alone b ≡ Ok m
    → checked_number (check_scene (a ++ b)) ≡ checked_number (check_scene (b ++ a))
same_number_twice a b l m first second =
    number_is (a ++ b) (beside a b l m) (read a b l m first second)
    ∙ same_verdict_number a b l m first second
    ∙ sym (number_is (b ++ a) (beside b a m l) (read b a m l second first))
