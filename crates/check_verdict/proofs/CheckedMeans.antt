-- The verdict on a scene's bytes, and on one object's, in points of the plane: of every byte string, whatever conditions of its own a question has.
use Rattle.std.specs.Prelude.{Err, None, Ok, Some}
use Rattle.scene.specs.Read.{CheckedObject, CheckedScene, Fault}
use Prim.Native.Nat.{ℕ, ◌<◌}
use native.Mathlib.Omega.{arith}
use mathlib.Core.Path.{◌≡◌, refl, sym, subst, ◌∙◌}
use mathlib.Core.Logic.{◌↔◌, inl, inr}
use mathlib.Core.List.{List, [], ◌∷◌, ◌++◌, map, append-nil}
use Rattle.scene.specs.declared.Layout.{Layout}
use Rattle.scene.specs.declared.Scene.{Scene}
use Rattle.scene.specs.declared.Refusal.{Refusal}
use Rattle.scene.specs.declared.Reason.{Reason}
use Rattle.scene.specs.declared.Reason.TheVariants.{Flawed}
use Rattle.scene.specs.declared.Flaw.TheVariants.{TouchingAcross}
use Rattle.scene.specs.Read.{number_of, judge, given_first, given_second, read_scene, read_alone, IsObject, IsScene}
use Rattle.scene.specs.Conditions.{segments, out_of_order, unpaired, touching_itself, Rule, rule, conditions, object_rules, or_else, over_both, touching_across, scene_rules, checked_scene, check_scene_by, check_scene, checked_object, check_object}
use Rattle.scene.proofs.Taken.{taken_alone, taken_scene}
use Rattle.check_verdict.specs.SharedPoints.{FaultMeans, OnlyEndsIn, EarliestIn, OnlyEndsInEach, EarliestInEither, OnlyEndsAcross, EarliestAcross, RefusalSays, CheckedMeans, CheckedObjectMeans}
use Rattle.scene.proofs.Given.{neither}
use Rattle.check_verdict.proofs.Numbers.{Numbers, decided, SmallObject, SmallScene, small_alone, small_scene}
use Rattle.check_verdict.proofs.SharedPoints.{segments_ordered, no_fault_exactly, fault_exactly}

-- ---- what 12 and 15 find

module _ (s : List ℕ) (l : Layout) (is : IsObject s l) where
  pub none_in : (touching_itself s l ≡ None) ↔ OnlyEndsIn s l
  unfolding touching_itself
  none_in = no_fault_exactly s l is (segments s l) (segments_ordered s l is)

  pub fault_in : out_of_order s l ≡ None → unpaired s l ≡ None → (f : Fault) → (touching_itself s l ≡ f) ↔ FaultMeans s l (segments s l) f
  unfolding touching_itself
  fault_in = fault_exactly s l is (segments s l) (segments_ordered s l is)

module _ (s : List ℕ) (sc : Scene) (is_first_lem : IsObject s (given_first sc)) (is_second : IsObject s (given_second sc)) where
  pub none_across : (touching_across s sc ≡ None) ↔ OnlyEndsAcross s sc
  none_across = no_fault_exactly s (given_first sc) is_first_lem (segments s (given_second sc)) (segments_ordered s (given_second sc) is_second)

  pub fault_across : out_of_order s (given_first sc) ≡ None → unpaired s (given_first sc) ≡ None
      → (f : Fault) → (touching_across s sc ≡ f) ↔ FaultMeans s (given_first sc) (segments s (given_second sc)) f
  fault_across = fault_exactly s (given_first sc) is_first_lem (segments s (given_second sc)) (segments_ordered s (given_second sc) is_second)

-- ---- a refusal under an earlier number, the condition's own, and a later one

module _ {condition : ℕ} {Earliest : ℕ → Type 0} {None : Type 0} where
  earlier : (n p : ℕ) → n < condition → RefusalSays condition Earliest None n p
  earlier n p h = record { at_fault = λ e. absurd (omega arith); no_fault = λ k. absurd (omega arith) }

  own : (p : ℕ) → Earliest p → RefusalSays condition Earliest None condition p
  own p e = record { at_fault = λ _. e; no_fault = λ k. absurd (omega arith) }

  later : (n p : ℕ) → condition < n → None → RefusalSays condition Earliest None n p
  later n p h none = record { at_fault = λ e. absurd (omega arith); no_fault = λ _. none }

-- ---- one condition after another: what each says where it refuses, and where it does not what follows says

module _ {A B : Type 0} (s : List ℕ) (a : A) (refuse : Refusal → B) (taken : B) (Means : B → Type 0)
    (Says : ℕ → ℕ → Type 0) (refused : (n : Reason) (p : ℕ) → Says (number_of n) p → Means (refuse (record { reason = n; place = p }))) where
  record Answer (rules : List (Rule A)) : Type 0 where
    means : Means (judge refuse taken (conditions rules s a))

  next : {r : Rule A} {rules : List (Rule A)} → ((p : ℕ) → r.fault s a ≡ Some p → Says (number_of r.reason) p) → (r.fault s a ≡ None → Answer rules) → Answer (r ∷ rules)
  next {r} {rules} at otherwise =
      record { means = decided refuse Means (λ n p. Says (number_of n) p) refused r.reason (r.fault s a) (judge refuse taken (conditions rules s a)) at (λ e. (otherwise e).means) }

  -- conditions whose numbers say it
  all : (P : ℕ → Type 0) → ((n p : ℕ) → P n → Says n p) → (rules more : List (Rule A)) → Numbers P (conditions rules s a) → Answer more → Answer (rules ++ more)
  all P says [] more h rest = rest
  all P says (r ∷ rules) more h rest = next (λ p _. says (number_of r.reason) p h.0) (λ _. all P says rules more h.1 rest)

-- ---- a scene that was read

module _ (s : List ℕ) (sc : Scene) (read : IsScene s sc) where
  is_first_lem : IsObject s (given_first sc)
  is_first_lem = (taken_scene s sc read).first_read

  is_second : IsObject s (given_second sc)
  is_second = (taken_scene s sc read).second_taken.read

  abbrev Says : ℕ → ℕ → Type 0
  Says n p = RefusalSays 12 (EarliestInEither s sc) (OnlyEndsInEach s sc) n p × RefusalSays 15 (EarliestAcross s sc) (OnlyEndsAcross s sc) n p

  refused : (n : Reason) (p : ℕ) → Says (number_of n) p → CheckedMeans s (Err (record { reason = n; place = p }))
  refused n p w h = (sc, read, w.0, w.1)

  abbrev SceneAnswer : List (Rule Scene) → Type 0
  SceneAnswer = Answer s sc Err (Ok sc) (CheckedMeans s) Says refused

  step : {r : Rule Scene} {rules : List (Rule Scene)} → ((p : ℕ) → r.fault s sc ≡ Some p → Says (number_of r.reason) p) → (r.fault s sc ≡ None → SceneAnswer rules) → SceneAnswer (r ∷ rules)
  step = next s sc Err (Ok sc) (CheckedMeans s) Says refused

  several : (P : ℕ → Type 0) → ((n p : ℕ) → P n → Says n p) → (rules more : List (Rule Scene)) → Numbers P (conditions rules s sc) → SceneAnswer more → SceneAnswer (rules ++ more)
  several = all s sc Err (Ok sc) (CheckedMeans s) Says refused

  -- 12
  none_in_each : or_else (touching_itself s (given_first sc)) (touching_itself s (given_second sc)) ≡ None → OnlyEndsInEach s sc
  none_in_each e =
      let n = neither (touching_itself s (given_first sc)) (touching_itself s (given_second sc)) e in
      ((none_in s (given_first sc) is_first_lem).0 n.0, (none_in s (given_second sc) is_second).0 n.1)

  module _ (order : or_else (out_of_order s (given_first sc)) (out_of_order s (given_second sc)) ≡ None) (paired : or_else (unpaired s (given_first sc)) (unpaired s (given_second sc)) ≡ None) where
    in_order : (out_of_order s (given_first sc) ≡ None) × (out_of_order s (given_second sc) ≡ None)
    in_order = neither (out_of_order s (given_first sc)) (out_of_order s (given_second sc)) order

    in_pairs : (unpaired s (given_first sc) ≡ None) × (unpaired s (given_second sc) ≡ None)
    in_pairs = neither (unpaired s (given_first sc)) (unpaired s (given_second sc)) paired

    earliest_in_either : (p : ℕ) → or_else (touching_itself s (given_first sc)) (touching_itself s (given_second sc)) ≡ Some p → EarliestInEither s sc p
    earliest_in_either p = go (touching_itself s (given_first sc)) refl
      where
        go : (f : Fault) → touching_itself s (given_first sc) ≡ f → or_else f (touching_itself s (given_second sc)) ≡ Some p → EarliestInEither s sc p
        go (Some q) e x = inl ((fault_in s (given_first sc) is_first_lem in_order.0 in_pairs.0 (Some p)).0 (e ∙ x))
        go None e x = inr ((none_in s (given_first sc) is_first_lem).0 e, (fault_in s (given_second sc) is_second in_order.1 in_pairs.1 (Some p)).0 x)

    -- 15
    earliest_across : (p : ℕ) → touching_across s sc ≡ Some p → EarliestAcross s sc p
    earliest_across p = (fault_across s sc is_first_lem is_second in_order.0 in_pairs.0 (Some p)).0

  module _ (nine rest : List (Rule Scene)) (before : Numbers (λ n. n < 12) (conditions nine s sc)) (after : Numbers (λ n. 15 < n) (conditions rest s sc)) where
    early : (n p : ℕ) → n < 12 → Says n p
    early n p h = (earlier n p h, earlier n p (omega arith))

    by_rules : SceneAnswer (scene_rules nine rest)
    by_rules =
        several (λ n. n < 12) early nine (map over_both object_rules ++ (rule (Flawed TouchingAcross) touching_across ∷ rest)) before
        (step (λ p _. early 10 p (omega arith)) (λ order.
        step (λ p _. early 11 p (omega arith)) (λ paired.
        step (λ p e. (own p (earliest_in_either order paired p e), earlier 12 p (omega arith))) (λ apart.
        let each = none_in_each apart in
        step (λ p _. (later 13 p (omega arith) each, earlier 13 p (omega arith))) (λ _.
        step (λ p _. (later 14 p (omega arith) each, earlier 14 p (omega arith))) (λ _.
        step (λ p e. (later 15 p (omega arith) each, own p (earliest_across order paired p e))) (λ clear.
        let across = (none_across s sc is_first_lem is_second).0 clear in
        subst SceneAnswer (append-nil rest)
        (several (λ n. 15 < n) (λ n p h. (later n p (omega arith) each, later n p h across)) rest [] after
        (record { means = (read, each, across) })))))))))

-- ---- one object that was read

module _ (s : List ℕ) (l : Layout) (read : read_alone s ≡ Ok l) where
  is_object : IsObject s l
  is_object = (taken_alone s l read).read

  abbrev ObjectSays : ℕ → ℕ → Type 0
  ObjectSays = RefusalSays 12 (EarliestIn s l) (OnlyEndsIn s l)

  object_refused : (n : Reason) (p : ℕ) → ObjectSays (number_of n) p → CheckedObjectMeans s (Err (record { reason = n; place = p }))
  object_refused n p w h = (l, read, w)

  abbrev ObjectAnswer : List (Rule Layout) → Type 0
  ObjectAnswer = Answer s l Err (Ok l) (CheckedObjectMeans s) ObjectSays object_refused

  object_step : {r : Rule Layout} {rules : List (Rule Layout)} → ((p : ℕ) → r.fault s l ≡ Some p → ObjectSays (number_of r.reason) p)
      → (r.fault s l ≡ None → ObjectAnswer rules) → ObjectAnswer (r ∷ rules)
  object_step = next s l Err (Ok l) (CheckedObjectMeans s) ObjectSays object_refused

  object_by_rules : ObjectAnswer object_rules
  object_by_rules =
      object_step (λ p _. earlier 10 p (omega arith)) (λ order.
      object_step (λ p _. earlier 11 p (omega arith)) (λ paired.
      object_step (λ p e. own p ((fault_in s l is_object order paired (Some p)).0 e)) (λ apart.
      let none = (none_in s l is_object).0 apart in
      object_step (λ p _. later 13 p (omega arith) none) (λ _.
      object_step (λ p _. later 14 p (omega arith) none) (λ _. record { means = (read, none) })))))

-- ---- every byte string

-- a question's own conditions have numbers below 12 and above 15
module _ (nine rest : List (Rule Scene)) (s : List ℕ)
    (before : (sc : Scene) → Numbers (λ n. n < 12) (conditions nine s sc)) (after : (sc : Scene) → Numbers (λ n. 15 < n) (conditions rest s sc)) where
  pub checked_means_by : CheckedMeans s (check_scene_by (scene_rules nine rest) s)
  unfolding check_scene_by
  checked_means_by = go (read_scene s) refl
    where
      go : (o : CheckedScene) → read_scene s ≡ o → CheckedMeans s (checked_scene (scene_rules nine rest) s o)
      go (Err r) e = λ h. absurd (omega (arith, subst SmallScene e (small_scene s)))
      go (Ok sc) e = (by_rules s sc e nine rest (before sc) (after sc)).means

pub checked_means : (s : List ℕ) → CheckedMeans s (check_scene s)
unfolding check_scene
checked_means s = checked_means_by [] [] s (λ _. tt) (λ _. tt)

pub checked_object_means : (s : List ℕ) → CheckedObjectMeans s (check_object s)
unfolding check_object
checked_object_means s = go (read_alone s) refl
  where
    go : (o : CheckedObject) → read_alone s ≡ o → CheckedObjectMeans s (checked_object s o)
    go (Err r) e = λ h. absurd (omega (arith, subst SmallObject e (small_alone s)))
    go (Ok l) e = (object_by_rules s l e).means

-- as a contract says it of its result
pub with_meaning : (s : List ℕ) {r : CheckedScene} → r ≡ check_scene s → (r ≡ check_scene s) × CheckedMeans s r
with_meaning s e = (e, subst (CheckedMeans s) (sym e) (checked_means s))

pub object_with_meaning : (s : List ℕ) {r : CheckedObject} → r ≡ check_object s → (r ≡ check_object s) × CheckedObjectMeans s r
object_with_meaning s e = (e, subst (CheckedObjectMeans s) (sym e) (checked_object_means s))
