-- 10 to 14 over both objects are what each says by itself, the lower number first.
use Rattle.std.specs.Prelude.{Err, None, Ok, Some}
use Rattle.scene.specs.Read.{Fault}
use Prim.Native.Nat.{ℕ, ◌+◌, ◌<◌, ◌≤◌}
use native.Mathlib.Nat.{add-zero}
use native.Mathlib.Omega.{arith}
use mathlib.Core.Path.{◌≡◌, refl, sym, ap, ap₂, subst, ◌∙◌}
use mathlib.Core.Bool.{Bool, true, false, cond}
use mathlib.Core.List.{List, [], ◌∷◌, ◌++◌, map}
use Rattle.std.proofs.Common.{take, drop}
use Rattle.std.proofs.lemmas.List.{take-append-drop, length-take-le}
use lib.ListN.{length, length-append}
use borrow.Author.Tests.{lt-ltb, le-ltb}
use Rattle.whole.specs.Count.{◌∈◌, here, there}
use Rattle.scene.specs.declared.Layout.{Layout}
use Rattle.scene.specs.declared.Scene.{Scene}
use Rattle.scene.specs.declared.Refusal.{Refusal}
use Rattle.scene.specs.declared.Reason.TheVariants.{Flawed}
use Rattle.scene.specs.declared.Flaw.TheVariants.{Misplaced, Unpaired, Touching, OddEnd, WrongIa}
use Rattle.scene.specs.Read.{place, number_of, decide, given_first, given_second, read_object, read_alone, read_scene}
use Rattle.scene.specs.Conditions.{Rule, rule, conditions, object_rules, or_else, over_both, elements, earliest, out_of_order, unpaired, touching, touching_itself, odd_end, wrong_ia, check_object}
use Rattle.scene.proofs.Taken.{TakenScene, taken_alone, taken_scene}
use Rattle.scene.proofs.Moved.{moved, moved_fault, unmoved_fault, room_for}
use Rattle.scene.proofs.Indices.{in_element, not_nothing}
use Rattle.scene.proofs.Outcomes.{never_taken, same_refusal}
use Rattle.std.proofs.lemmas.Option.{same_Some}
use Rattle.scene.proofs.Standing.{moved_faults}
use Rattle.scene.proofs.SideBySide.{Alone, first_stands, second_stands, first_alone, second_alone}
use Rattle.check_verdict.specs.Refusals.{Verdict, verdict, object_verdict, objects_verdict, settle}
use Rattle.check_verdict.proofs.Verdicts.{object_read}
use Rattle.split.specs.Joined.{found, earlier, sooner}

-- ---- the place of a fault is within the object's bytes

module _ (s : List ℕ) (l : Layout) (read : read_alone s ≡ Ok l) where
  place_within : (i : ℕ) → i < l.count → place l i < length s
  place_within i h =
      let t = taken_alone s l read in
      omega (arith, room_for l.shape l.start i l.count h, t.all)

  earliest_within : (wrong : ℕ → Bool) (p : ℕ) → earliest l wrong (elements l) ≡ Some p → p < length s
  earliest_within wrong p = go (elements l) (λ i m. in_element l i m)
    where
      go : (is : List ℕ) → ((i : ℕ) → i ∈ is → i < l.count) → earliest l wrong is ≡ Some p → p < length s
      go [] h e = absurd (not_nothing (sym e))
      go (i ∷ is) h e = at (wrong i) e (go is (λ j m. h j (there m)))
        where
          at : (b : Bool) → cond b (Some (place l i)) (earliest l wrong is) ≡ Some p → (earliest l wrong is ≡ Some p → p < length s) → p < length s
          at true q later = subst (λ p. p < length s) (same_Some (place l i) p q) (place_within i (h i here))
          at false q later = later q

  abbrev Within : List (Rule Layout) → Type 0
  Within [] = Unit {0}
  Within (r ∷ rules) = ((p : ℕ) → r.fault s l ≡ Some p → p < length s) × Within rules

  all_within : Within object_rules
  unfolding out_of_order unpaired touching touching_itself odd_end wrong_ia
  all_within = (earliest_within _, (earliest_within _, (earliest_within _, (earliest_within _, (earliest_within _, tt)))))

  verdict_within : (rules : List (Rule Layout)) → Within rules → (q : Refusal) → verdict (conditions rules s l) ≡ Err q → q.place < length s
  verdict_within [] w q e = absurd (never_taken (sym e))
  verdict_within (r ∷ rules) w q e = go (r.fault s l) refl e (verdict_within rules w.1 q)
    where
      go : (f : Fault) → r.fault s l ≡ f → decide Err r.reason f (verdict (conditions rules s l)) ≡ Err q → (verdict (conditions rules s l) ≡ Err q → q.place < length s) → q.place < length s
      go (Some p) f e later = subst (λ (q : Refusal). q.place < length s) (same_refusal e) (w.0 p f)
      go None f e later = later e

  pub refused_within : (q : Refusal) → check_object s ≡ Err q → q.place < length s
  unfolding object_verdict
  refused_within q e = verdict_within object_rules all_within q (unsettled (object_verdict s l) (sym (object_read s l read) ∙ e))
    where
      unsettled : (v : Verdict) → settle Err v (Ok l) ≡ Err q → v ≡ Err q
      unsettled (Ok tt) f = absurd (never_taken (sym f))
      unsettled (Err r) f = ap Err (same_refusal f)

-- ---- rule by rule

abbrev moved_verdict : ℕ → Verdict → Verdict
moved_verdict d (Ok tt) = Ok tt
moved_verdict d (Err r) = Err (record { reason = r.reason; place = r.place + d })

-- the numbers of the rules rise
abbrev Above : ℕ → List (Rule Layout) → Type 0
Above n [] = Unit {0}
Above n (r ∷ rules) = (n < number_of r.reason) × Above n rules

abbrev Rising : List (Rule Layout) → Type 0
Rising [] = Unit {0}
Rising (r ∷ rules) = Above (number_of r.reason) rules × Rising rules

rising : Rising object_rules
rising = (
  (omega arith, (omega arith, (omega arith, (omega arith, tt)))),
  (
    (omega arith, (omega arith, (omega arith, tt))),
    (
      (omega arith, (omega arith, tt)),
      (
        (omega arith, tt),
        (tt, tt),
      ),
    ),
  ),
)

later_number : (n : ℕ) (rules : List (Rule Layout)) → Above n rules → (s : List ℕ) (l : Layout) (q : Refusal) → verdict (conditions rules s l) ≡ Err q → n < number_of q.reason
later_number n [] a s l q e = absurd (never_taken (sym e))
later_number n (r ∷ rules) a s l q e = go (r.fault s l) e (later_number n rules a.1 s l q)
  where
    go : (f : Fault) → decide Err r.reason f (verdict (conditions rules s l)) ≡ Err q → (verdict (conditions rules s l) ≡ Err q → n < number_of q.reason) → n < number_of q.reason
    go (Some p) e later = subst (λ (q : Refusal). n < number_of q.reason) (same_refusal e) a.0
    go None e later = later e

module _ (a b : List ℕ) (l m : Layout) (t : List ℕ) (sc : Scene) (d : ℕ) where
  -- what each finds in the scene is what it finds in each object
  abbrev Same : List (Rule Layout) → Type 0
  Same [] = Unit {0}
  Same (r ∷ rules) = ((r.fault t (given_first sc) ≡ r.fault a l) × (r.fault t (given_second sc) ≡ moved_fault d (r.fault b m))) × Same rules

  -- the first object's refusal comes before those of later rules
  first_wins : (r q : Refusal) → (number_of q.reason < number_of r.reason → ⊥) → ◌≡◌ {A = Verdict} (Err r) (Err (earlier r q))
  first_wins r q h = ap (λ (b : Bool). Err (cond b q r)) (sym (le-ltb (number_of q.reason) (number_of r.reason) (omega (arith, h))))

  second_wins : (r q : Refusal) → number_of q.reason < number_of r.reason → ◌≡◌ {A = Verdict} (Err q) (Err (earlier r q))
  second_wins r q h = ap (λ (b : Bool). Err (cond b q r)) (sym (lt-ltb (number_of q.reason) (number_of r.reason) h))

  both : (rules : List (Rule Layout)) → Same rules → Rising rules
      → verdict (conditions (map over_both rules) t sc) ≡ sooner (verdict (conditions rules a l)) (moved_verdict d (verdict (conditions rules b m)))
  both [] same up = refl
  both (r ∷ rules) same up =
      ap₂ (λ f g. decide Err r.reason (or_else f g) (verdict (conditions (map over_both rules) t sc))) same.0.0 same.0.1
      ∙ go (r.fault a l) (r.fault b m) (both rules same.1 up.1)
    where
      before_rest : (p : ℕ) (v : Verdict) → verdict (conditions rules b m) ≡ v → Err (record { reason = r.reason; place = p }) ≡ sooner (Err (record { reason = r.reason; place = p })) (moved_verdict d v)
      before_rest p (Ok tt) e = refl
      before_rest p (Err q) e =
          let h = later_number (number_of r.reason) rules up.0 b m q e in
          first_wins (record { reason = r.reason; place = p }) (record { reason = q.reason; place = q.place + d }) (λ k. omega (arith, h, k))

      after_rest : (p : ℕ) (v : Verdict) → verdict (conditions rules a l) ≡ v → Err (record { reason = r.reason; place = p }) ≡ sooner v (Err (record { reason = r.reason; place = p }))
      after_rest p (Ok tt) e = refl
      after_rest p (Err q) e = second_wins q (record { reason = r.reason; place = p }) (later_number (number_of r.reason) rules up.0 a l q e)

      go : (f g : Fault) → verdict (conditions (map over_both rules) t sc) ≡ sooner (verdict (conditions rules a l)) (moved_verdict d (verdict (conditions rules b m)))
          → decide Err r.reason (or_else f (moved_fault d g)) (verdict (conditions (map over_both rules) t sc))
          ≡ sooner (decide Err r.reason f (verdict (conditions rules a l))) (moved_verdict d (decide Err r.reason g (verdict (conditions rules b m))))
      go (Some p) (Some q) rest = first_wins (record { reason = r.reason; place = p }) (record { reason = r.reason; place = q + d }) (λ k. omega (arith, k))
      go (Some p) None rest = before_rest p (verdict (conditions rules b m)) refl
      go None (Some q) rest = after_rest (q + d) (verdict (conditions rules a l)) refl
      go None None rest = rest

-- ---- of a scene that is read

found_is : (d : ℕ) (s : List ℕ) (l : Layout) → read_alone s ≡ Ok l → found d (check_object s) ≡ moved_verdict d (object_verdict s l)
found_is d s l read = ap (found d) (object_read s l read) ∙ go (object_verdict s l)
  where
    go : (v : Verdict) → found d (settle Err v (Ok l)) ≡ moved_verdict d v
    go (Ok tt) = refl
    go (Err r) = refl

unmoved_verdict : (v : Verdict) → moved_verdict 0 v ≡ v
unmoved_verdict (Ok tt) = refl
unmoved_verdict (Err r) = ap (λ (p : ℕ). Err (record { reason = r.reason; place = p })) (add-zero r.place)

module _ (a b : List ℕ) (l m : Layout) (sc : Scene) (first : read_alone a ≡ Ok l) (second : read_alone b ≡ Ok m) (g : given_first sc ≡ l) (h : given_second sc ≡ moved (length a) m) where
  -- what a rule finds in each
  each : (r : Rule Layout) → r.fault (a ++ b) l ≡ moved_fault 0 (r.fault a l) → r.fault (a ++ b) (moved (length a) m) ≡ moved_fault (length a) (r.fault b m)
      → (r.fault (a ++ b) (given_first sc) ≡ r.fault a l) × (r.fault (a ++ b) (given_second sc) ≡ moved_fault (length a) (r.fault b m))
  each r x y = (ap (r.fault (a ++ b)) g ∙ x ∙ unmoved_fault (r.fault a l), ap (r.fault (a ++ b)) h ∙ y)

  pub joined : objects_verdict (a ++ b) sc ≡ sooner (found 0 (check_object a)) (found (length a) (check_object b))
  unfolding objects_verdict object_verdict
  joined =
      let x = moved_faults (first_stands a b l (taken_alone a l first).read) in
      let y = moved_faults (second_stands a b m (taken_alone b m second).read) in
      both a b l m (a ++ b) sc (length a) object_rules (
        each (rule (Flawed Misplaced) out_of_order) x.0 y.0,
        (
          each (rule (Flawed Unpaired) unpaired) x.1.0 y.1.0,
          (
            each (rule (Flawed Touching) touching_itself) x.1.1.0 y.1.1.0,
            (
              each (rule (Flawed OddEnd) odd_end) x.1.1.1.0 y.1.1.1.0,
              (each (rule (Flawed WrongIa) wrong_ia) x.1.1.1.1.0 y.1.1.1.1.0, tt),
            ),
          ),
        ),
      ) rising
      ∙ ap₂ sooner (sym (found_is 0 a l first ∙ unmoved_verdict (object_verdict a l))) (sym (found_is (length a) b m second))

-- and of a scene whose second object begins where the first's bytes end
joined_scene : (a b : List ℕ) (sc : Scene) → read_scene (a ++ b) ≡ Ok sc → length a ≡ (given_second sc).start
    → objects_verdict (a ++ b) sc ≡ sooner (found 0 (check_object a)) (found (length a) (check_object b))
joined_scene a b sc read starts = joined a b (given_first sc) m.own sc first m.read refl m.is
  where
    t : TakenScene (a ++ b) sc
    t = taken_scene (a ++ b) sc read

    first : read_alone a ≡ Ok (given_first sc)
    first =
        first_alone a b (given_first sc) (subst (λ at. read_object (a ++ b) at ≡ Ok (given_first sc)) t.first_taken.starts t.first_read)
        (sym t.second_taken.object.starts ∙ sym starts)

    m : Alone (length a) b (given_second sc)
    m = second_alone a b (given_second sc) (subst (λ at. read_object (a ++ b) at ≡ Ok (given_second sc)) (sym starts) t.second_taken.read) (sym t.second_taken.all)

module _ (s : List ℕ) (sc : Scene) (read : read_scene s ≡ Ok sc) where
  abbrev pub split_at : ℕ
  split_at = (given_second sc).start

  pub at_small : (given_second sc).start ≤ length s
  at_small = let t = taken_scene s sc read in omega (arith, t.second_taken.all)

  abbrev first_bytes : List ℕ
  first_bytes = take (given_second sc).start s

  abbrev second_bytes : List ℕ
  second_bytes = drop (given_second sc).start s

  whole : first_bytes ++ second_bytes ≡ s
  whole = take-append-drop (given_second sc).start s

  first_long : length first_bytes ≡ (given_second sc).start
  first_long = length-take-le (given_second sc).start s at_small

  read_whole : read_scene (first_bytes ++ second_bytes) ≡ Ok sc
  read_whole = subst (λ s. read_scene s ≡ Ok sc) (sym whole) read

  pub objects_joined : objects_verdict s sc ≡ sooner (found 0 (check_object first_bytes)) (found (given_second sc).start (check_object second_bytes))
  objects_joined =
      ap (λ s. objects_verdict s sc) (sym whole) ∙ joined_scene first_bytes second_bytes sc read_whole first_long
      ∙ ap (λ n. sooner (found 0 (check_object first_bytes)) (found n (check_object second_bytes))) first_long

  -- each is read alone, so the place of its refusal is within its bytes
  pub first_small : (q : Refusal) → check_object first_bytes ≡ Err q → q.place < length s
  first_small q e =
      let w = refused_within first_bytes (given_first sc) (first_alone first_bytes second_bytes (given_first sc) (subst (λ at. read_object (first_bytes ++ second_bytes) at ≡ Ok (given_first sc)) t.first_taken.starts t.first_read) (sym t.second_taken.object.starts ∙ sym first_long)) q e in
      omega (arith, w, first_long, at_small)
    where
      t : TakenScene (first_bytes ++ second_bytes) sc
      t = taken_scene (first_bytes ++ second_bytes) sc read_whole

  pub second_small : (q : Refusal) → check_object second_bytes ≡ Err q → q.place + (given_second sc).start < length s
  second_small q e =
      let w = refused_within second_bytes m.own m.read q e in
      omega (arith, w, length-append first_bytes second_bytes, ap length whole, first_long)
    where
      t : TakenScene (first_bytes ++ second_bytes) sc
      t = taken_scene (first_bytes ++ second_bytes) sc read_whole

      m : Alone (length first_bytes) second_bytes (given_second sc)
      m = second_alone first_bytes second_bytes (given_second sc) (subst (λ at. read_object (first_bytes ++ second_bytes) at ≡ Ok (given_second sc)) (sym first_long) t.second_taken.read) (sym t.second_taken.all)
