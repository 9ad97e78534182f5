-- One event laid after those before it.
use Prim.Native.Nat.{ℕ, ◌+◌, ◌*◌, ◌≤◌}
use native.Mathlib.Omega.{arith}
use mathlib.Core.Path.{◌≡◌, refl, sym, ap, ap₂, subst, ◌∙◌}
use mathlib.Core.List.{List, [], ◌∷◌, ◌++◌}
use lib.ListN.{length, take, drop}
use lib.Seq.{drop-drop}
use Rattle.std.proofs.lemmas.List.{append_assoc, length-take-le, take_at, drop_at, take_all}
use Rattle.scene.specs.declared.Scene.{Scene}
use Rattle.walk_events.specs.Events.{Taken, events}
use Rattle.walk_events.specs.Portions.{total}
use Rattle.walk_events.specs.Stepping.{remaining}
use Rattle.walk_events.proofs.Standing.{standing, one_more, steps}
use Rattle.walk.specs.declared.laying.Place.{Place}
use Rattle.walk.specs.Ground.{event_marks, laid, laid_first, ground_of, put}
use Rattle.walk.specs.Laying.{Laid}

module _ (s : List ℕ) (sc : Scene) (notes : List ℕ) where
  pub laid_append : (a b : List Taken) → laid s sc notes (a ++ b) ≡ laid s sc notes a ++ laid s sc notes b
  laid_append [] b = refl
  laid_append (x ∷ a) b = ap (λ l. event_marks s sc notes x ++ l) (laid_append a b)

  pub laid_length : (a : List Taken) → length (laid s sc notes a) ≡ 4 * length a
  laid_length [] = refl
  laid_length (x ∷ a) = let h = laid_length a in omega (arith, h)

  -- the first n events take 4 n bytes
  pub first_length : (n : ℕ) → n ≤ total s sc → length (laid s sc notes (take n (events s sc))) ≡ 4 * n
  first_length n h = let e = length-take-le n (events s sc) h in omega (arith, laid_length (take n (events s sc)), e)

  module _ (before : List ℕ) where
    put_next : (n : ℕ) → n ≤ total s sc → {x : Taken} {more : List Taken} → drop n (events s sc) ≡ x ∷ more
        → put n (event_marks s sc notes x) (laid_first s sc notes n before) ≡ laid_first s sc notes (n + 1) before
    put_next n h {x} e =
        let A = laid s sc notes (take n (events s sc)) in
        let B = drop (4 * n) before in
        let long = first_length n h in
        let four : 4 * n + 4 ≡ 4 * (n + 1) = omega arith in
        ap₂ (λ a b. a ++ (event_marks s sc notes x ++ b)) (take_at A B (4 * n) long) (sym (drop-drop 4 (4 * n) (A ++ B)) ∙ ap (drop 4) (drop_at A B (4 * n) long) ∙ drop-drop 4 (4 * n) before ∙ ap (λ k. drop k before) four)
        ∙ sym (append_assoc A (event_marks s sc notes x) (drop (4 * (n + 1)) before))
        ∙ ap (λ l. l ++ drop (4 * (n + 1)) before) (sym (ap (laid s sc notes) (one_more s sc n e) ∙ laid_append (take n (events s sc)) (x ∷ [])))

    pub lays_one : {at : Place} {g : List ℕ} → Laid s sc notes before at g → {x : Taken} {a b : ℕ}
        → remaining s sc at.i at.j ≡ x ∷ remaining s sc a b → {to : Place} → to ≡ record { events = at.events + 1; i = a; j = b } → {new : List ℕ} → new ≡ put at.events (event_marks s sc notes x) g
        → a ≤ sc.f.count → b ≤ sc.g.count → Laid s sc notes before to new
    lays_one {at} {g} w {x} {a} {b} e {to} t {new} p h k =
        subst (λ (q : Place). Laid s sc notes before q new) (sym t)
        (record {
          stands = steps s sc w.stands h k e;
          laid = p ∙ ap (put at.events (event_marks s sc notes x)) w.laid ∙ put_next at.events w.stands.few (w.stands.rest ∙ e);
        })

    pub lays_none : Laid s sc notes before (record { events = 0; i = 0; j = 0 }) before
    lays_none = record { stands = standing s sc; laid = refl }

    -- all of them
    pub all_laid : {n : ℕ} → n ≡ total s sc → laid_first s sc notes n before ≡ ground_of s sc notes before
    all_laid {n} e = ap₂ (λ l k. laid s sc notes l ++ drop (4 * k) before) (take_all n (events s sc) (omega (arith, e))) e
