-- Where a walk stands after n events: i elements of F and j of G are taken, and what remains is the merge of what is left of both. A step takes one event more.
use Prim.Native.Nat.{ℕ, suc, ◌+◌, ◌≤◌}
use native.Mathlib.Omega.{arith}
use mathlib.Core.Path.{◌≡◌, refl, sym, ap, ap₂, ◌∙◌}
use mathlib.Core.List.{List, [], ◌∷◌, ◌++◌}
use lib.ListN.{length, take, drop, length-drop}
use lib.Seq.{take-add, drop-drop}
use Rattle.scene.specs.declared.Scene.{Scene}
use Rattle.scene_segments.proofs.Walk.{all_between, between_none}
use Rattle.walk_events.specs.Events.{Taken, f_alone, g_alone, of_both, merge, same, earlier, events, in_f, in_g}
use Rattle.walk_events.specs.Portions.{total}
use Rattle.walk_events.specs.Stepping.{remaining, Standing}

-- ---- events, in two parts

pub in_f_append : (a b : List Taken) → in_f (a ++ b) ≡ in_f a ++ in_f b
in_f_append [] b = refl
in_f_append (f_alone i ∷ a) b = ap (λ l. i ∷ l) (in_f_append a b)
in_f_append (g_alone j ∷ a) b = in_f_append a b
in_f_append (of_both i j ∷ a) b = ap (λ l. i ∷ l) (in_f_append a b)

pub in_g_append : (a b : List Taken) → in_g (a ++ b) ≡ in_g a ++ in_g b
in_g_append [] b = refl
in_g_append (f_alone i ∷ a) b = in_g_append a b
in_g_append (g_alone j ∷ a) b = ap (λ l. j ∷ l) (in_g_append a b)
in_g_append (of_both i j ∷ a) b = ap (λ l. j ∷ l) (in_g_append a b)

module _ (s : List ℕ) (sc : Scene) where
  -- at the beginning
  pub standing : Standing s sc 0 0 0
  unfolding events
  standing = record { few_f = omega arith; few_g = omega arith; few = omega arith; rest = ap₂ (merge (same s sc) (earlier s sc)) (all_between sc.f.count) (all_between sc.g.count) }

  -- the event x is the next one
  module _ (n : ℕ) {x : Taken} {more : List Taken} (e : drop n (events s sc) ≡ x ∷ more) where
    pub one_more : take (n + 1) (events s sc) ≡ take n (events s sc) ++ (x ∷ [])
    one_more = take-add n 1 (events s sc) ∙ ap (λ l. take n (events s sc) ++ take 1 l) e

    then_rest : drop (n + 1) (events s sc) ≡ more
    then_rest = sym (drop-drop 1 n (events s sc)) ∙ ap (drop 1) e

    not_last : n + 1 ≤ total s sc
    not_last = let h = length-drop n (events s sc) in let k : length (drop n (events s sc)) ≡ suc (length more) = ap length e in omega arith

  module _ {n i j : ℕ} (w : Standing s sc n i j) where
    pub steps : {x : Taken} {a b : ℕ} → a ≤ sc.f.count → b ≤ sc.g.count → remaining s sc i j ≡ x ∷ remaining s sc a b → Standing s sc (n + 1) a b
    steps h k e = let f = w.rest ∙ e in record { few_f = h; few_g = k; few = not_last n f; rest = then_rest n f }

    -- no event remains exactly where nothing is left of either object
    pub ends : sc.f.count ≤ i → sc.g.count ≤ j → n ≡ total s sc
    ends a b =
        let h = length-drop n (events s sc) in
        let k : length (drop n (events s sc)) ≡ 0 = ap length (w.rest ∙ none) in
        omega (arith, w.few)
      where
        none : remaining s sc i j ≡ []
        none = ap₂ (merge (same s sc) (earlier s sc)) (between_none i sc.f.count (omega arith)) (between_none j sc.g.count (omega arith))
