-- Every element of either object is in one event and in no other, and in its object's order: the elements of F among the events are those of F, and so of G.
-- The number of events is that of the elements of both, less the common ones.
use Prim.Native.Nat.{ℕ, zero, suc, ◌+◌}
use native.Mathlib.Omega.{arith}
use mathlib.Core.Path.{◌≡◌, refl, ap}
use mathlib.Core.Bool.{Bool, true, false, cond}
use mathlib.Core.List.{List, [], ◌∷◌, map}
use lib.ListN.{length}
use Rattle.scene.specs.declared.Scene.{Scene}
use Rattle.scene.specs.Conditions.{indices, elements}
use Rattle.walk_events.specs.Events.{Taken, f_alone, g_alone, of_both, merge_from, merge, same, earlier, events, in_f, in_g}
use Rattle.walk_events.specs.Portions.{total}

only_g_f : (G : List ℕ) → in_f (map g_alone G) ≡ []
only_g_f [] = refl
only_g_f (j ∷ G) = only_g_f G

only_g : (G : List ℕ) → in_g (map g_alone G) ≡ G
only_g [] = refl
only_g (j ∷ G) = ap (λ l. j ∷ l) (only_g G)

-- how many events are of both
abbrev pub common : List Taken → ℕ
common [] = 0
common (f_alone i ∷ l) = common l
common (g_alone j ∷ l) = common l
common (of_both i j ∷ l) = suc (common l)

counted : (l : List Taken) → length l + common l ≡ length (in_f l) + length (in_g l)
counted [] = refl
counted (f_alone i ∷ l) = let h = counted l in omega arith
counted (g_alone j ∷ l) = let h = counted l in omega arith
counted (of_both i j ∷ l) = let h = counted l in omega arith

-- the elements of an object, counted
pub indices_length : (n i : ℕ) → length (indices n i) ≡ n
indices_length zero i = refl
indices_length (suc n) i = ap suc (indices_length n (suc i))

module _ (same earlier : ℕ → ℕ → Bool) where
  -- one step of the merge, whatever is asked of what it gives
  by_step : (P : List Taken → Type 0) (a b : Bool) (x y z : List Taken) → P x → P y → P z → P (cond a x (cond b y z))
  by_step P true b x y z p q r = p
  by_step P false true x y z p q r = q
  by_step P false false x y z p q r = r

  module _ (i : ℕ) (F : List ℕ) (rest : List ℕ → List Taken) where
    from_f : ((G : List ℕ) → in_f (rest G) ≡ F) → (G : List ℕ) → in_f (merge_from same earlier i rest G) ≡ i ∷ F
    from_f e [] = ap (λ l. i ∷ l) (e [])
    from_f e (j ∷ G) =
        by_step (λ l. in_f l ≡ i ∷ F) (same i j) (earlier i j) (of_both i j ∷ rest G) (f_alone i ∷ rest (j ∷ G)) (g_alone j ∷ merge_from same earlier i rest G)
        (ap (λ l. i ∷ l) (e G)) (ap (λ l. i ∷ l) (e (j ∷ G))) (from_f e G)

    from_g : ((G : List ℕ) → in_g (rest G) ≡ G) → (G : List ℕ) → in_g (merge_from same earlier i rest G) ≡ G
    from_g e [] = e []
    from_g e (j ∷ G) =
        by_step (λ l. in_g l ≡ j ∷ G) (same i j) (earlier i j) (of_both i j ∷ rest G) (f_alone i ∷ rest (j ∷ G)) (g_alone j ∷ merge_from same earlier i rest G)
        (ap (λ l. j ∷ l) (e G)) (e (j ∷ G)) (ap (λ l. j ∷ l) (from_g e G))

  pub merge_f : (F G : List ℕ) → in_f (merge same earlier F G) ≡ F
  merge_f [] G = only_g_f G
  merge_f (i ∷ F) G = from_f i F (merge same earlier F) (merge_f F) G

  pub merge_g : (F G : List ℕ) → in_g (merge same earlier F G) ≡ G
  merge_g [] G = only_g G
  merge_g (i ∷ F) G = from_g i F (merge same earlier F) (merge_g F) G

module _ (s : List ℕ) (sc : Scene) where
  pub all_of_f : in_f (events s sc) ≡ elements sc.f
  unfolding events
  all_of_f = merge_f (same s sc) (earlier s sc) (elements sc.f) (elements sc.g)

  pub all_of_g : in_g (events s sc) ≡ elements sc.g
  unfolding events
  all_of_g = merge_g (same s sc) (earlier s sc) (elements sc.f) (elements sc.g)

  -- so many they are
  pub total_is : total s sc + common (events s sc) ≡ sc.f.count + sc.g.count
  total_is = omega (arith, counted (events s sc), ap length all_of_f, ap length all_of_g, indices_length sc.f.count 0, indices_length sc.g.count 0)
