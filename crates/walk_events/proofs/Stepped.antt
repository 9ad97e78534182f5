-- Which event comes next, of the first elements that are left of either object.
use Prim.Native.Nat.{ℕ, ◌+◌, ◌<◌, ◌≤◌}
use mathlib.Core.Path.{◌≡◌, refl, sym, ap, ap₂, ◌∙◌}
use mathlib.Core.Bool.{Bool, true, false, cond}
use mathlib.Core.List.{List, ◌∷◌}
use Rattle.scene.specs.declared.Scene.{Scene}
use Rattle.scene_segments.proofs.Walk.{between, between_next, between_none}
use Rattle.walk_events.specs.Events.{Taken, f_alone, g_alone, of_both, merge, same, earlier}
use Rattle.walk_events.specs.Stepping.{remaining}

abbrev merged : List ℕ → Scene → List ℕ → List ℕ → List Taken
merged s sc = merge (same s sc) (earlier s sc)

module _ (s : List ℕ) (sc : Scene) {i j : ℕ} where
  module _ (h : i < sc.f.count) (k : j < sc.g.count) where
    abbrev F : List ℕ
    F = between (i + 1) sc.f.count

    abbrev G : List ℕ
    G = between (j + 1) sc.g.count

    heads : {a b : Bool} → same s sc i j ≡ a → earlier s sc i j ≡ b
        → remaining s sc i j ≡ cond a (of_both i j ∷ merged s sc F G) (cond b (f_alone i ∷ merged s sc F (j ∷ G)) (g_alone j ∷ merged s sc (i ∷ F) G))
    heads u v =
        ap₂ (merged s sc) (between_next i sc.f.count h) (between_next j sc.g.count k)
        ∙ ap₂ (λ t w. cond t (of_both i j ∷ merged s sc F G) (cond w (f_alone i ∷ merged s sc F (j ∷ G)) (g_alone j ∷ merged s sc (i ∷ F) G))) u v

    pub step_both : same s sc i j ≡ true → remaining s sc i j ≡ of_both i j ∷ remaining s sc (i + 1) (j + 1)
    step_both u = heads u refl

    pub step_earlier : same s sc i j ≡ false → earlier s sc i j ≡ true → remaining s sc i j ≡ f_alone i ∷ remaining s sc (i + 1) j
    step_earlier u v = heads u v ∙ ap (λ l. f_alone i ∷ merged s sc F l) (sym (between_next j sc.g.count k))

    pub step_later : same s sc i j ≡ false → earlier s sc i j ≡ false → remaining s sc i j ≡ g_alone j ∷ remaining s sc i (j + 1)
    step_later u v = heads u v ∙ ap (λ l. g_alone j ∷ merged s sc l G) (sym (between_next i sc.f.count h))

  pub step_f : i < sc.f.count → sc.g.count ≤ j → remaining s sc i j ≡ f_alone i ∷ remaining s sc (i + 1) j
  step_f h k = ap₂ (merged s sc) (between_next i sc.f.count h) (between_none j sc.g.count k) ∙ ap (λ l. f_alone i ∷ merged s sc (between (i + 1) sc.f.count) l) (sym (between_none j sc.g.count k))

  pub step_g : sc.f.count ≤ i → j < sc.g.count → remaining s sc i j ≡ g_alone j ∷ remaining s sc i (j + 1)
  step_g h k = ap₂ (merged s sc) (between_none i sc.f.count h) (between_next j sc.g.count k) ∙ ap (λ l. g_alone j ∷ merged s sc l (between (j + 1) sc.g.count)) (sym (between_none i sc.f.count h))
