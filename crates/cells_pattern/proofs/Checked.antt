-- The check of a scene and a pattern: that of the scene, then 22 and 23 of the pattern.
use Rattle.scene.specs.declared.Reason.TheVariants.{NotNine, NoCharacter}
use Rattle.std.specs.Prelude.{Option, Err, None, Ok, Some}
use Rattle.scene.specs.Read.{CheckedScene, Fault}
use Rattle.check_verdict.specs.Refusals.{Verdict}
use Prim.Native.Nat.{ℕ, zero, suc, ◌<◌}
use native.Mathlib.Omega.{arith}
use mathlib.Core.Path.{◌≡◌, refl, sym, ap, ◌∙◌}
use mathlib.Core.Bool.{Bool, true, false, cond}
use mathlib.Core.List.{List, [], ◌∷◌}
use lib.Dec.{T, eqb}
use lib.ListN.{length, get_or}
use borrow.Author.Tests.{eqb-true, eq-eqb}
use Rattle.scene.specs.declared.Scene.{Scene}
use Rattle.whole.proofs.Logic.{true_is}
use Rattle.scene.specs.Read.{condition, decide, unless, read_scene}
use Rattle.scene.specs.Conditions.{scene_rules, check_scene_by, check_scene}
use Rattle.scene.proofs.Outcomes.{never_taken}
use Rattle.check_verdict.specs.Refusals.{verdict, settle, geometry_verdict}
use Rattle.check_verdict.specs.SharedPoints.{CheckedMeans}
use Rattle.check_verdict.proofs.Verdicts.{check_refused, check_read}
use Rattle.check_verdict.proofs.CheckedMeans.{checked_means_by}
use Rattle.cells_pattern.specs.Pattern.{first_other, not_nine, is_character}
use Rattle.cells_pattern.specs.Asked.{pattern_verdict}
use Rattle.cells_pattern.specs.Related.{pattern_rules, check_relate}

-- ---- a pattern alone

not_none : {n : ℕ} → ◌≡◌ {A = Option ℕ} (Some n) None → ⊥
not_none e = let z : ◌≡◌ {A = ℕ} 0 1 = cc in omega arith

-- a choice that is made
choice : (o : Option ℕ) (x : ℕ) (b : Bool) → cond b o (Some x) ≡ None → T b × (o ≡ None)
choice o x true e = (tt, e)
choice o x false e = absurd (not_none e)

no_other : (p : List ℕ) (at : ℕ) → first_other p at ≡ None → (i : ℕ) → i < length p → T (is_character (get_or p i 0))
no_other [] at e i h = absurd (omega arith)
no_other (c ∷ p) at e zero h = (choice (first_other p (suc at)) at (is_character c) e).0
no_other (c ∷ p) at e (suc i) h = no_other p (suc at) (choice (first_other p (suc at)) at (is_character c) e).1 i (omega arith)

all_six : (p : List ℕ) (at : ℕ) → ((i : ℕ) → i < length p → T (is_character (get_or p i 0))) → first_other p at ≡ None
all_six [] at h = refl
all_six (c ∷ p) at h =
    ap (λ b. cond b (first_other p (suc at)) (Some at)) (true_is (is_character c) (h 0 (omega arith)))
    ∙ all_six p (suc at) (λ i k. h (suc i) (omega arith))

module _ (p : List ℕ) where
  -- a pattern that is taken has nine characters of the six
  pub its_characters : pattern_verdict p ≡ Ok tt → (length p ≡ 9) × ((i : ℕ) → i < 9 → T (is_character (get_or p i 0)))
  unfolding pattern_verdict
  its_characters e = go (eqb (length p) 9) (first_other p 0) refl refl e
    where
      go : (b : Bool) (o : Fault) → eqb (length p) 9 ≡ b → first_other p 0 ≡ o → verdict (condition NotNine (unless b 0) ∷ condition NoCharacter o ∷ []) ≡ Ok tt
          → (length p ≡ 9) × ((i : ℕ) → i < 9 → T (is_character (get_or p i 0)))
      go true None nine none e = let is = eqb-true (length p) 9 nine in (is, λ i h. no_other p 0 none i (omega arith))
      go true (Some x) nine none e = absurd (never_taken e)
      go false o nine none e = absurd (never_taken e)

  -- and one that has these is taken
  pub has_characters : length p ≡ 9 → ((i : ℕ) → i < 9 → T (is_character (get_or p i 0))) → pattern_verdict p ≡ Ok tt
  unfolding pattern_verdict
  has_characters nine six =
      ap (λ b. verdict (condition NotNine (unless b 0) ∷ condition NoCharacter (first_other p 0) ∷ [])) (eq-eqb (length p) 9 nine)
      ∙ ap (λ o. verdict (condition NoCharacter o ∷ [])) (all_six p 0 (λ i h. six i (omega arith)))

-- nine positions
pub of_nine : (P : ℕ → Type 0) → P 0 → P 1 → P 2 → P 3 → P 4 → P 5 → P 6 → P 7 → P 8 → (i : ℕ) → i < 9 → P i
of_nine P a b c d e f g h k zero less = a
of_nine P a b c d e f g h k (suc zero) less = b
of_nine P a b c d e f g h k (suc (suc zero)) less = c
of_nine P a b c d e f g h k (suc (suc (suc zero))) less = d
of_nine P a b c d e f g h k (suc (suc (suc (suc zero)))) less = e
of_nine P a b c d e f g h k (suc (suc (suc (suc (suc zero))))) less = f
of_nine P a b c d e f g h k (suc (suc (suc (suc (suc (suc zero)))))) less = g
of_nine P a b c d e f g h k (suc (suc (suc (suc (suc (suc (suc zero))))))) less = h
of_nine P a b c d e f g h k (suc (suc (suc (suc (suc (suc (suc (suc zero)))))))) less = k
of_nine P a b c d e f g h k (suc (suc (suc (suc (suc (suc (suc (suc (suc i))))))))) less = absurd (omega arith)

-- ---- after the scene

abbrev after_scene : List ℕ → CheckedScene → CheckedScene
after_scene p (Err r) = Err r
after_scene p (Ok sc) = settle Err (pattern_verdict p) (Ok sc)

module _ (s p : List ℕ) where
  pub after_scene_lem : check_relate s p ≡ after_scene p (check_scene s)
  unfolding check_relate check_scene pattern_verdict
  after_scene_lem = by_reading (read_scene s) refl
    where
      in_turn : (a b : Fault) (sc : Scene)
          → decide Err NotNine a (decide Err NoCharacter b (Ok sc))
          ≡ settle Err (decide Err NotNine a (decide Err NoCharacter b (Ok tt))) (Ok sc)
      in_turn (Some x) b sc = refl
      in_turn None (Some x) sc = refl
      in_turn None None sc = refl

      judged : (v : Verdict) (sc : Scene)
          → settle Err v (decide Err NotNine (not_nine p) (decide Err NoCharacter (first_other p 0) (Ok sc)))
          ≡ after_scene p (settle Err v (Ok sc))
      judged (Err r) sc = refl
      judged (Ok tt) sc = in_turn (not_nine p) (first_other p 0) sc

      by_reading : (k : CheckedScene) → read_scene s ≡ k → check_scene_by (scene_rules [] (pattern_rules p)) s ≡ after_scene p (check_scene_by (scene_rules [] []) s)
      by_reading (Err r) e = check_refused (scene_rules [] (pattern_rules p)) s r e ∙ sym (ap (after_scene p) (check_refused (scene_rules [] []) s r e))
      by_reading (Ok sc) e =
          check_read [] (pattern_rules p) s sc e ∙ judged (geometry_verdict s sc) sc ∙ sym (ap (after_scene p) (check_read [] [] s sc e))

  -- a scene that is taken with the pattern is taken without, and the pattern is
  pub taken_scene : (sc : Scene) → check_relate s p ≡ Ok sc → (check_scene s ≡ Ok sc) × (pattern_verdict p ≡ Ok tt)
  taken_scene sc e = go (check_scene s) (pattern_verdict p) refl (sym after_scene_lem ∙ e)
    where
      go : (k : CheckedScene) (v : Verdict) → pattern_verdict p ≡ v → after_scene p k ≡ Ok sc → (k ≡ Ok sc) × (pattern_verdict p ≡ Ok tt)
      go (Err r) v q h = absurd (never_taken h)
      go (Ok k) (Ok tt) q h = (sym (ap (λ (v : Verdict). settle Err v (Ok k)) q) ∙ h, q)
      go (Ok k) (Err r) q h = absurd (never_taken (sym (ap (λ (v : Verdict). settle Err v (Ok k)) q) ∙ h))

  -- the check in points
  pub relate_means : CheckedMeans s (check_relate s p)
  unfolding check_relate
  relate_means = checked_means_by [] (pattern_rules p) s (λ _. tt) (λ _. (omega arith, (omega arith, tt)))
