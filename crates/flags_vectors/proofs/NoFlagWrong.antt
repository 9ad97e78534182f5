-- Demand 2 over bytes: no flag of the vectors question's answer is wrong, and what its verdict says of the points that segments share; and that the flags of
-- two masks are a part of those with all flags wanted.
use Rattle.scene.specs.declared.Reason.TheVariants.{StrayFlag}
use Rattle.std.specs.Prelude.{Err, Ok}
use Rattle.scene.specs.Read.{CheckedScene}
use Rattle.check_verdict.specs.Refusals.{Verdict}
use Rattle.flags_vectors.specs.Vectors.{VectorsAnswer}
use Prim.Native.Nat.{ℕ}
use native.Mathlib.Omega.{arith}
use mathlib.Core.Path.{◌≡◌, refl, sym, subst, ◌∙◌}
use mathlib.Core.Bool.{Bool, true, false, cond}
use mathlib.Core.List.{List, [], ◌∷◌}
use Rattle.scene.specs.declared.Scene.{Scene}
use Rattle.scene.specs.Read.{turned, read_scene}
use Rattle.scene.specs.Conditions.{rule, conditions, scene_rules, check_scene_by, check_scene}
use Rattle.scene.proofs.Outcomes.{never_taken}
use Rattle.check_verdict.specs.Refusals.{verdict, settle, geometry_verdict}
use Rattle.check_verdict.proofs.Verdicts.{check_refused, check_read}
use Rattle.check_verdict.specs.SharedPoints.{CheckedMeans}
use Rattle.check_verdict.proofs.CheckedMeans.{checked_means_by}
use Rattle.flags.specs.Flags.{Elements}
use Rattle.flags.specs.Elements.{elements_of}
use Rattle.flags.specs.Sentences.{sentences_of_f, sentences_of_g}
use Rattle.flags_masks.specs.declared.FlagMasks.{FlagMasks}
use Rattle.flags_masks.specs.declared.Wanted.{Wanted}
use Rattle.flags_masks.specs.Wanted.{masks_for, only, vector_of_f, vector_of_g}
use Rattle.flags_masks.proofs.Masks.{vector_F, vector_G, masked_f, masked_g}
use Rattle.flags_vectors.specs.Vectors.{vectors_in, stray_wanted, vectors_rules, these, check_vectors, answered, answer_of, vectors_alone, vectors_of, vectors_values, FlagsRight, sentences_of_first, sentences_of_second, NoFlagWrong, MaskedFromAll}
use Rattle.flags_vectors.proofs.Answered.{all_tidy, never_nine}

module _ (F G : Elements) (want : ℕ) where
  right_f : FlagsRight want (sentences_of_f F G) (vector_of_f F G want)
  right_f k = let d = vector_F F G want k in (d.sound, d.complete)

  right_g : FlagsRight want (sentences_of_g F G) (vector_of_g F G want)
  right_g k = let d = vector_G F G want k in (d.sound, d.complete)

module _ (s : List ℕ) (wantF wantG : ℕ) where
  -- in the caller's order
  given_right : (sc : Scene) → let v = vectors_in s sc (these wantF wantG) in FlagsRight wantF (sentences_of_first s sc) v.f × FlagsRight wantG (sentences_of_second s sc) v.g
  unfolding masks_for
  given_right sc = go (turned sc)
    where
      F : Elements
      F = elements_of s sc.f

      G : Elements
      G = elements_of s sc.g

      go : (t : Bool)
          → FlagsRight wantF (cond t (sentences_of_g F G) (sentences_of_f F G)) (cond t (vector_of_g F G (cond t wantF wantG)) (vector_of_f F G (cond t wantG wantF)))
          × FlagsRight wantG (cond t (sentences_of_f F G) (sentences_of_g F G)) (cond t (vector_of_f F G (cond t wantG wantF)) (vector_of_g F G (cond t wantF wantG)))
      go true = (right_g F G wantF, right_f F G wantG)
      go false = (right_f F G wantF, right_g F G wantG)

  no_flag_wrong : NoFlagWrong s wantF wantG (vectors_values (vectors_of s wantF wantG)).f (vectors_values (vectors_of s wantF wantG)).g
  unfolding vectors_of answer_of
  no_flag_wrong sc e =
      subst
      (λ (x : CheckedScene). let v = vectors_values (vectors_alone (answered s (these wantF wantG) x)) in FlagsRight wantF (sentences_of_first s sc) v.f × FlagsRight wantG (sentences_of_second s sc) v.g)
      (sym e) (given_right sc)

  vectors_mean : CheckedMeans s (check_vectors s (these wantF wantG))
  vectors_mean = checked_means_by (rule StrayFlag (stray_wanted (these wantF wantG)) ∷ []) [] s (λ _. (omega arith, tt)) (λ _. tt)

  -- as the contract says it of its result
  pub with_meaning : {r : VectorsAnswer} → r ≡ vectors_of s wantF wantG
      → (r ≡ vectors_of s wantF wantG) × NoFlagWrong s wantF wantG (vectors_values r).f (vectors_values r).g × CheckedMeans s (check_vectors s (these wantF wantG))
  with_meaning e =
      (e, subst (λ (r : VectorsAnswer). NoFlagWrong s wantF wantG (vectors_values r).f (vectors_values r).g) (sym e) no_flag_wrong, vectors_mean)

-- ---- one call for all

-- a scene that is taken under masks is taken: 9 is asked of the masks alone
without_nine : (s : List ℕ) (wanted : Wanted) (sc : Scene) → check_vectors s wanted ≡ Ok sc → check_scene s ≡ Ok sc
unfolding check_scene
without_nine s wanted sc e = by_reading (read_scene s) refl
  where
    settled : (nine geometry : Verdict) (k : Scene)
        → settle Err nine (settle Err geometry (Ok k)) ≡ Ok sc
        → settle Err geometry (Ok k) ≡ Ok sc
    settled (Ok tt) geometry k h = h
    settled (Err r) geometry k h = absurd (never_taken h)

    by_reading : (k : CheckedScene) → read_scene s ≡ k → check_scene_by (scene_rules [] []) s ≡ Ok sc
    by_reading (Err r) q = absurd (never_taken (sym (check_refused (vectors_rules wanted) s r q) ∙ e))
    by_reading (Ok k) q =
        check_read [] [] s k q
        ∙ settled (verdict (conditions (rule StrayFlag (stray_wanted wanted) ∷ []) s k)) (geometry_verdict s k) k (sym (check_read (rule StrayFlag (stray_wanted wanted) ∷ []) [] s k q) ∙ e)

pub masked_from_all : (s : List ℕ) (masks : FlagMasks) → MaskedFromAll s masks
unfolding masks_for
masked_from_all s masks sc e = (never_nine Wanted.All all_tidy s ∙ without_nine s (Wanted.These masks) sc e, (go (turned sc)).0, (go (turned sc)).1)
  where
    F : Elements
    F = elements_of s sc.f

    G : Elements
    G = elements_of s sc.g

    all : FlagMasks
    all = masks_for Wanted.All sc

    go : (t : Bool)
        → (cond t (vector_of_g F G (cond t masks.f masks.g)) (vector_of_f F G (cond t masks.g masks.f)) ≡ only masks.f (cond t (vector_of_g F G all.g) (vector_of_f F G all.f)))
        × (cond t (vector_of_f F G (cond t masks.g masks.f)) (vector_of_g F G (cond t masks.f masks.g)) ≡ only masks.g (cond t (vector_of_f F G all.f) (vector_of_g F G all.g)))
    go true = (masked_g s sc.f sc.g masks.f, masked_f s sc.f sc.g masks.g)
    go false = (masked_f s sc.f sc.g masks.f, masked_g s sc.f sc.g masks.g)
