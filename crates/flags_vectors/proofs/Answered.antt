-- The answer of the vectors question by the verdicts that lead to it; and what a scene that is taken gives the walks.
use Rattle.scene.specs.declared.Reason.TheVariants.{StrayFlag}
use Rattle.std.specs.Prelude.{Err, Ok}
use Prim.Native.Nat.{ℕ}
use mathlib.Core.Path.{◌≡◌, refl, sym, ap, ap₂, ◌∙◌}
use mathlib.Core.Bool.{Bool, true, false, not, ◌||◌, cond}
use mathlib.Core.List.{List, [], ◌∷◌}
use lib.Bits.{and_zero_r, and_zero_l}
use lib.Dec.{T, eqb}
use Rattle.whole.proofs.Logic.{is_true, or_left, or_right}
use Rattle.scene.specs.declared.Shape.{Shape}
use Rattle.scene.specs.declared.Scene.{Scene}
use Rattle.scene.specs.declared.Refusal.{Refusal}
use Rattle.scene.specs.Read.{CheckedScene, read_scene, IsScene, shape_number, turned}
use Rattle.scene.specs.Conditions.{rule, scene_rules, check_scene_by, check_scene}
use Rattle.check_verdict.specs.Refusals.{geometry_verdict}
use Rattle.check_verdict.proofs.Laws.{SoundScene, sound_scene}
use Rattle.check_verdict.proofs.Verdicts.{check_refused, check_read}
use Rattle.flags_vectors.specs.declared.Vectors.{Vectors}
use Rattle.flags_vectors.specs.declared.SceneVectors.{SceneVectors}
use Rattle.scene.proofs.Outcomes.{never_taken, same_taken, same_refusal}
use Rattle.sweep_laws.specs.Noted.{Noted}
use Rattle.flags.specs.Elements.{elements_of}
use Rattle.flags.specs.Flags.{pack, flags_of_f, flags_of_g}
use Rattle.flags_meetings.specs.declared.Meetings.{Meetings}
use Rattle.flags_meetings.specs.Met.{meetings}
use Rattle.flags_classes.specs.declared.Classes.{Classes}
use Rattle.flags_classes.specs.Classed.{classes_of_f, classes_of_g}
use Rattle.flags_table.specs.Table.{flags_of_f_by, flags_of_g_by}
use Rattle.flags_table.specs.Walks.{off_classes_f, off_classes_g, wants_some, wants_other, reads_meetings, reads_classes}
use Rattle.flags_table.proofs.Theorem.{flags_of_f_lem, flags_of_g_lem}
use Rattle.flags_table.proofs.ReadOff.{wanted_of_f, wanted_of_g}
use Rattle.flags_masks.specs.declared.FlagMasks.{FlagMasks}
use Rattle.flags_masks.specs.declared.Wanted.{Wanted}
use Rattle.flags_masks.specs.Wanted.{mask_of_f, mask_of_g, is_nothing, masks_for, only, has_stray, vector_of_f, vector_of_g}
use Rattle.flags_masks.proofs.Cells.{none_wanted}
use Rattle.flags_masks.proofs.Masks.{none_stray}
use Rattle.flags_vectors.specs.declared.question.MaskedScene.{MaskedScene}
use Rattle.flags_vectors.specs.Vectors.{SceneAnswer, with_vectors, scene_vectors, given_vectors, vectors_in, asked, asked_of, stray_in, stray_wanted, vectors_rules, check_vectors, answered, answer_of}

-- ---- a scene that is taken

pub accepted : (s : List ℕ) (sc : Scene) → check_scene s ≡ Ok sc → SoundScene s sc
unfolding check_scene
accepted s sc e = sound_scene [] [] s sc e

-- ---- its vectors, read off walks of which one may have been left out

module _ {s : List ℕ} {sc : Scene} {notes : List ℕ} (o : SoundScene s sc) (noted : Noted s sc notes) (masks : FlagMasks) {met : Meetings} {of_f_lem of_g_lem : Classes}
    (where-met : T (reads_meetings sc.f.shape sc.g.shape masks.f masks.g) → met ≡ meetings s sc notes)
    (where-classed : T (reads_classes sc.f.shape sc.g.shape masks.f masks.g) → (of_f_lem ≡ classes_of_f s sc notes) × (of_g_lem ≡ classes_of_g s sc notes)) where
  abbrev F : Shape
  F = sc.f.shape

  abbrev G : Shape
  G = sc.g.shape

  pub vector_f : only masks.f (pack (flags_of_f_by F G met of_f_lem)) ≡ (scene_vectors s sc masks).f
  unfolding vector_of_f
  vector_f =
      wanted_of_f F G masks.f (λ e. where-met (or_left (wants_other (off_classes_f F G) masks.f) (wants_other (off_classes_g F G) masks.g) (is_true _ e)))
      (λ e. (where-classed (or_left (wants_some (off_classes_f F G) masks.f) (wants_some (off_classes_g F G) masks.g) (is_true _ e))).0)
      ∙ ap (λ l. only masks.f (pack l)) (sym (flags_of_f_lem o noted))

  pub vector_g : only masks.g (pack (flags_of_g_by F G met of_g_lem)) ≡ (scene_vectors s sc masks).g
  unfolding vector_of_g
  vector_g =
      wanted_of_g F G masks.g (λ e. where-met (or_right (wants_other (off_classes_f F G) masks.f) (wants_other (off_classes_g F G) masks.g) (is_true _ e)))
      (λ e. (where-classed (or_right (wants_some (off_classes_f F G) masks.f) (wants_some (off_classes_g F G) masks.g) (is_true _ e))).1)
      ∙ ap (λ l. only masks.g (pack l)) (sym (flags_of_g_lem o noted))

-- ---- the answer

pub unread : (s : List ℕ) (wanted : Wanted) (r : Refusal) → read_scene s ≡ Err r → asked_of s wanted ≡ Err r
unfolding asked_of
unread s wanted r e = rw (check_refused (vectors_rules wanted) s r e)

module _ (s : List ℕ) (sc : Scene) (is : IsScene s sc) where
  pub sound : geometry_verdict s sc ≡ Ok tt → check_scene s ≡ Ok sc
  unfolding check_scene
  sound g = rw (check_read [] [] s sc is, g)

  module _ (wanted : Wanted) where
    pub stray : stray_in sc (masks_for wanted sc) ≡ true → asked_of s wanted ≡ Err (record { reason = StrayFlag; place = 0 })
    unfolding asked_of
    stray e = rw (check_read (rule StrayFlag (stray_wanted wanted) ∷ []) [] s sc is, e)

    module _ (tidy : stray_in sc (masks_for wanted sc) ≡ false) where
      pub at_fault : (r : Refusal) → geometry_verdict s sc ≡ Err r → asked_of s wanted ≡ Err r
      unfolding asked_of
      at_fault r g = rw (check_read (rule StrayFlag (stray_wanted wanted) ∷ []) [] s sc is, tidy, g)

      pub taken : geometry_verdict s sc ≡ Ok tt → asked_of s wanted ≡ Ok (record { scene = sc; masks = masks_for wanted sc })
      unfolding asked_of
      taken g = rw (check_read (rule StrayFlag (stray_wanted wanted) ∷ []) [] s sc is, tidy, g)

module _ (s : List ℕ) (wanted : Wanted) where
  pub asked_refused : (r : Refusal) → asked_of s wanted ≡ Err r → check_vectors s wanted ≡ Err r
  unfolding asked_of
  asked_refused r = go (check_vectors s wanted)
    where
      go : (k : CheckedScene) → asked wanted k ≡ Err r → k ≡ Err r
      go (Err q) e = ap Err (same_refusal e)
      go (Ok sc) e = absurd (never_taken (sym e))

  pub asked_taken : (a : MaskedScene) → asked_of s wanted ≡ Ok a → (check_vectors s wanted ≡ Ok a.scene) × (a.masks ≡ masks_for wanted a.scene)
  unfolding asked_of
  asked_taken a = go (check_vectors s wanted)
    where
      go : (k : CheckedScene) → asked wanted k ≡ Ok a → (k ≡ Ok a.scene) × (a.masks ≡ masks_for wanted a.scene)
      go (Err q) e = absurd (never_taken e)
      go (Ok sc) e =
          let q : record { scene = sc; masks = masks_for wanted sc } ≡ a = same_taken e in
          let x : sc ≡ a.scene = ap (λ (a : MaskedScene). a.scene) q in
          (ap Ok x, sym (ap (λ (a : MaskedScene). a.masks) q) ∙ ap (masks_for wanted) x)

  pub refused : (r : Refusal) → asked_of s wanted ≡ Err r → answer_of s wanted ≡ Err r
  unfolding answer_of
  refused r e = ap (answered s wanted) (asked_refused r e)

  pub told : (a : MaskedScene) → asked_of s wanted ≡ Ok a → {v : Vectors} → v ≡ given_vectors a.scene (scene_vectors s a.scene a.masks) → answer_of s wanted ≡ Ok (with_vectors a.scene v)
  unfolding answer_of
  told a e is =
      let q = asked_taken a e in
      ap (answered s wanted) q.0
      ∙ ap (λ (v : Vectors). Ok (with_vectors a.scene v)) (ap (λ (m : FlagMasks). given_vectors a.scene (scene_vectors s a.scene m)) (sym q.1) ∙ sym is)

-- ---- where 9 finds nothing, whatever the scene

-- as of all flags of the pair
pub all_tidy : (sc : Scene) → stray_in sc (masks_for Wanted.All sc) ≡ false
unfolding masks_for
all_tidy sc = none_stray sc.f.shape sc.g.shape

module _ (wanted : Wanted) (tidy : (sc : Scene) → stray_in sc (masks_for wanted sc) ≡ false) (s : List ℕ) where
  pub never_nine : check_vectors s wanted ≡ check_scene s
  unfolding check_scene
  never_nine = go (read_scene s) refl
    where
      go : (k : CheckedScene) → read_scene s ≡ k → check_vectors s wanted ≡ check_scene_by (scene_rules [] []) s
      go (Err r) e = check_refused (vectors_rules wanted) s r e ∙ sym (check_refused (scene_rules [] []) s r e)
      go (Ok sc) e = rw (check_read (rule StrayFlag (stray_wanted wanted) ∷ []) [] s sc e, check_read [] [] s sc e, tidy sc)

  module _ {a : SceneAnswer} (is : a ≡ answer_of s wanted) where
    by_check : a ≡ answered s wanted (check_scene s)
    unfolding answer_of
    by_check = is ∙ ap (answered s wanted) never_nine

    pub was_refused : (r : Refusal) → a ≡ Err r → check_scene s ≡ Err r
    was_refused r e = go (check_scene s) (sym by_check ∙ e)
      where
        go : (k : CheckedScene) → answered s wanted k ≡ Err r → k ≡ Err r
        go (Err q) h = ap Err (same_refusal h)
        go (Ok sc) h = absurd (never_taken (sym h))

    pub was_taken : (sc : Scene) (v : Vectors) → a ≡ Ok (with_vectors sc v) → (check_scene s ≡ Ok sc) × (v ≡ vectors_in s sc wanted)
    was_taken sc v e = go (check_scene s) (sym by_check ∙ e)
      where
        go : (k : CheckedScene) → answered s wanted k ≡ Ok (with_vectors sc v) → (k ≡ Ok sc) × (v ≡ vectors_in s sc wanted)
        go (Err q) h = absurd (never_taken h)
        go (Ok k) h =
            let q : with_vectors k (vectors_in s k wanted) ≡ with_vectors sc v = same_taken h in
            let x : k ≡ sc = ap (λ (a : SceneVectors). a.scene) q in
            let y : vectors_in s k wanted ≡ v = ap (λ (a : SceneVectors). a.vectors) q in
            (ap Ok x, sym y ∙ ap (λ (k : Scene). vectors_in s k wanted) x)

-- ---- where nothing is wanted: 9 finds nothing, and no flag is set

unwanted : (all : ℕ) → has_stray all 0 ≡ false
unfolding has_stray
unwanted all = ap (λ v. not (eqb v 0)) (and_zero_l all)

abbrev with_either : Bool → Vectors
with_either b = record { f = cond b 0 0; g = cond b 0 0 }

given_none : (sc : Scene) (f g : ℕ) → f ≡ 0 → g ≡ 0 → given_vectors sc (record { f = f; g = g }) ≡ record { f = 0; g = 0 }
given_none sc f g e h = ap₂ (λ v w. given_vectors sc (record { f = v; g = w })) e h ∙ either (turned sc)
  where
    either : (b : Bool) → with_either b ≡ record { f = 0; g = 0 }
    either true = refl
    either false = refl

module _ (wanted : Wanted) (none : is_nothing wanted ≡ true) where
  none_tidy : (sc : Scene) → stray_in sc (masks_for wanted sc) ≡ false
  none_tidy sc =
      ap (stray_in sc) (none_wanted wanted none sc)
      ∙ ap₂ ◌||◌ (unwanted (mask_of_f (shape_number sc.f.shape) (shape_number sc.g.shape))) (unwanted (mask_of_g (shape_number sc.f.shape) (shape_number sc.g.shape)))

  module _ (s : List ℕ) where
    unmasked : (sc : Scene) → vectors_in s sc wanted ≡ record { f = 0; g = 0 }
    unfolding vector_of_f vector_of_g
    unmasked sc =
        ap (λ (m : FlagMasks). given_vectors sc (scene_vectors s sc m)) (none_wanted wanted none sc)
        ∙ given_none sc _ _ (and_zero_r (pack (flags_of_f (elements_of s sc.f) (elements_of s sc.g)))) (and_zero_r (pack (flags_of_g (elements_of s sc.f) (elements_of s sc.g))))

    pub none_refused : (r : Refusal) → check_scene s ≡ Err r → answer_of s wanted ≡ Err r
    unfolding answer_of
    none_refused r e = ap (answered s wanted) (never_nine wanted none_tidy s ∙ e)

    pub none_taken : (sc : Scene) → check_scene s ≡ Ok sc → answer_of s wanted ≡ Ok (with_vectors sc (record { f = 0; g = 0 }))
    unfolding answer_of
    none_taken sc e = ap (answered s wanted) (never_nine wanted none_tidy s ∙ e) ∙ ap (λ (v : Vectors). Ok (with_vectors sc v)) (unmasked sc)
