-- The marks of events, put together, give the wanted flags that taking these events sets.
use Prim.Native.Nat.{ℕ, ◌+◌, ◌<◌}
use mathlib.Core.Path.{◌≡◌, refl, sym, ap, ap₂, subst, ◌∙◌}
use mathlib.Core.Logic.{⊎_elim}
use mathlib.Core.Bool.{true, false}
use mathlib.Core.List.{List, [], ◌∷◌}
use lib.Bits.{bit_or, or_zero_r}
use lib.ListN.{get_or}
use Rattle.whole.specs.Count.{◌∈◌, here, there}
use Rattle.whole.proofs.Logic.{in_cons, in_left, in_right, in_nil}
use Rattle.scene.specs.declared.Scene.{Scene}
use Rattle.scene_segments.proofs.Indices.{in_element}
use Rattle.scene_keys.specs.Keyed.{element_point}
use Rattle.sweep_laws.specs.Noted.{Noted}
use Rattle.check_verdict.proofs.Laws.{SoundScene}
use Rattle.flags.specs.Flags.{pack}
use Rattle.flags.proofs.Marks.{gather, gather_append}
use Rattle.flags_meetings.specs.Keyed as met
use Rattle.flags_meetings.specs.Met.{degree}
use Rattle.flags_classes.specs.Marked as class
use Rattle.flags_masks.specs.declared.FlagMasks.{FlagMasks}
use Rattle.flags_masks.specs.Wanted.{only}
use Rattle.flags_table.specs.Table.{flags_of_f_by, flags_of_g_by}
use Rattle.walk_events.specs.Events.{Taken, f_alone, g_alone, of_both, events, in_f, in_g}
use Rattle.walk_events.specs.Taking.{taken_flags}
use Rattle.walk_events.proofs.Alone.{both_same}
use Rattle.walk_events.proofs.Merged.{all_of_f, all_of_g}
use Rattle.walk_events.proofs.Standing.{in_f_append, in_g_append}
use Rattle.walk_flags.specs.OneTaken.{wanted_f, wanted_g, marks_of_one, marks_of_two, side_of}
use Rattle.walk_flags.proofs.Additive.{only_or, none_f, none_g, met_of_marks, wanted_f_both, wanted_g_both}
use Rattle.walk_flags.proofs.Stepping.{flags_alone_f, flags_alone_g, flags_both_f, flags_both_g}
use Rattle.walk.specs.Ground.{of_f, of_g}
use Rattle.walk.proofs.ByKeys.{point_of, event_point}

abbrev pub gathered : (Taken → ℕ) → List Taken → ℕ
gathered f [] = 0
gathered f (x ∷ l) = bit_or (f x) (gathered f l)

-- ---- the elements of an event

in_all_f : (x : Taken) (l : List Taken) → x ∈ l → (i : ℕ) → i ∈ in_f (x ∷ []) → i ∈ in_f l
in_all_f x [] m i h = absurd (in_nil m)
in_all_f x (y ∷ l) m i h =
    subst (λ (k : List ℕ). i ∈ k) (sym (in_f_append (y ∷ []) l))
    (⊎_elim (λ e. in_left (in_f l) (subst (λ (z : Taken). i ∈ in_f (z ∷ [])) e h)) (λ n. in_right (in_f (y ∷ [])) (in_all_f x l n i h)) (in_cons m))

in_all_g : (x : Taken) (l : List Taken) → x ∈ l → (j : ℕ) → j ∈ in_g (x ∷ []) → j ∈ in_g l
in_all_g x [] m j h = absurd (in_nil m)
in_all_g x (y ∷ l) m j h =
    subst (λ (k : List ℕ). j ∈ k) (sym (in_g_append (y ∷ []) l))
    (⊎_elim (λ e. in_left (in_g l) (subst (λ (z : Taken). j ∈ in_g (z ∷ [])) e h)) (λ n. in_right (in_g (y ∷ [])) (in_all_g x l n j h)) (in_cons m))

module _ (s : List ℕ) (sc : Scene) (x : Taken) (m : x ∈ events s sc) where
  few_f : (i : ℕ) → i ∈ in_f (x ∷ []) → i < sc.f.count
  few_f i h = in_element sc.f i (subst (λ (l : List ℕ). i ∈ l) (all_of_f s sc) (in_all_f x (events s sc) m i h))

  few_g : (j : ℕ) → j ∈ in_g (x ∷ []) → j < sc.g.count
  few_g j h = in_element sc.g j (subst (λ (l : List ℕ). j ∈ l) (all_of_g s sc) (in_all_g x (events s sc) m j h))

-- an event of both has one point
one_point : (s : List ℕ) (sc : Scene) (i j : ℕ) → of_both i j ∈ events s sc → element_point s sc.f i ≡ element_point s sc.g j
one_point s sc i j m = sym (event_point s sc.f i) ∙ ap point_of (both_same s sc i j m) ∙ event_point s sc.g j

-- ---- of one event

module _ {s : List ℕ} {sc : Scene} {notes : List ℕ} (o : SoundScene s sc) (noted : Noted s sc notes) (want : FlagMasks) where
  abbrev by_f : Taken → ℕ
  by_f x = wanted_f sc.f.shape sc.g.shape want (met.named (of_f s sc notes x).met) (class.named (of_f s sc notes x).classes)

  abbrev by_g : Taken → ℕ
  by_g x = wanted_g sc.f.shape sc.g.shape want (met.named (of_g s sc notes x).met) (class.named (of_g s sc notes x).classes)

  abbrev sets_f : List ℕ → ℕ
  sets_f = gather (taken_flags true s sc.f sc.g)

  abbrev sets_g : List ℕ → ℕ
  sets_g = gather (taken_flags false s sc.g sc.f)

  one_f : (x : Taken) → x ∈ events s sc → by_f x ≡ only want.f (sets_f (in_f (x ∷ [])))
  one_f (f_alone i) m =
      let v = element_point s sc.f i in
      let note = get_or notes i 0 in
      ap (λ a. only want.f (pack (flags_of_f_by sc.f.shape sc.g.shape a (class.named (marks_of_one (side_of s sc.f i) note))))) (met_of_marks (degree s sc.f v) (degree s sc.g v) note)
      ∙ ap (only want.f) (flags_alone_f o noted i (few_f s sc (f_alone i) m i here) refl refl m ∙ sym (or_zero_r (taken_flags true s sc.f sc.g i)))
  one_f (g_alone j) m = none_f sc.f.shape sc.g.shape want
  one_f (of_both i j) m =
      let v = element_point s sc.f i in
      let note = get_or notes i 0 in
      ap (λ a. only want.f (pack (flags_of_f_by sc.f.shape sc.g.shape a (class.named (marks_of_two (side_of s sc.f i) (side_of s sc.g j)))))) (met_of_marks (degree s sc.f v) (degree s sc.g v) note)
      ∙ ap (only want.f) (flags_both_f o noted i (few_f s sc (of_both i j) m i here) refl refl j (few_g s sc (of_both i j) m j here) m ∙ sym (or_zero_r (taken_flags true s sc.f sc.g i)))

  one_g : (x : Taken) → x ∈ events s sc → by_g x ≡ only want.g (sets_g (in_g (x ∷ [])))
  one_g (f_alone i) m = none_g sc.f.shape sc.g.shape want
  one_g (g_alone j) m =
      let v = element_point s sc.g j in
      let note = get_or notes (1024 + j) 0 in
      ap (λ a. only want.g (pack (flags_of_g_by sc.f.shape sc.g.shape a (class.named (marks_of_one (side_of s sc.g j) note))))) (met_of_marks (degree s sc.f v) (degree s sc.g v) note)
      ∙ ap (only want.g) (flags_alone_g o noted j (few_g s sc (g_alone j) m j here) refl refl note m ∙ sym (or_zero_r (taken_flags false s sc.g sc.f j)))
  one_g (of_both i j) m =
      let v = element_point s sc.f i in
      let note = get_or notes i 0 in
      let at = one_point s sc i j m in
      ap (λ a. only want.g (pack (flags_of_g_by sc.f.shape sc.g.shape a (class.named (marks_of_two (side_of s sc.g j) (side_of s sc.f i)))))) (met_of_marks (degree s sc.f v) (degree s sc.g v) note)
      ∙ ap (only want.g)
      (flags_both_g o noted j (few_g s sc (of_both i j) m j here) (ap (degree s sc.f) at) (ap (degree s sc.g) at) note i (few_f s sc (of_both i j) m i here) m
      ∙ sym (or_zero_r (taken_flags false s sc.g sc.f j)))

  -- ---- of several

  pub settled_f : (l : List Taken) → ((x : Taken) → x ∈ l → x ∈ events s sc)
      → wanted_f sc.f.shape sc.g.shape want (met.named (gathered (λ x. (of_f s sc notes x).met) l)) (class.named (gathered (λ x. (of_f s sc notes x).classes) l)) ≡ only want.f (sets_f (in_f l))
  settled_f [] all = none_f sc.f.shape sc.g.shape want
  settled_f (x ∷ l) all =
      wanted_f_both sc.f.shape sc.g.shape want (of_f s sc notes x).met (gathered (λ x. (of_f s sc notes x).met) l) (of_f s sc notes x).classes (gathered (λ x. (of_f s sc notes x).classes) l)
      ∙ ap₂ bit_or (one_f x (all x here)) (settled_f l (λ y m. all y (there m)))
      ∙ sym (only_or want.f (sets_f (in_f (x ∷ []))) (sets_f (in_f l)))
      ∙ ap (only want.f) (sym (ap sets_f (in_f_append (x ∷ []) l) ∙ gather_append (taken_flags true s sc.f sc.g) (in_f (x ∷ [])) (in_f l)))

  pub settled_g : (l : List Taken) → ((x : Taken) → x ∈ l → x ∈ events s sc)
      → wanted_g sc.f.shape sc.g.shape want (met.named (gathered (λ x. (of_g s sc notes x).met) l)) (class.named (gathered (λ x. (of_g s sc notes x).classes) l)) ≡ only want.g (sets_g (in_g l))
  settled_g [] all = none_g sc.f.shape sc.g.shape want
  settled_g (x ∷ l) all =
      wanted_g_both sc.f.shape sc.g.shape want (of_g s sc notes x).met (gathered (λ x. (of_g s sc notes x).met) l) (of_g s sc notes x).classes (gathered (λ x. (of_g s sc notes x).classes) l)
      ∙ ap₂ bit_or (one_g x (all x here)) (settled_g l (λ y m. all y (there m)))
      ∙ sym (only_or want.g (sets_g (in_g (x ∷ []))) (sets_g (in_g l)))
      ∙ ap (only want.g) (sym (ap sets_g (in_g_append (x ∷ []) l) ∙ gather_append (taken_flags false s sc.g sc.f) (in_g (x ∷ [])) (in_g l)))
