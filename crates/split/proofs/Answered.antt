-- The answer and the buffer, by what the checks and the cutting say.
use Rattle.std.proofs.Common.{◌≡◌, ◌∙◌, refl, sym, ap, ap₂, subst, ◌⊎◌, inl, inr, ⊎_elim, ℕ, Bool, true, false, cond, List, [], ◌∷◌, ◌++◌, length, drop, leb, arith, Ok, Err, None, Some}
use Rattle.plane.specs.declared.Segment.{Segment}
use Rattle.scene.specs.declared.Scene.{Scene}
use Rattle.scene.specs.declared.Refusal.{Refusal}
use Rattle.scene.specs.declared.Layout.{Layout}
use Rattle.scene.specs.declared.Reason.TheVariants.{OffGrid, TooManyElements, NoRoom}
use Rattle.scene.specs.Read.{Fault, condition, decide, judge, unless, given_first, given_second}
use Rattle.scene.specs.Conditions.{has_segments, segments, object, conditions, or_else}
use Rattle.scene.proofs.Outcomes.{never_taken, all_passed, not_passed}
use Rattle.scene_segments.proofs.Walk.{no_segments}
use Rattle.scene_written.specs.Arranged.{object_bytes}
use Rattle.check_verdict.specs.Refusals.{verdict}
use Rattle.split_crossing.specs.Cuts.{added_by}
use Rattle.split_crossing.proofs.SplitWell.{SplitWell}
use Rattle.split_cuts.specs.Listed.{segments_of}
use Rattle.split_cuts.specs.Split.{off_grid}
use Rattle.split.specs.declared.cut.CutObject.{CutObject}
use Rattle.split.specs.Split.{of_shape, too_many, added_to, split_object, is_copied, split_bytes, is_too_short, check_raw, own_rules, check_split, SplitAnswer, split_answer, split_buffer}
use Rattle.split.specs.Cut.{cut_conditions, cut_verdict, CutRight, Ready, handed}
use Rattle.split.proofs.Given.{Splittable, one_false, raw_read_as, both_sound, have_segments, first_few, second_few, first_split, second_split, first_differ, second_differ}
use Rattle.split.proofs.Cutting.{pieces_segments}
use Rattle.split.proofs.Pieces.{ready}
use Rattle.split.proofs.Judged.{with_own, split_after}

-- an object without segments, or beside one, has nothing added
none_added : (l : List Segment) → added_by [] l ≡ 0
none_added [] = refl
none_added (t ∷ l) = let e = none_added l in omega arith

nothing_added : (s : List ℕ) (own other : Layout) → (has_segments own.shape ≡ false) ⊎ (has_segments other.shape ≡ false) → added_to s own other ≡ 0
nothing_added s own other (inl e) = ap (added_by (segments s other)) (no_segments s own e)
nothing_added s own other (inr e) = ap (λ l. added_by l (segments s own)) (no_segments s other e) ∙ none_added (segments s own)

module _ (s out : List ℕ) where
  pub record Given (result : SplitAnswer) (after : List ℕ) : Type 0 where
    pub is : result ≡ split_answer s out
    pub buffer : after ≡ split_buffer s out

  pub refused : (r : Refusal) → check_split s (length out) ≡ Err r → Given (Err r) out
  refused r e = record { is = rw e refl; buffer = rw e refl }

  pub raw_refused : (r : Refusal) → check_raw s ≡ Err r → Given (Err r) out
  raw_refused r e = refused r (split_after s (length out) ∙ ap (with_own s (length out)) e)

  module _ (sc : Scene) (raw : check_raw s ≡ Ok sc) where
    after_raw : check_split s (length out) ≡ judge Err (Ok sc) (conditions (own_rules (length out)) s sc)
    after_raw = split_after s (length out) ∙ ap (with_own s (length out)) raw

    -- where only 21 is left
    module _ (bytes : List ℕ) (same : bytes ≡ split_bytes s sc) (f g : ℕ) (is_f : f ≡ added_to s (given_first sc) (given_second sc)) (is_g : g ≡ added_to s (given_second sc) (given_first sc))
        (left : judge Err (Ok sc) (conditions (own_rules (length out)) s sc) ≡ decide Err NoRoom (is_too_short (length out) s sc) (Ok sc)) where
      by_room : (b : Bool) → leb (length bytes) (length out) ≡ b → Given (handed bytes f g b) (cond b (bytes ++ drop (length bytes) out) out)
      by_room true e =
          let taken : check_split s (length out) ≡ Ok sc = after_raw ∙ left ∙ ap (λ b. decide Err NoRoom (unless b 0) (Ok sc)) (ap (λ l. leb (length l) (length out)) (sym same) ∙ e) in
          record {
            is = rw (taken, is_f, is_g, same) refl;
            buffer = rw (taken, same) refl;
          }
      by_room false e = refused _ (after_raw ∙ left ∙ ap (λ b. decide Err NoRoom (unless b 0) (Ok sc)) (ap (λ l. leb (length l) (length out)) (sym same) ∙ e))

      pub handed_over : {result : SplitAnswer} {after : List ℕ} → result ≡ handed bytes f g (leb (length bytes) (length out))
          → after ≡ cond (leb (length bytes) (length out)) (bytes ++ drop (length bytes) out) out → Given result after
      handed_over a b = rw (a, b) (by_room (leb (length bytes) (length out)) refl)

    -- a scene that is copied
    module _ (h : is_copied sc ≡ true) where
      same_bytes : s ≡ split_bytes s sc
      unfolding split_bytes
      same_bytes = rw h refl

      left : judge Err (Ok sc) (conditions (own_rules (length out)) s sc) ≡ decide Err NoRoom (is_too_short (length out) s sc) (Ok sc)
      left = rw h refl

      empty : (has_segments (given_first sc).shape ≡ false) ⊎ (has_segments (given_second sc).shape ≡ false)
      empty = one_false (has_segments (given_first sc).shape) (has_segments (given_second sc).shape) h

      pub copied : {result : SplitAnswer} {after : List ℕ} → result ≡ handed s 0 0 (leb (length s) (length out)) → after ≡ cond (leb (length s) (length out)) (s ++ drop (length s) out) out → Given result after
      copied =
          handed_over s same_bytes 0 0 (sym (nothing_added s (given_first sc) (given_second sc) empty))
          (sym (nothing_added s (given_second sc) (given_first sc) (⊎_elim inr inl empty))) left

    -- or split
    module _ (h : is_copied sc ≡ false) where
      judged : judge Err (Ok sc) (conditions (own_rules (length out)) s sc) ≡ judge Err (decide Err NoRoom (is_too_short (length out) s sc) (Ok sc)) (cut_conditions s (given_first sc) (given_second sc))
      judged = rw h refl

      pub cut_refused : (r : Refusal) → cut_verdict s (given_first sc) (given_second sc) ≡ Err r → Given (Err r) out
      cut_refused r e = refused r (after_raw ∙ judged ∙ not_passed _ (cut_conditions s (given_first sc) (given_second sc)) e)

      cut_left : cut_verdict s (given_first sc) (given_second sc) ≡ Ok tt → judge Err (Ok sc) (conditions (own_rules (length out)) s sc) ≡ decide Err NoRoom (is_too_short (length out) s sc) (Ok sc)
      cut_left e = judged ∙ all_passed _ (cut_conditions s (given_first sc) (given_second sc)) e

      both_bytes : split_bytes s sc ≡ object_bytes (split_object s (given_first sc) (given_second sc)) ++ object_bytes (split_object s (given_second sc) (given_first sc))
      unfolding split_bytes
      both_bytes = rw h refl

      -- neither 19 nor 20 refuses: the scene can be split
      module _ (passed : cut_verdict s (given_first sc) (given_second sc) ≡ Ok tt) where
        nothing : (off_grid s (given_first sc) (segments s (given_second sc)) ≡ None) × (or_else (too_many s (given_first sc) (given_second sc)) (too_many s (given_second sc) (given_first sc)) ≡ None)
        nothing = go (off_grid s (given_first sc) (segments s (given_second sc))) (or_else (too_many s (given_first sc) (given_second sc)) (too_many s (given_second sc) (given_first sc))) passed
          where
            go : (f g : Fault) → verdict (condition OffGrid f ∷ condition TooManyElements g ∷ []) ≡ Ok tt → (f ≡ None) × (g ≡ None)
            go (Some p) g e = absurd (never_taken e)
            go None (Some p) e = absurd (never_taken e)
            go None None e = (refl, refl)

        pub can_split : Splittable s sc
        can_split =
            let sound = both_sound s sc raw in
            record {
              read = raw_read_as s sc raw;
              first_sound = sound.0;
              second_sound = sound.1;
              on_grid = ap (λ b. cond b None (off_grid s (given_first sc) (segments s (given_second sc)))) h ∙ nothing.0;
              fits = ap (λ b. cond b None (or_else (too_many s (given_first sc) (given_second sc)) (too_many s (given_second sc) (given_first sc)))) h ∙ nothing.1;
            }

        module _ (f g : CutObject) (right_f : CutRight s (given_first sc) (given_second sc) f) (right_g : CutRight s (given_second sc) (given_first sc) g) where
          pub both_ready : Ready (given_first sc).shape f.pieces.items × Ready (given_second sc).shape g.pieces.items
          both_ready =
              let w = can_split in
              let has = have_segments w h in (
                subst (Ready (given_first sc).shape) (sym right_f.pieces) (ready s (given_first sc) (given_second sc) w.first_sound (first_split w) has.0 (first_few w h) (first_differ w)),
                subst (Ready (given_second sc).shape) (sym right_g.pieces) (ready s (given_second sc) (given_first sc) w.second_sound (second_split w) has.1 (second_few w h) (second_differ w)),
              )

          object_same : (own other : Layout) (c : CutObject) → CutRight s own other c → of_shape own.shape (object s own) (segments_of c.pieces.items) ≡ split_object s own other
          unfolding split_object
          object_same own other c r = ap (of_shape own.shape (object s own)) (ap segments_of r.pieces ∙ pieces_segments s own other)

          added_same : (own other : Layout) (c : CutObject) → CutRight s own other c → SplitWell (segments s own) (segments s other) → c.added ≡ added_to s own other
          added_same own other c r w = omega (arith, r.added, w.counted)

          pub written : {bytes : List ℕ} {result : SplitAnswer} {after : List ℕ}
              → bytes ≡ object_bytes (of_shape (given_first sc).shape (object s (given_first sc)) (segments_of f.pieces.items))
              ++ object_bytes (of_shape (given_second sc).shape (object s (given_second sc)) (segments_of g.pieces.items))
              → result ≡ handed bytes f.added g.added (leb (length bytes) (length out)) → after ≡ cond (leb (length bytes) (length out)) (bytes ++ drop (length bytes) out) out → Given result after
          written {bytes} e =
              handed_over bytes
              (e ∙ ap₂ (λ o p. object_bytes o ++ object_bytes p) (object_same (given_first sc) (given_second sc) f right_f) (object_same (given_second sc) (given_first sc) g right_g) ∙ sym both_bytes)
              f.added g.added (added_same (given_first sc) (given_second sc) f right_f (first_split can_split)) (added_same (given_second sc) (given_first sc) g right_g (second_split can_split))
              (cut_left passed)
