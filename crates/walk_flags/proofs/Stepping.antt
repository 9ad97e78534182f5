-- What taking the next event sets, off the table, by the event: of an element of one object alone, which has a class by its note, and of one of both.
use Prim.Native.Nat.{ℕ, ◌+◌, ◌<◌}
use mathlib.Core.Path.{◌≡◌, refl, sym, ap, ◌∙◌}
use mathlib.Core.Bool.{Bool, true, false, cond, ◌&&◌}
use mathlib.Core.List.{List}
use lib.ListN.{get_or}
use Rattle.whole.specs.Count.{◌∈◌}
use Rattle.whole.proofs.Logic.{and_left, is_true, true_is}
use Rattle.plane.specs.declared.Halfsegment.{Halfsegment}
use Rattle.scene.specs.declared.Layout.{Layout}
use Rattle.scene.specs.declared.Scene.{Scene}
use Rattle.scene.specs.Conditions.{has_segments, half, ia, left_test, segments}
use Rattle.sweep_laws.specs.Noted.{Noted}
use Rattle.check_verdict.proofs.Laws.{SoundObject, SoundScene}
use Rattle.flags.specs.Flags.{has_segment, pack}
use Rattle.flags.proofs.Bits.{pack_bit}
use Rattle.scene_keys.specs.Keyed.{element_point}
use Rattle.flags_meetings.specs.Met.{degree}
use Rattle.flags_classes.specs.Marked.{unshared_marks, shared_marks, named}
use Rattle.flags_classes.proofs.Behind.{tests_at, marks_unshared, marks_shared}
use Rattle.flags_table.specs.Table.{flags_of_f_by, flags_of_g_by}
use Rattle.walk_events.specs.Events.{f_alone, g_alone, of_both, events}
use Rattle.walk_events.specs.Taking.{taken_flags}
use Rattle.walk_events.proofs.Alone.{alone_f, alone_g, both_halves, both_halves_g}
use Rattle.walk_flags.specs.OneTaken.{met_at, class_at, side_of, class_of_one, class_of_two}
use Rattle.walk_flags.proofs.OneTaken.{one_of_f, one_of_g}

-- ---- the class by its marks

module _ (s : List ℕ) (own other : Layout) (note : ℕ → ℕ) (i : ℕ) where
  -- the marks of the element by their names
  marks_named : named (pack (tests_at s own other note i)) ≡ class_at s own other note i
  marks_named = λ j. record {
    above_outside = pack_bit (tests_at s own other note i) 0 j;
    below_outside = pack_bit (tests_at s own other note i) 1 j;
    above_inside = pack_bit (tests_at s own other note i) 2 j;
    below_inside = pack_bit (tests_at s own other note i) 3 j;
    both_above = pack_bit (tests_at s own other note i) 4 j;
    both_below = pack_bit (tests_at s own other note i) 5 j;
    opposite = pack_bit (tests_at s own other note i) 6 j;
  }

  no_class : left_test s own i ≡ false → 0 ≡ pack (tests_at s own other note i)
  no_class e = sym (rw e)

  has_left : left_test s own i ≡ true → has_segments own.shape ≡ true
  has_left e = true_is (has_segments own.shape) (and_left (has_segments own.shape) (half s own i).is_left (is_true (left_test s own i) e))

  module _ (p : SoundObject s other) (h : i < own.count) where
    class_alone : (has_segments own.shape ≡ true → has_segment (segments s other) (half s own i).segment ≡ false) → class_of_one (side_of s own i) (note i) ≡ class_at s own other note i
    class_alone alone = ap named (go (left_test s own i) refl) ∙ marks_named
      where
        go : (b : Bool) → left_test s own i ≡ b → cond b (unshared_marks (ia s own i) (note i)) 0 ≡ pack (tests_at s own other note i)
        go true e = marks_unshared s own other p h e (alone (has_left e)) note
        go false e = no_class e

    class_both : (j : ℕ) → j < other.count → (has_segments own.shape ≡ true → (has_segments other.shape ≡ true) × (half s own i ≡ half s other j)) → class_of_two (side_of s own i) (side_of s other j) ≡ class_at s own other note i
    class_both j k both = ap named (go (left_test s own i) refl) ∙ marks_named
      where
        go : (b : Bool) → left_test s own i ≡ b → cond b (shared_marks (ia s own i) (ia s other j)) 0 ≡ pack (tests_at s own other note i)
        go true e = let w = both (has_left e) in marks_shared s own other p h e k (left w) (ap (λ (h : Halfsegment). h.segment) w.1) note
          where
            left : (has_segments other.shape ≡ true) × (half s own i ≡ half s other j) → left_test s other j ≡ true
            left w = (λ x. w.0 x && (sym w.1 x).is_left) ∙ go_left
              where
                go_left : (half s own i).is_left ≡ true
                go_left = sym (ap (λ b. b && (half s own i).is_left) (has_left e)) ∙ e
        go false e = no_class e

-- ---- the flags of an event

module _ {s : List ℕ} {sc : Scene} {notes : List ℕ} (o : SoundScene s sc) (n : Noted s sc notes) where
  -- of degrees at the point of the element, in whichever form they are known
  module _ (i : ℕ) (h : i < sc.f.count) {a b : ℕ} (da : a ≡ degree s sc.f (element_point s sc.f i)) (db : b ≡ degree s sc.g (element_point s sc.f i)) where
    pub flags_alone_f : f_alone i ∈ events s sc
        → pack (flags_of_f_by sc.f.shape sc.g.shape (met_at a b (get_or notes i 0)) (class_of_one (side_of s sc.f i) (get_or notes i 0))) ≡ taken_flags true s sc.f sc.g i
    flags_alone_f m =
        (λ j. pack (flags_of_f_by sc.f.shape sc.g.shape (met_at (da j) (db j) (get_or notes i 0)) (class_alone s sc.f sc.g (λ k. get_or notes k 0) i o.g_sound h (λ has. alone_f o i has m) j)))
        ∙ sym (one_of_f o n i h)

    pub flags_both_f : (k : ℕ) → k < sc.g.count → of_both i k ∈ events s sc
        → pack (flags_of_f_by sc.f.shape sc.g.shape (met_at a b (get_or notes i 0)) (class_of_two (side_of s sc.f i) (side_of s sc.g k))) ≡ taken_flags true s sc.f sc.g i
    flags_both_f k l m =
        (λ j. pack (flags_of_f_by sc.f.shape sc.g.shape (met_at (da j) (db j) (get_or notes i 0)) (class_both s sc.f sc.g (λ k. get_or notes k 0) i o.g_sound h k l (λ has. both_halves o i k has m) j)))
        ∙ sym (one_of_f o n i h)

  module _ (i : ℕ) (h : i < sc.g.count) {a b : ℕ} (da : a ≡ degree s sc.f (element_point s sc.g i)) (db : b ≡ degree s sc.g (element_point s sc.g i)) (note : ℕ) where
    pub flags_alone_g : g_alone i ∈ events s sc
        → pack (flags_of_g_by sc.f.shape sc.g.shape (met_at a b note) (class_of_one (side_of s sc.g i) (get_or notes (1024 + i) 0))) ≡ taken_flags false s sc.g sc.f i
    flags_alone_g m =
        (λ j. pack (flags_of_g_by sc.f.shape sc.g.shape (met_at (da j) (db j) note) (class_alone s sc.g sc.f (λ k. get_or notes (1024 + k) 0) i o.f_sound h (λ has. alone_g o i has m) j)))
        ∙ sym (one_of_g o n note i h)

    pub flags_both_g : (k : ℕ) → k < sc.f.count → of_both k i ∈ events s sc
        → pack (flags_of_g_by sc.f.shape sc.g.shape (met_at a b note) (class_of_two (side_of s sc.g i) (side_of s sc.f k))) ≡ taken_flags false s sc.g sc.f i
    flags_both_g k l m =
        (λ j. pack (flags_of_g_by sc.f.shape sc.g.shape (met_at (da j) (db j) note) (class_both s sc.g sc.f (λ k. get_or notes (1024 + k) 0) i o.f_sound h k l (λ has. both_halves_g o k i has m) j)))
        ∙ sym (one_of_g o n note i h)
