-- How far a walk over the points of an object's elements has come, and the marks that it collects.
use Rattle.std.specs.Prelude.{ℕ, ◌-◌, ◌<◌, ◌≤◌, ◌≡◌, Bool, false, List, [], ◌∷◌, eqb, ltb, get_or}
use Rattle.std.specs.Int.Bits.{bit_or}
use Rattle.scene_keys.specs.Keyed.{next}
use Rattle.scene_segments.proofs.Walk.{between}
use Rattle.flags.specs.Flags.{pack, has_bit}
use Rattle.flags.proofs.Marks.{gather}
use Rattle.flags_meetings.specs.declared.Meetings.{Meetings}
use Rattle.flags_meetings.specs.Met.{bound_outside_test, bound_inside_test, bound_on_test, bound_bound_test, bound_inner_test, inner_bound_test, inner_inner_test, bound_of_g_test}

-- ---- the elements of an object

-- n elements with the keys u: those from i up to j have the key k, and j has another
pub record Passed (n : ℕ) (u : ℕ → ℕ) (k i j : ℕ) : Type 0 where
  pub on : i ≤ j
  pub same : (m : ℕ) → i ≤ m → m < j → next n u m ≡ k
  pub other : next n u j ≡ k → ⊥

-- ---- marks: a bit of a number for each test

-- of a point by an element of F, and by one of G
abbrev pub tests_of_f : (a b n : ℕ) → List Bool
tests_of_f a b n =
    bound_outside_test a b n
    ∷ bound_inside_test a b n
    ∷ bound_on_test a b n
    ∷ bound_bound_test a b n
    ∷ bound_inner_test a b n
    ∷ inner_bound_test a b n
    ∷ inner_inner_test a b n
    ∷ []

abbrev pub tests_of_g : (a b : ℕ) → List Bool
tests_of_g a b = false ∷ false ∷ false ∷ false ∷ false ∷ false ∷ false ∷ bound_of_g_test a b ∷ []

abbrev pub marks_of_f : (a b n : ℕ) → ℕ
marks_of_f a b n = pack (tests_of_f a b n)

abbrev pub marks_of_g : (a b : ℕ) → ℕ
marks_of_g a b = pack (tests_of_g a b)

-- of a point that the elements of F from i up to j have, and b of G: each element of F by its own note. Beside a line the notes of one point may differ.
abbrev pub marks : (notes : List ℕ) (i j b : ℕ) → ℕ
marks notes i j b = bit_or (gather (λ m. marks_of_f (j - i) b (get_or notes m 0)) (between i j)) (marks_of_g (j - i) b)

-- of a point that is bound in F and none of G's, by one note, and by those of the elements from i up to j
abbrev pub mark_of_note : (n : ℕ) → ℕ
mark_of_note n = pack (eqb n 0 ∷ eqb n 1 ∷ ltb 1 n ∷ [])

abbrev pub marks_of_notes : (notes : List ℕ) (i j : ℕ) → ℕ
marks_of_notes notes i j = gather (λ m. mark_of_note (get_or notes m 0)) (between i j)

-- the marks by their names
abbrev pub named : ℕ → Meetings
named m =
    record {
      bound_outside = has_bit m 0;
      bound_inside = has_bit m 1;
      bound_on = has_bit m 2;
      bound_bound = has_bit m 3;
      bound_inner = has_bit m 4;
      inner_bound = has_bit m 5;
      inner_inner = has_bit m 6;
      bound_of_g = has_bit m 7;
    }
