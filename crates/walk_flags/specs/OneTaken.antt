-- One element as the table of flags reads it: the meeting at its point, by the degrees that the point has in both objects and by the element's note, and the
-- class of its segment. proofs/OneTaken.antt says that the table read off these gives what taking the element sets.
use Rattle.std.specs.Prelude.{ℕ, ◌+◌, Bool, ◌&&◌, cond, List, [], ◌∷◌, eqb, ltb, get_or}
use Rattle.plane.specs.Plane.{is_boundary}
use Rattle.scene.specs.declared.Shape.{Shape}
use Rattle.scene.specs.declared.Layout.{Layout}
use Rattle.scene.specs.declared.Scene.{Scene}
use Rattle.scene.specs.Conditions.{ia, left_test}
use Rattle.scene_keys.specs.Keyed.{element_point}
use Rattle.flags_meetings.specs.declared.Meetings.{Meetings}
use Rattle.flags_meetings.specs.Keyed as met
use Rattle.flags_meetings.specs.Met.{degree, bound_outside_test, bound_inside_test, bound_on_test, bound_bound_test, bound_inner_test, inner_bound_test, inner_inner_test, bound_of_g_test}
use Rattle.flags_classes.specs.declared.Classes.{Classes}
use Rattle.flags_classes.specs.Classed.{above_outside_test, below_outside_test, above_inside_test, below_inside_test, both_above_test, both_below_test, opposite}
use Rattle.flags.specs.Flags.{pack}
use Rattle.flags_classes.specs.Marked.{unshared_marks, shared_marks, named}
use Rattle.flags_table.specs.Table.{flags_of_f_by, flags_of_g_by}
use Rattle.flags_masks.specs.declared.FlagMasks.{FlagMasks}
use Rattle.flags_masks.specs.Wanted.{only}
use Rattle.walk_flags.specs.declared.Marks.{Marks}
use Rattle.walk_flags.specs.declared.Side.{Side}

-- of a point of degree a in F and b in G, with the note n
abbrev pub met_at : (a b n : ℕ) → Meetings
met_at a b n =
    record {
      bound_outside = bound_outside_test a b n;
      bound_inside = bound_inside_test a b n;
      bound_on = bound_on_test a b n;
      bound_bound = bound_bound_test a b n;
      bound_inner = bound_inner_test a b n;
      inner_bound = inner_bound_test a b n;
      inner_inner = inner_inner_test a b n;
      bound_of_g = bound_of_g_test a b;
    }

-- its marks, a bit for each kind of meeting
abbrev pub met_tests : (a b n : ℕ) → List Bool
met_tests a b n =
    bound_outside_test a b n
    ∷ bound_inside_test a b n
    ∷ bound_on_test a b n
    ∷ bound_bound_test a b n
    ∷ bound_inner_test a b n
    ∷ inner_bound_test a b n
    ∷ inner_inner_test a b n
    ∷ bound_of_g_test a b
    ∷ []

-- of a point that is none of G's
abbrev pub alone_marks : (a n : ℕ) → ℕ
alone_marks a n = pack ((is_boundary a && eqb n 0) ∷ (is_boundary a && eqb n 1) ∷ (is_boundary a && ltb 1 n) ∷ [])

abbrev pub met_marks : (a b n : ℕ) → ℕ
met_marks a b n = pack (met_tests a b n)

-- of the element i of an object beside the other; a right halfsegment and a point have no class
abbrev pub class_at : List ℕ → (own other : Layout) (note : ℕ → ℕ) → ℕ → Classes
class_at s own other note i =
    record {
      above_outside = left_test s own i && above_outside_test s own other note i;
      below_outside = left_test s own i && below_outside_test s own other note i;
      above_inside = left_test s own i && above_inside_test s own other note i;
      below_inside = left_test s own i && below_inside_test s own other note i;
      both_above = left_test s own i && both_above_test s own other i;
      both_below = left_test s own i && both_below_test s own other i;
      opposite = left_test s own i && opposite s own other i;
    }

module _ (s : List ℕ) (sc : Scene) (notes : List ℕ) where
  -- the element i of F, and the element j of G with any note
  abbrev pub met_by_f : ℕ → Meetings
  met_by_f i = met_at (degree s sc.f (element_point s sc.f i)) (degree s sc.g (element_point s sc.f i)) (get_or notes i 0)

  abbrev pub met_by_g : (note : ℕ) → ℕ → Meetings
  met_by_g note j = met_at (degree s sc.f (element_point s sc.g j)) (degree s sc.g (element_point s sc.g j)) note

  abbrev pub class_by_f : ℕ → Classes
  class_by_f i = class_at s sc.f sc.g (λ k. get_or notes k 0) i

  abbrev pub class_by_g : ℕ → Classes
  class_by_g j = class_at s sc.g sc.f (λ k. get_or notes (1024 + k) 0) j

-- ---- the class by the event: of an object alone, or of both

abbrev pub side_of : List ℕ → Layout → ℕ → Side
side_of s l i = record { is_left = left_test s l i; ia = ia s l i }

-- of an element that is an event of its object alone, with its note, and of one that is the same event as one of the other object
abbrev pub marks_of_one : Side → (note : ℕ) → ℕ
marks_of_one own note = cond own.is_left (unshared_marks own.ia note) 0

abbrev pub marks_of_two : (own other : Side) → ℕ
marks_of_two own other = cond own.is_left (shared_marks own.ia other.ia) 0

abbrev pub class_of_one : Side → (note : ℕ) → Classes
class_of_one own note = named (marks_of_one own note)

abbrev pub class_of_two : (own other : Side) → Classes
class_of_two own other = named (marks_of_two own other)

-- ---- the wanted flags of the next event

-- what the table gives of two types, as far as it is wanted
module _ (f g : Shape) (want : FlagMasks) (m : Meetings) (c : Classes) where
  abbrev pub wanted_f : ℕ
  wanted_f = only want.f (pack (flags_of_f_by f g m c))

  abbrev pub wanted_g : ℕ
  wanted_g = only want.g (pack (flags_of_g_by f g m c))

-- what the table gives of marks, each a bit of a number
module _ (f g : Shape) (want : FlagMasks) (m : Marks) where
  abbrev pub marked_f : ℕ
  marked_f = wanted_f f g want (met.named m.met) (named m.classes)

  abbrev pub marked_g : ℕ
  marked_g = wanted_g f g want (met.named m.met) (named m.classes)
