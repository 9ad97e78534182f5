-- The ground of a walk: for each event of the scene, in the merged order, four bytes, its marks.
use Rattle.std.specs.Prelude.{ℕ, ◌+◌, ◌*◌, List, [], ◌∷◌, ◌++◌, get_or, take, drop}
use Rattle.scene.specs.declared.Scene.{Scene}
use Rattle.scene_keys.specs.Keyed.{element_point}
use Rattle.plane.specs.declared.Point.{Point}
use Rattle.flags_meetings.specs.Met.{degree}
use Rattle.walk_events.specs.Events.{Taken, f_alone, g_alone, of_both, events}
use Rattle.walk_events.specs.Portions.{total}
use Rattle.walk_flags.specs.declared.Marks.{Marks}
use Rattle.walk_flags.specs.OneTaken.{met_marks, side_of, marks_of_one, marks_of_two}

-- of an element of F and of one of G, as bytes
abbrev pub four : Marks → Marks → List ℕ
four f g = f.met ∷ f.classes ∷ g.met ∷ g.classes ∷ []

-- what an event has of one object alone
abbrev pub no_marks : Marks
no_marks = record { met = 0; classes = 0 }

module _ (s : List ℕ) (sc : Scene) (notes : List ℕ) where
  -- of a point, by how many elements of F and of G have it, and by a note
  abbrev pub met_at_point : Point → ℕ → ℕ
  met_at_point v note = met_marks (degree s sc.f v) (degree s sc.g v) note

  -- of the element of F, and of G, of an event: the meeting at its point, and the class of its segment. The note of an event of both is that of the element of F.
  abbrev pub of_f : Taken → Marks
  of_f (f_alone i) = let note = get_or notes i 0 in record { met = met_at_point (element_point s sc.f i) note; classes = marks_of_one (side_of s sc.f i) note }
  of_f (g_alone j) = no_marks
  of_f (of_both i j) = record { met = met_at_point (element_point s sc.f i) (get_or notes i 0); classes = marks_of_two (side_of s sc.f i) (side_of s sc.g j) }

  abbrev pub of_g : Taken → Marks
  of_g (f_alone i) = no_marks
  of_g (g_alone j) = let note = get_or notes (1024 + j) 0 in record { met = met_at_point (element_point s sc.g j) note; classes = marks_of_one (side_of s sc.g j) note }
  of_g (of_both i j) = record { met = met_at_point (element_point s sc.f i) (get_or notes i 0); classes = marks_of_two (side_of s sc.g j) (side_of s sc.f i) }

  abbrev pub event_marks : Taken → List ℕ
  event_marks x = four (of_f x) (of_g x)

  abbrev pub laid : List Taken → List ℕ
  laid [] = []
  laid (x ∷ l) = event_marks x ++ laid l

  -- the buffer with the first n events laid
  abbrev pub laid_first : (n : ℕ) → List ℕ → List ℕ
  laid_first n before = laid (take n (events s sc)) ++ drop (4 * n) before

  -- and with all
  abbrev pub ground_of : List ℕ → List ℕ
  ground_of before = laid (events s sc) ++ drop (4 * total s sc) before

-- four bytes at the place of the event n
abbrev pub put : ℕ → List ℕ → List ℕ → List ℕ
put n bytes g = take (4 * n) g ++ (bytes ++ drop (4 * n + 4) g)
