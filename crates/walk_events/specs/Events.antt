-- Paper 12's events: "An event is an element of either object in the merged order, equal ones from both (halfsegments by ends and d alone) being one
-- event; a point is never equal to a halfsegment and comes after those whose dominating point it is."
use Rattle.std.specs.Prelude.{ℕ, Bool, false, ◌&&◌, ◌||◌, cond, List, [], ◌∷◌, map}
use Rattle.std.specs.Bool.{beq}
use Rattle.plane.specs.Plane.{before, is_same_point, is_same_segment, comes_before, dominating}
use Rattle.scene.specs.declared.Shape.{Shape}
use Rattle.scene.specs.declared.Shape.TheVariants.{Points, Line, Region}
use Rattle.scene.specs.declared.Layout.{Layout}
use Rattle.scene.specs.declared.Scene.{Scene}
use Rattle.scene.specs.Conditions.{elements, half}
use Rattle.flags.specs.Elements.{point_of}
use Rattle.walk_events.specs.declared.Event.{Event}
use Rattle.walk_events.specs.declared.Event.TheVariants.{At, Side}

-- ---- an element, as the order sees it: without its object and its ia

module _ (s : List ℕ) (l : Layout) where
  abbrev pub event_as : Shape → ℕ → Event
  event_as Points i = At (point_of s l i)
  event_as Line i = Side (half s l i)
  event_as Region i = Side (half s l i)

  abbrev pub event_of : ℕ → Event
  event_of = event_as l.shape

-- "halfsegments by ends and d alone"; "a point is never equal to a halfsegment"
unfoldable pub same_event : Event → Event → Bool
same_event (At p) (At q) = is_same_point p q
same_event (Side h) (Side k) = is_same_segment h.segment k.segment && beq h.is_left k.is_left
same_event (At p) (Side k) = false
same_event (Side h) (At q) = false

-- the order of each kind, by points; a point "comes after those whose dominating point it is"
unfoldable pub event_before : Event → Event → Bool
event_before (At p) (At q) = before p q
event_before (Side h) (Side k) = comes_before h k
event_before (At p) (Side k) = before p (dominating k)
event_before (Side h) (At q) = before (dominating h) q || is_same_point (dominating h) q

-- ---- the events of two objects

-- the element of F, of G, or of both that an event is, by their indices
pub data Taken : Type 0 where
  f_alone : ℕ → Taken
  g_alone : ℕ → Taken
  of_both : ℕ → ℕ → Taken

-- Two lists in order, merged; what both have is taken once
module _ (same earlier : ℕ → ℕ → Bool) where
  -- i and what follows it in F among those of G; rest merges what follows i with what is left of G
  abbrev pub merge_from : ℕ → (List ℕ → List Taken) → List ℕ → List Taken
  merge_from i rest [] = f_alone i ∷ rest []
  merge_from i rest (j ∷ G) =
      let both = of_both i j ∷ rest G in
      let first = f_alone i ∷ rest (j ∷ G) in
      let second = g_alone j ∷ merge_from i rest G in
      cond (same i j) both (cond (earlier i j) first second)

  abbrev pub merge : List ℕ → List ℕ → List Taken
  merge [] G = map g_alone G
  merge (i ∷ F) G = merge_from i (merge F) G

module _ (s : List ℕ) (sc : Scene) where
  abbrev pub same : ℕ → ℕ → Bool
  same i j = same_event (event_of s sc.f i) (event_of s sc.g j)

  abbrev pub earlier : ℕ → ℕ → Bool
  earlier i j = event_before (event_of s sc.f i) (event_of s sc.g j)

  -- "in the merged order"
  unfoldable pub events : List Taken
  events = merge same earlier (elements sc.f) (elements sc.g)

module _ (s : List ℕ) (sc : Scene) where
  -- what an event is
  abbrev pub as_event : Taken → Event
  as_event (f_alone i) = event_of s sc.f i
  as_event (g_alone j) = event_of s sc.g j
  as_event (of_both i j) = event_of s sc.f i

-- the elements of F, and of G, among events
abbrev pub in_f : List Taken → List ℕ
in_f [] = []
in_f (f_alone i ∷ l) = i ∷ in_f l
in_f (g_alone j ∷ l) = in_f l
in_f (of_both i j ∷ l) = i ∷ in_f l

abbrev pub in_g : List Taken → List ℕ
in_g [] = []
in_g (f_alone i ∷ l) = in_g l
in_g (g_alone j ∷ l) = j ∷ in_g l
in_g (of_both i j ∷ l) = j ∷ in_g l
