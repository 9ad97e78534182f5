-- What the step of a merge promises: of an element of F and one of G, which is the next event; and where the merge stands after n events.
use Rattle.std.specs.Prelude.{ℕ, ◌-◌, ◌≤◌, ◌≡◌, cond, List, T, drop}
use Rattle.plane.specs.Plane.{segment_in_range}
use Rattle.scene.specs.declared.Scene.{Scene}
use Rattle.scene.specs.Conditions.{indices}
use Rattle.walk_events.specs.declared.Event.{Event}
use Rattle.walk_events.specs.declared.Event.TheVariants.{At, Side}
use Rattle.walk_events.specs.declared.Step.{Step}
use Rattle.walk_events.specs.declared.Step.TheVariants.{OfF, OfG, OfBoth}
use Rattle.walk_events.specs.Events.{Taken, same_event, event_before, merge, same, earlier, events}
use Rattle.walk_events.specs.Portions.{total}

-- a halfsegment in range
abbrev pub Fair : Event → Type 0
Fair (At p) = Unit {0}
Fair (Side h) = T (segment_in_range h.segment)

abbrev pub step_of : Event → Event → Step
step_of a b = cond (same_event a b) OfBoth (cond (event_before a b) OfF OfG)

module _ (s : List ℕ) (sc : Scene) where
  -- the events that remain where i elements of F and j of G are taken
  abbrev pub remaining : ℕ → ℕ → List Taken
  remaining i j = merge (same s sc) (earlier s sc) (indices (sc.f.count - i) i) (indices (sc.g.count - j) j)

  -- where a walk stands after n events: with i elements of F and j of G taken
  pub record Standing (n i j : ℕ) : Type 0 where
    pub few_f : i ≤ sc.f.count
    pub few_g : j ≤ sc.g.count
    pub few : n ≤ total s sc
    pub rest : drop n (events s sc) ≡ remaining i j
