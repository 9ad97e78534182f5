-- How the events are laid: what the functions of the laying ask and promise.
use Rattle.std.specs.Prelude.{ℕ, ◌+◌, ◌*◌, ◌<◌, ◌≤◌, ◌≡◌, List, length}
use Rattle.scene.specs.declared.Scene.{Scene}
use Rattle.scene_keys.specs.Keyed.{top, element_point, keys, next_key}
use Rattle.flags_meetings.specs.Met.{degree}
use Rattle.flags_meetings.specs.Keyed.{Passed}
use Rattle.walk_events.specs.Stepping.{Standing}
use Rattle.walk_flags.specs.declared.Degrees.{Degrees}
use Rattle.walk.specs.declared.laying.Place.{Place}
use Rattle.walk.specs.declared.laying.Ends.{Ends}
use Rattle.walk.specs.Ground.{laid_first}

module _ (s : List ℕ) (sc : Scene) where
  -- these are the degrees of the point of an element of F, and of G
  abbrev pub TrueOfF : ℕ → Degrees → Type 0
  TrueOfF i d = (d.f ≡ degree s sc.f (element_point s sc.f i)) × (d.g ≡ degree s sc.g (element_point s sc.f i))

  abbrev pub TrueOfG : ℕ → Degrees → Type 0
  TrueOfG j d = (d.f ≡ degree s sc.f (element_point s sc.g j)) × (d.g ≡ degree s sc.g (element_point s sc.g j))

  -- a point: all that is before `at` has lower keys, and what follows up to `to` are all elements that have it
  pub record PointFrom (at : Place) (to : Ends) : Type 0 where
    pub key : ℕ
    pub low : key < top
    pub few_f : to.i ≤ sc.f.count
    pub few_g : to.j ≤ sc.g.count
    pub least_f : key ≤ next_key s sc.f at.i
    pub least_g : key ≤ next_key s sc.g at.j
    pub f_run : Passed sc.f.count (keys s sc.f) key at.i to.i
    pub g_run : Passed sc.g.count (keys s sc.g) key at.j to.j
    pub f_passed : (m : ℕ) → m < at.i → keys s sc.f m < key
    pub g_passed : (m : ℕ) → m < at.j → keys s sc.g m < key

  -- within a point with these degrees
  pub record PointAt (d : Degrees) (at : Place) (to : Ends) : Type 0 where
    pub key : ℕ
    pub few_f : to.i ≤ sc.f.count
    pub few_g : to.j ≤ sc.g.count
    pub on_f : at.i ≤ to.i
    pub on_g : at.j ≤ to.j
    pub f_here : (m : ℕ) → at.i ≤ m → m < to.i → (keys s sc.f m ≡ key) × TrueOfF m d
    pub g_here : (m : ℕ) → at.j ≤ m → m < to.j → (keys s sc.g m ≡ key) × TrueOfG m d
    pub f_beyond : key < next_key s sc.f to.i
    pub g_beyond : key < next_key s sc.g to.j

  -- the elements of one object that are left at a point, before all that is left of the other
  pub record RestOfF (d : Degrees) (at : Place) (to : ℕ) : Type 0 where
    pub on : at.i ≤ to
    pub few : to ≤ sc.f.count
    pub other : at.j ≤ sc.g.count
    pub first : (m : ℕ) → at.i ≤ m → m < to → (keys s sc.f m < next_key s sc.g at.j) × TrueOfF m d

  pub record RestOfG (d : Degrees) (at : Place) (to : ℕ) : Type 0 where
    pub on : at.j ≤ to
    pub few : to ≤ sc.g.count
    pub other : at.i ≤ sc.f.count
    pub first : (m : ℕ) → at.j ≤ m → m < to → (keys s sc.g m < next_key s sc.f at.i) × TrueOfG m d

-- four bytes for each element, and no more events than elements
pub record Room (sc : Scene) (at : Place) (g : List ℕ) : Type 0 where
  pub room : 4 * (sc.f.count + sc.g.count) ≤ length g
  pub few : at.events ≤ at.i + at.j

-- one event more, of one element or of one of each
pub record OneMore (from to : Place) : Type 0 where
  pub events : to.events ≡ from.events + 1
  pub on_f : from.i ≤ to.i
  pub on_g : from.j ≤ to.j
  pub most_f : to.i ≤ from.i + 1
  pub most_g : to.j ≤ from.j + 1
  pub some : from.i + from.j < to.i + to.j

pub record Between (from at : Place) (to : Ends) : Type 0 where
  pub on_f : from.i ≤ at.i
  pub on_g : from.j ≤ at.j
  pub upto_f : at.i ≤ to.i
  pub upto_g : at.j ≤ to.j

module _ (s : List ℕ) (sc : Scene) (notes : List ℕ) where
  -- so many events are laid in a buffer
  pub record Laid (before : List ℕ) (at : Place) (g : List ℕ) : Type 0 where
    pub stands : Standing s sc at.events at.i at.j
    pub laid : g ≡ laid_first s sc notes at.events before

  -- from one place to another, whatever the buffer was before all
  abbrev pub Lays : (from : Place) (old : List ℕ) (to : Place) (new : List ℕ) → Type 0
  Lays from old to new = (before : List ℕ) → Laid before from old → Laid before to new
