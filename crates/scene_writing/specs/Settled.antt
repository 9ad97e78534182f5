-- The order in which the halves of segments are written: one after the other, each sinks from the back past those that it comes before. Two of which
-- neither comes before the other stay side by side, and both are kept.
use Rattle.std.specs.Prelude.{ℕ, ◌+◌, ◌<◌, ◌≤◌, ◌≡◌, T, Bool, true, false, cond, List, [], ◌∷◌, length, get_or, drop}
use Rattle.whole.specs.Count.{every}
use Rattle.plane.specs.declared.Segment.{Segment}
use Rattle.plane.specs.Plane.{comes_before}
use Rattle.scene.specs.declared.Shape.{Shape}
use Rattle.scene.specs.declared.Shape.TheVariants.{Points, Line, Region}
use Rattle.scene_written.specs.Bytes.{Edge, Item}
use Rattle.scene_written.specs.Arranged.{halves_of}

module _ {A : Type 0} (less : A → A → Bool) where
  -- before the longest tail of which it comes before every element; at the end, if there is none
  abbrev pub sink : A → List A → List A
  sink a [] = a ∷ []
  sink a (b ∷ l) = cond (every (less a) (b ∷ l)) (a ∷ b ∷ l) (b ∷ sink a l)

  -- where it goes: after k of them
  pub record Stops (d a : A) (l : List A) (k : ℕ) : Type 0 where
    pub within : k ≤ length l
    pub past : every (less a) (drop k l) ≡ true
    pub stop : (i : ℕ) → i + 1 ≡ k → less a (get_or l i d) ≡ false

  -- or after as many as low says, up to high: it comes before the one there, if there is one, and not before the one just below low
  pub record Between (d a : A) (l : List A) (low high : ℕ) : Type 0 where
    pub rises : low ≤ high
    pub within : high ≤ length l
    pub past : high < length l → T (less a (get_or l high d))
    pub stop : (i : ℕ) → i + 1 ≡ low → less a (get_or l i d) ≡ false

  -- those of a second list, one after the other, among those of the first
  abbrev pub settle : List A → List A → List A
  settle l [] = l
  settle l (a ∷ rest) = settle (sink a l) rest

-- both halves of each segment, with its ia
abbrev pub edges_of : List Segment → List Bool → List Edge
edges_of [] ias = []
edges_of (t ∷ l) [] = []
edges_of (t ∷ l) (b ∷ ias) =
    record { half = record { segment = t; is_left = true }; ia = b } ∷ record { half = record { segment = t; is_left = false }; ia = b } ∷ edges_of l ias

abbrev pub edge_before : Edge → Edge → Bool
edge_before e f = comes_before e.half f.half

-- a region has an ia for each of its segments
abbrev pub HasIa : Shape → List Segment → List Bool → Type 0
HasIa Points l ias = Unit {0}
HasIa Line l ias = Unit {0}
HasIa Region l ias = length ias ≡ length l

-- the elements of a line, or of a region, of these segments, as they are written
unfoldable pub settled_items : (k : Shape) → List Segment → List Bool → List (Item k)
settled_items Points l ias = []
settled_items Line l ias = settle comes_before [] (halves_of l)
settled_items Region l ias = settle edge_before [] (edges_of l ias)
