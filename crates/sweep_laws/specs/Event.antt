-- One event of the sweep: a left halfsegment begins its segment, a right one ends it. What is tested of it at a place in the status, what it then does to
-- the entries, and what must hold of them so that it can. The status holds the offsets of the records of active left halfsegments, from low to high.
use Rattle.std.specs.Prelude.{ℕ, suc, ◌<◌, ◌≤◌, ◌≡◌, Bool, true, false, not, ◌&&◌, ◌||◌, List, T, length, get_or, take}
use Rattle.std.specs.Bool.{beq}
use Rattle.whole.specs.Count.{bit, odd, count}
use Rattle.plane.specs.declared.Point.{Point}
use Rattle.plane.specs.Plane.{is_same_point, is_same_segment}
use Rattle.scene.specs.declared.Scene.{Scene}
use Rattle.scene.specs.Read.{segment_at, ia_at, place}
use Rattle.scene.specs.Conditions.{is_region}
use Rattle.sweep_laws.specs.Lower.{passes_under, passes_over, lower_at_right}
use Rattle.sweep_laws.specs.Kept.{Strand, same_object}
use Rattle.sweep_laws.specs.Status.{AtPlace, BelowPlace, inserted, removed}
use Rattle.sweep_laws.specs.Swept.{slot, object_of, strand_of, is_first, strand_at, is_beginning}

-- ---- what is tested of entries

-- a place for p among the entries: the entry there passes over p, and the one just below does not
pub record Place (s entries : List ℕ) (p : Point) (k : ℕ) : Type 0 where
  pub within : k ≤ length entries
  pub over_it : AtPlace entries k (λ e. T (passes_over (segment_at s e) p))
  pub not_below : BelowPlace entries k (λ e. passes_over (segment_at s e) p ≡ false)

-- a place for p among the entries is from low to high: the entry at high, if there is one, passes over p, and the one just below low does not
pub record Bracket (s entries : List ℕ) (p : Point) (low high : ℕ) : Type 0 where
  pub rises : low ≤ high
  pub within : high ≤ length entries
  pub over_it : AtPlace entries high (λ e. T (passes_over (segment_at s e) p))
  pub not_below : BelowPlace entries low (λ e. passes_over (segment_at s e) p ≡ false)

-- e can stand just below f: it is the lower of the two at the right
abbrev pub LowerNext : List ℕ → ℕ → ℕ → Type 0
LowerNext s e f = T (lower_at_right (segment_at s e) (segment_at s f))

-- where the entry at k goes, its neighbours can become neighbours
abbrev pub CanMeet : List ℕ → List ℕ → ℕ → Type 0
CanMeet s entries k = BelowPlace entries k (λ e. AtPlace entries (suc k) (LowerNext s e))

-- b belongs under a, which begins: it passes under a's left end, or begins there and turns left into a, or is a's equal of the other object
abbrev pub under_beginning : Strand → Strand → Bool
under_beginning a b =
    passes_under b.segment a.segment.left
    || (is_same_point b.segment.left a.segment.left && passes_under b.segment a.segment.right)
    || (is_same_segment b.segment a.segment && not (same_object a b))

-- an odd number of the entries are of the object
abbrev pub odd_of : List ℕ → Scene → Bool → List ℕ → Bool
odd_of s sc object entries = odd (count (λ e. beq object (is_first s sc e)) entries)

module _ (s : List ℕ) (sc : Scene) (first : Bool) (at : ℕ) where
  -- ---- the left halfsegment at an offset begins its segment

  -- the entry e can stand just below it
  abbrev pub FitsOver : ℕ → Type 0
  FitsOver e = T (under_beginning (strand_of s sc first at) (strand_at s sc e)) × LowerNext s e at

  -- a region's interior is above it where an even number of the region's own pass under it
  abbrev pub RightIa : Bool → Type 0
  RightIa oddBelow = T (is_region (object_of s sc first).shape) → oddBelow ≡ not (ia_at s at)

  -- it can stand at a place
  pub record FitsAt (old : List ℕ) (k : ℕ) : Type 0 where
    pub over : BelowPlace old k FitsOver
    pub under : AtPlace old k (LowerNext s at)
    pub right_ia : RightIa (odd_of s sc first (take k old))

  pub record Began (old new : List ℕ) (note : ℕ) : Type 0 where
    pub position : ℕ
    pub at_place : Place s old (segment_at s at).left position
    pub fits : FitsAt old position
    pub new_is : new ≡ inserted position at old
    -- 1 where an odd number of the other object stand below it
    pub noted : note ≡ bit (odd_of s sc (not first) (take position old))

  -- whatever place is found for it
  abbrev pub CanBegin : List ℕ → Type 0
  CanBegin old = (k : ℕ) → Place s old (segment_at s at).left k → FitsAt old k

  -- ---- the right halfsegment at an offset ends its segment

  -- its entry is the one at k, and all above that, up to the place top, are its equals
  pub record OwnAt (old : List ℕ) (top k : ℕ) : Type 0 where
    pub below : k < top
    pub own : strand_at s sc (get_or old k 0) ≡ strand_of s sc first at
    pub equals : (i : ℕ) → k < i → i < top → segment_at s (get_or old i 0) ≡ segment_at s at

  pub record Ended (old notes new : List ℕ) (note : ℕ) : Type 0 where
    pub position : ℕ
    pub top : ℕ
    pub at_place : Place s old (segment_at s at).right top
    pub found : OwnAt old top position
    pub meeting : CanMeet s old position
    pub new_is : new ≡ removed position old
    -- that of the element that began it
    pub noted : (k : ℕ) → get_or old position 0 ≡ place (object_of s sc first) k → note ≡ get_or notes (slot first k) 0

  pub record EndsAt (old : List ℕ) (top : ℕ) : Type 0 where
    pub position : ℕ
    pub found : OwnAt old top position
    pub meeting : (k : ℕ) → OwnAt old top k → CanMeet s old k

  -- whatever place is found for it
  abbrev pub CanEnd : List ℕ → Type 0
  CanEnd old = (top : ℕ) → Place s old (segment_at s at).right top → EndsAt old top

-- ---- the element k of an object

module _ (s : List ℕ) (sc : Scene) (first : Bool) (k : ℕ) where
  -- what it does to the entries, and its note
  pub data Taken (notes old new : List ℕ) (note : ℕ) : Type 0 where
    it_began : is_beginning s sc first k ≡ true → Began s sc first (place (object_of s sc first) k) old new note → Taken notes old new note
    it_ended : is_beginning s sc first k ≡ false → Ended s sc first (place (object_of s sc first) k) old notes new note → Taken notes old new note

  pub record CanTake (old : List ℕ) : Type 0 where
    pub can_begin : is_beginning s sc first k ≡ true → CanBegin s sc first (place (object_of s sc first) k) old
    pub can_end : is_beginning s sc first k ≡ false → CanEnd s sc first (place (object_of s sc first) k) old
