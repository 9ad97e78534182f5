-- What the sweep keeps from event to event. An event is a halfsegment: a left one begins its segment, a right one ends it. A strand is what an event
-- is about: a segment of one of the two objects, with its ia. `begun` and `ended` are the strands of the left and of the right events so far, and
-- `active` those begun and not yet ended, from low to high.
use Rattle.std.specs.Prelude.{◌+◌, ◌≡◌, ◌⊎◌, Bool, true, false, not, ◌&&◌, List, T}
use Rattle.std.specs.Bool.{beq}
use Rattle.whole.specs.Count.{◌∈◌, count, odd}
use Rattle.whole.proofs.Logic.{Sorted}
use Rattle.plane.specs.declared.Segment.{Segment}
use Rattle.plane.specs.Plane.{ordered, is_same_segment, touch}
use Rattle.sweep_laws.specs.Lower.{lower_at_left, under}

pub record Strand : Type 0 where
  -- of F
  pub first : Bool
  pub segment : Segment
  pub ia : Bool

-- a strand of F, or of G
abbrev pub is_of : Bool → Strand → Bool
is_of object b = beq object b.first

abbrev pub same_object : Strand → Strand → Bool
same_object a = is_of a.first

-- b passes under the beginning of a, and belongs to an object
abbrev pub under_of : Bool → Strand → Strand → Bool
under_of object a b = is_of object b && under a.segment b.segment

-- no strand of the object has the segment of a
abbrev pub NoneEqual : Bool → Strand → List Strand → Type 0
NoneEqual object a begun = (b : Strand) → b ∈ begun → is_of object b ≡ true → a.segment ≡ b.segment → ⊥

-- b is the same segment of the same object
abbrev pub own_equal : Strand → Strand → Bool
own_equal a b = same_object a b && is_same_segment a.segment b.segment

-- a is the lower of the two where the later one begins, or they are one segment of both objects
abbrev pub Lower : Strand → Strand → Type 0
Lower a b = (a.segment ≡ b.segment) ⊎ T (lower_at_left a.segment b.segment)

module _ (is_region : Bool → Bool) where
  pub record Kept (begun ended active : List Strand) : Type 0 where
    -- each strand that has begun is active or has ended
    pub counts : (f : Strand → Bool) → count f begun ≡ count f active + count f ended
    pub placed : (a : Strand) → a ∈ begun → (a ∈ active) ⊎ (a ∈ ended)
    pub active_begun : (a : Strand) → a ∈ active → a ∈ begun
    pub ended_begun : (a : Strand) → a ∈ ended → a ∈ begun
    pub sound : (a : Strand) → a ∈ begun → T (ordered a.segment)
    -- no object has a segment twice
    pub once : (a : Strand) → a ∈ begun → count (own_equal a) begun ≡ 1
    -- no strand that has ended touches another
    pub clear_ended : (a b : Strand) → a ∈ ended → b ∈ ended → touch a.segment b.segment ≡ false
    pub clear_active : (a b : Strand) → a ∈ ended → b ∈ active
        → (touch a.segment b.segment ≡ false) × (touch b.segment a.segment ≡ false)
    pub rising : Sorted Lower active
    -- the interior is above a region's segment where an even number of its own pass under the segment's beginning
    pub interior : (a : Strand) → a ∈ begun → T (is_region a.first) → odd (count (under_of a.first a) begun) ≡ not a.ia
