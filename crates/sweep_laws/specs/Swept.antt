-- The events of a scene, read from its bytes: the strand of each, their order, and the conditions that the sweep decides.
use Rattle.std.specs.Prelude.{None}
use Rattle.std.specs.Prelude.{ℕ, zero, suc, ◌+◌, ◌<◌, ◌≡◌, Bool, true, false, not, ◌&&◌, ◌||◌, cond, List, [], ◌∷◌, T, ltb}
use Rattle.std.specs.Bool.{beq}
use Rattle.plane.specs.Plane.{comes_before}
use Rattle.scene.specs.declared.Layout.{Layout}
use Rattle.scene.specs.declared.Scene.{Scene}
use Rattle.scene.specs.Read.{segment_at, halfsegment_at, ia_at, place, turned, given_second}
use Rattle.scene.specs.Conditions.{has_segments, is_region, out_of_order, unpaired, touching_itself, odd_end, wrong_ia, touching_across}
use Rattle.sweep_laws.specs.Kept.{Strand}

-- where the note of an element stands: those of F first, and 1,024 further on those of G
abbrev pub slot : Bool → ℕ → ℕ
slot true k = k
slot false k = 1024 + k

module _ (s : List ℕ) (sc : Scene) where
  abbrev pub object_of : Bool → Layout
  object_of first = cond first sc.f sc.g

  -- the strand of the record at an offset, of F or not: by the place where the bytes change from one object to the other
  abbrev pub strand_of : Bool → ℕ → Strand
  strand_of first at =
      record { first = first; segment = segment_at s at; ia = is_region (object_of first).shape && ia_at s at }

  abbrev pub is_first : ℕ → Bool
  is_first at = not (beq (ltb at (given_second sc).start) (turned sc))

  abbrev pub strand_at : ℕ → Strand
  strand_at at = strand_of (is_first at) at

  -- ---- the strands begun and ended by the first elements of an object, and of both

  abbrev pub is_beginning : Bool → ℕ → Bool
  is_beginning first i = (halfsegment_at s (place (object_of first) i)).is_left

  abbrev pub strands_by : Bool → Bool → ℕ → List Strand
  strands_by begins first zero = []
  strands_by begins first (suc i) =
      cond (beq (is_beginning first i) begins) (strand_of first (place (object_of first) i) ∷ strands_by begins first i) (strands_by begins first i)

  -- ---- the order of events

  -- how many events an object has
  abbrev pub total : Bool → ℕ
  total first = cond (has_segments (object_of first).shape) (object_of first).count 0

  -- F's next event comes where G has none left, or where G's next halfsegment does not come before F's
  abbrev pub takes_first : ℕ → ℕ → Bool
  takes_first i j =
      ltb i (total true) && (not (ltb j (total false)) || not (comes_before (halfsegment_at s (place sc.g j)) (halfsegment_at s (place sc.f i))))

  -- the entry is the record of a halfsegment of its object, whole, in range and ordered
  pub record Entry (at : ℕ) : Type 0 where
    pub index : ℕ
    pub within : index < (object_of (is_first at)).count
    pub has_segments_lem : T (has_segments (object_of (is_first at)).shape)
    pub is_place : at ≡ place (object_of (is_first at)) index

-- ---- the conditions

-- 10 finds no fault in either object
abbrev pub InOrder : List ℕ → Scene → Type 0
InOrder s sc = (first : Bool) → out_of_order s (object_of s sc first) ≡ None

-- 11 to 15 find none
pub record Passes (s : List ℕ) (sc : Scene) : Type 0 where
  pub paired : (first : Bool) → unpaired s (object_of s sc first) ≡ None
  pub apart : (first : Bool) → touching_itself s (object_of s sc first) ≡ None
  pub even : (first : Bool) → odd_end s (object_of s sc first) ≡ None
  pub right_ia : (first : Bool) → wrong_ia s (object_of s sc first) ≡ None
  pub across : touching_across s sc ≡ None
