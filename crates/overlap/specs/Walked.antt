-- What the walk over the different segments of two regions promises: the segments from an element on, and the next of both objects, with its sides and
-- with its byte.
use Rattle.std.specs.Prelude.{ℕ, ◌+◌, ◌-◌, ◌*◌, ◌<◌, ◌≡◌, List, [], ◌∷◌, map, T, Option, Some, None}
use Rattle.whole.specs.Count.{bit}
use Rattle.plane.specs.declared.Segment.{Segment}
use Rattle.plane.specs.Plane.{segment_in_range}
use Rattle.scene.specs.declared.Layout.{Layout}
use Rattle.scene.specs.declared.Scene.{Scene}
use Rattle.scene.specs.Conditions.{indices, keep, is_region, half, left_test}
use Rattle.check_verdict.proofs.Laws.{SoundScene}
use Rattle.flags.specs.Flags.{Edge}
use Rattle.flags.specs.Elements.{edges}
use Rattle.overlap.specs.declared.adjoining.Sides.{Sides}
use Rattle.overlap.specs.Bytes.{merge, adjoins_below, adjoins_above, byte_of}
use Rattle.overlap.specs.declared.walk.Sided.{Sided}

-- the segments of the elements from i on
unfoldable pub segments_from : List ℕ → Layout → ℕ → List Segment
segments_from s l i = map (λ k. (half s l k).segment) (keep (left_test s l) (indices (l.count - i) i))

module _ (s : List ℕ) (f g : Layout) where
  abbrev pub merged_from : ℕ → ℕ → List Segment
  merged_from i j = merge (segments_from s f i) (segments_from s g j)

  -- the segment t comes next, and what follows it is left from the elements k and m on
  pub record NextIs (i j : ℕ) (t : Segment) (k m : ℕ) : Type 0 where
    pub merged : merged_from i j ≡ t ∷ merged_from k m
    pub in_range_lem : T (segment_in_range t)
    pub further : i + j < k + m

-- ---- with its sides and its byte, by the sweep's notes

abbrev pub TwoRegions : List ℕ → Scene → Type 0
TwoRegions s sc = SoundScene s sc × T (is_region sc.f.shape) × T (is_region sc.g.shape)

-- the sides where a region's interior adjoins the segment
abbrev pub SidesAre : Sides → List Edge → Segment → Type 0
SidesAre x R t = (x.below ≡ adjoins_below R t) × (x.above ≡ adjoins_above R t)

-- the byte of a segment by the sides of the two regions
abbrev pub coded : Sides → Sides → ℕ
coded x y = 3 * (bit x.below + bit y.below) + (bit x.above + bit y.above)

module _ (s : List ℕ) (f g : Layout) where
  pub record NextSides (i j : ℕ) (t : Segment) (x y : Sides) (k m : ℕ) : Type 0 where
    pub next : NextIs s f g i j t k m
    pub of_f_lem : SidesAre x (edges s f) t
    pub of_g_lem : SidesAre y (edges s g) t

  abbrev pub SidesStepped : ℕ → ℕ → Option Sided → ℕ → ℕ → Type 0
  SidesStepped i j (Some n) k m = NextSides i j n.segment n.of_f n.of_g k m
  SidesStepped i j None k m = merged_from s f g i j ≡ []

  pub record NextByte (i j b k m : ℕ) : Type 0 where
    pub segment : Segment
    pub next : NextIs s f g i j segment k m
    pub byte : b ≡ byte_of (edges s f) (edges s g) segment
