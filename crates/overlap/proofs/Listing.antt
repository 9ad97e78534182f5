-- The bytes of the segments from a place in each region on: all of them from the start, and as many as there are segments.
use Prim.Native.Nat.{ℕ, ◌*◌, ◌≤◌}
use native.Mathlib.Omega.{arith}
use mathlib.Core.Path.{◌≡◌, refl, ap, ap₂, ◌∙◌}
use mathlib.Core.List.{List, map}
use lib.Dec.{T}
use lib.ListN.{length, length-map}
use Rattle.scene.specs.declared.Shape.{Shape}
use Rattle.scene.specs.declared.Shape.TheVariants.{Points, Line, Region}
use Rattle.scene.specs.declared.Layout.{Layout}
use Rattle.scene.specs.Read.{size, after, IsObject}
use Rattle.scene.specs.Conditions.{is_region, segments}
use Rattle.scene_segments.proofs.Walk.{object_fits}
use Rattle.flags.specs.Elements.{edges}
use Rattle.flags.proofs.Elements.{outline_edges}
use Rattle.overlap.specs.Bytes.{merge, byte_of, overlap_bytes}
use Rattle.overlap.specs.Walked.{merged_from}
use Rattle.overlap.proofs.Merging.{from_start}

-- a region's records take 19 bytes each
region_size : (k : Shape) → T (is_region k) → size k ≡ 19
region_size Points r = absurd r
region_size Line r = absurd r
region_size Region r = refl

pub few : (s : List ℕ) (l : Layout) → IsObject s l → T (is_region l.shape) → 19 * l.count ≤ length s
few s l is r = let h : after l ≤ length s = object_fits s l is in omega (arith, rw (region_size l.shape r) at h)

module _ (s : List ℕ) (f g : Layout) where
  abbrev pub all_bytes : List ℕ
  all_bytes = overlap_bytes (edges s f) (edges s g)

  abbrev pub bytes_from : ℕ → ℕ → List ℕ
  bytes_from i j = map (byte_of (edges s f) (edges s g)) (merged_from s f g i j)

  whole : merge (segments s f) (segments s g) ≡ merged_from s f g 0 0
  whole = ap₂ merge (from_start s f) (from_start s g)

  pub bytes_start : all_bytes ≡ bytes_from 0 0
  unfolding overlap_bytes
  bytes_start = ap (map (byte_of (edges s f) (edges s g))) (ap₂ merge (outline_edges s f) (outline_edges s g) ∙ whole)

  pub count_start : length all_bytes ≡ length (merged_from s f g 0 0)
  count_start = ap length bytes_start ∙ length-map (merged_from s f g 0 0) (byte_of (edges s f) (edges s g))
