-- The object that is read of what was written is the same: its points in their order, exactly its segments, and so its bytes.
use Prim.Native.Nat.{ℕ, ◌^◌, ◌<◌}
use native.Mathlib.Omega.{arith}
use mathlib.Core.Path.{◌≡◌, refl, sym, ap, ap₂, subst, ◌∙◌}
use mathlib.Core.Bool.{false}
use mathlib.Core.List.{List, [], ◌∷◌, ◌++◌, map}
use lib.Dec.{T}
use lib.ListN.{length}
use Rattle.whole.specs.Count.{◌∈◌, here, there}
use Rattle.whole.proofs.Logic.{true_is, Sorted}
use Rattle.whole.proofs.Sorted.{Among, sorted_unique}
use Rattle.plane.specs.declared.Point.{Point}
use Rattle.plane.specs.declared.Segment.{Segment}
use Rattle.plane.specs.declared.Halfsegment.{Halfsegment}
use Rattle.plane.specs.Plane.{before, ordered, comes_before}
use Rattle.plane.proofs.Accepted.{Across, AllOrdered}
use Rattle.plane.proofs.Order.{comes_irreflexive, comes_trans}
use Rattle.scene.specs.declared.Shape.{Shape}
use Rattle.scene.specs.declared.Shape.TheVariants.{Points, Line, Region}
use Rattle.scene.specs.declared.Layout.{Layout}
use Rattle.scene.specs.Read.{point_at, place}
use Rattle.scene.specs.Conditions.{elements, is_region, segments, object}
use Rattle.scene.proofs.Taken.{layout}
use Rattle.scene_written.specs.Bytes.{bytes_of}
use Rattle.scene_written.specs.Arranged.{point_items, line_items, object_bytes}
use Rattle.scene_written.proofs.Arranging.{Halves, line_halves, points_as_given}
use Rattle.scene_written.proofs.Taken.{Writable}
use Rattle.check_verdict.proofs.Laws.{SoundObject, sound_object, points_sorted}
use Rattle.check_alone.proofs.Accepted.{accepted_again, accepted_writable}
use Rattle.wkb_rows.specs.Rows.{between, all_points, all_segments, points_of, segments_of}
use Rattle.wkb_rows.proofs.Gathered.{points_written, segments_read, segments_all}
use Rattle.wkb_writing.specs.ReadBack.{point_rows, segment_rows, ReadBack, WrittenReadBack}
use Rattle.wkb_writing.proofs.Halved.{two_items}
use Rattle.wkb_writing.proofs.FileBack.{points_file, segments_file, points_type, segments_type}

-- ---- the points, in their order

point_rows_lem : (l : List Point) → all_points (map point_rows l) ≡ l
point_rows_lem [] = refl
point_rows_lem (p ∷ l) = ap (λ (r : List Point). p ∷ r) (point_rows_lem l)

pub points_arranged : (l : List Point) → points_of (map point_rows l) ≡ point_items l
points_arranged l = points_written (map point_rows l) ∙ ap point_items (point_rows_lem l)

points_same : (l : List Point) → Sorted (λ p q. T (before p q)) l → points_of (map point_rows l) ≡ l
points_same l sorted = points_arranged l ∙ points_as_given l sorted

-- ---- exactly the segments

between_ends : (t : Segment) → T (ordered t) → between t.left t.right ≡ t ∷ []
unfolding ordered
between_ends t h = rw (true_is (before t.left t.right) h)

segment_rows_lem : (l : List Segment) → AllOrdered l → all_segments (map segment_rows l) ≡ l
segment_rows_lem [] ord = refl
segment_rows_lem (t ∷ l) ord =
    ap₂ (λ (a b : List Segment). ((a ++ []) ++ []) ++ b) (between_ends t (ord t here)) (segment_rows_lem l (λ u m. ord u (there m)))

pub segments_in : (l : List Segment) → AllOrdered l → Among (segments_of (map segment_rows l)) l
segments_in l ord t m = subst (λ (k : List Segment). t ∈ k) (segment_rows_lem l ord) (segments_read (map segment_rows l) t m)

pub in_segments : (l : List Segment) → AllOrdered l → Among l (segments_of (map segment_rows l))
in_segments l ord t m = segments_all (map segment_rows l) t (subst (λ (k : List Segment). t ∈ k) (sym (segment_rows_lem l ord)) m)

-- ---- segments that are the same, in whatever order, have the same halfsegments in 01's order

module _ {l m : List Segment} (ord : AllOrdered l) (apart : Across l l) (to : Among m l) (from : Among l m) where
  of_l : Halves l (line_items l)
  of_l = line_halves l ord apart

  of_m : Halves m (line_items m)
  of_m = line_halves m (λ t k. ord t (to t k)) (λ t u k n. apart t u (to t k) (to u n))

  own : (h : Halfsegment) → h ∈ line_items m → T (ordered h.segment)
  own h k = ord h.segment (to h.segment (of_m.of_list k))

  pub same_line : line_items m ≡ line_items l
  same_line =
      sorted_unique (λ h k. T (comes_before h k)) (λ h k i j a b. comes_irreflexive h (comes_trans h k h (own h i) (own k j) (own h i) a b)) of_m.in_order of_l.in_order
      (λ h k. of_l.both h.is_left (to h.segment (of_m.of_list k))) (λ h k. of_m.both h.is_left (from h.segment (of_l.of_list k)))

-- ---- so the bytes are the same

module _ (s : List ℕ) (start count : ℕ) where
  abbrev at : Shape → Layout
  at k = layout k start count

  back : (k : Shape) → is_region k ≡ false → SoundObject s (layout k start count) → Writable (object s (layout k start count))
      → object_bytes (object s (layout k start count)) ≡ s → ReadBack s (object s (layout k start count))
  unfolding object
  back Points e o w b = record {
    type = points_type l few;
    read = points_file l w.in_range_lem few;
    same = ap (λ (k : List Point). bytes_of Points (point_items k)) (points_same l sorted) ∙ b;
  }
    where
      l : List Point
      l = map (λ i. point_at s (place (at Points) i)) (elements (at Points))

      sorted : Sorted (λ p q. T (before p q)) l
      sorted = points_sorted o refl

      few : length l < 2 ^ 32
      few = omega (arith, w.few, ap (λ (k : List Point). length k) (points_as_given l sorted))
  back Line e o w b = record {
    type = segments_type (segments s (at Line)) few;
    read = segments_file (segments s (at Line)) w.in_range_lem few;
    same = ap (bytes_of Line) (same_line w.in_order w.apart (segments_in (segments s (at Line)) w.in_order) (in_segments (segments s (at Line)) w.in_order)) ∙ b;
  }
    where
      few : length (segments s (at Line)) < 2 ^ 32
      few = omega (arith, w.few, two_items o)
  back Region e o w b = cc

pub written_read_back : (s : List ℕ) → WrittenReadBack s
written_read_back s bytes l e flat =
    back s l.start l.count l.shape flat (sound_object s l e) (accepted_writable s l e) (accepted_again s bytes l e)
