-- Every good summary is the summary of some accepted object: the elements that have it, written out, are taken and read back as they are. With what is proved
-- of records made from accepted objects, a byte string is a good summary exactly if some accepted object has it.
use Rattle.std.specs.Prelude.{Ok}
use Prim.Native.Nat.{ℕ, zero, suc, ◌*◌, ◌<◌, ◌≤◌}
use native.Mathlib.Omega.{arith}
use mathlib.Core.Path.{◌≡◌, refl, sym, ap, ◌∙◌}
use mathlib.Core.Bool.{not}
use mathlib.Core.List.{List, [], ◌∷◌}
use lib.ListN.{length}
use lib.Dec.{T}
use Rattle.whole.specs.Count.{◌∈◌, here, there}
use Rattle.whole.proofs.Logic.{and_make, true_is}
use Rattle.plane.specs.declared.Point.{Point}
use Rattle.plane.specs.declared.Segment.{Segment}
use Rattle.plane.specs.Plane.{in_range, segment_in_range, Object}
use Rattle.scene.specs.declared.Shape.TheVariants.{Region}
use Rattle.scene.specs.declared.Layout.{Layout}
use Rattle.scene.specs.Read.{byte, most}
use Rattle.scene.specs.Conditions.{check_object}
use Rattle.scene_written.specs.Bytes.{AreBytes}
use Rattle.scene_written.specs.Arranged.{line_items, object_bytes}
use Rattle.scene_written.proofs.AreBytes.{object_bytes_lem}
use Rattle.scene_written.proofs.ReadBack.{stands_whole}
use Rattle.scene_written.proofs.Arranging.{points_length, line_length}
use Rattle.scene_written.proofs.Taken.{Writable, split_writable, regular_writable, layout_of, object_taken, points_back, line_back, region_back}
use Rattle.flags.specs.Flags.{Edge, Elements, outline, object}
use Rattle.flags.specs.Elements.{points_of, edges}
use Rattle.flags.proofs.Elements.{outline_edges}
use Rattle.cells_matrix.proofs.Theorem.{Good}
use Rattle.summary.specs.declared.Summary.{Summary}
use Rattle.summary.specs.Summary.{ends, corners, box_of, none, summary_of, is_good, summary_at, bytes_of, good_bytes}
use Rattle.summary.proofs.Clear.{left_in, right_in}
use Rattle.summary.proofs.Made.{AllInRange, Listed}
use Rattle.summary.proofs.Found.{good_made}
use Rattle.summary.proofs.Bytes.{good_summary, record_again}
use Rattle.summary_objects.specs.Objects.{summary_in, OnlyMade, GoodExactlyIfMade}
use Rattle.summary_objects.proofs.Told.{never_bad}

-- ---- elements can be written

ends_length : (l : List Segment) → length (ends l) ≡ 2 * length l
ends_length [] = refl
ends_length (t ∷ l) = let h = ends_length l in omega arith

segments_in_range : (l : List Segment) → AllInRange (ends l) → (t : Segment) → t ∈ l → T (segment_in_range t)
segments_in_range l h t m = and_make (in_range t.left) (in_range t.right) (h t.left (left_in m)) (h t.right (right_in m))

few_halves : (l : List Segment) → length (ends l) ≤ most → length (line_items l) ≤ most
few_halves l h = omega (arith, h, ends_length l, line_length l)

writable : (e : Elements) → Good e → AllInRange (corners e) → length (corners e) ≤ most → Writable (object e)
writable (Elements.points l) g r few = record { in_range_lem = r; few = omega (arith, few, points_length l) }
writable (Elements.line l) g r few = split_writable l (segments_in_range l r) g (few_halves l few)
writable (Elements.region l) g r few = regular_writable (outline l) (segments_in_range (outline l) r) g.regular (few_halves (outline l) few)

-- ---- and are read back with the same summary

-- a region's, by its segments alone
abbrev of_outline : List Segment → Summary
of_outline l = record { shape = Region; empty = none l; bounds = box_of (ends l); boundary = not (none l) }

by_outline : (l : List Edge) → summary_of (Elements.region l) ≡ of_outline (outline l)
by_outline [] = refl
by_outline (e ∷ l) = refl

same_summary : (e : Elements) → Listed e → (w : Writable (object e)) → summary_in (object_bytes (object e)) (layout_of (object e) 0) ≡ summary_of e
unfolding points_of
same_summary (Elements.points l) sorted w = ap (λ (k : List Point). summary_of (Elements.points k)) (points_back s 0 l w (stands_whole s) sorted)
  where
    s : List ℕ
    s = object_bytes (Object.points l)
same_summary (Elements.line l) sorted w = ap (λ (k : List Segment). summary_of (Elements.line k)) (line_back s 0 l w (stands_whole s) sorted)
  where
    s : List ℕ
    s = object_bytes (Object.line l)
same_summary (Elements.region l) sorted w =
    by_outline (edges s lay) ∙ ap of_outline (outline_edges s lay ∙ region_back s 0 (outline l) w (stands_whole s) sorted) ∙ sym (by_outline l)
  where
    s : List ℕ
    s = object_bytes (Object.region (outline l))

    lay : Layout
    lay = layout_of (Object.region (outline l)) 0

-- ---- the theorem

pub record FoundFor (s : Summary) : Type 0 where
  pub bytes : List ℕ
  pub layout : Layout
  pub are_bytes : AreBytes bytes
  pub accepted : check_object bytes ≡ Ok layout
  pub same : summary_in bytes layout ≡ s

pub found : (s : Summary) → T (is_good s) → FoundFor s
found s g =
    let m = good_made s g in
    let w = writable m.of m.good m.in_range_lem m.few in
    record {
      bytes = object_bytes (object m.of);
      layout = layout_of (object m.of) 0;
      are_bytes = object_bytes_lem (object m.of);
      accepted = object_taken (object m.of) w;
      same = same_summary m.of m.listed w ∙ m.same;
    }

byte_below : (r : List ℕ) → AreBytes r → (i : ℕ) → byte r i < 256
byte_below [] h i = omega arith
byte_below (n ∷ r) h zero = h n here
byte_below (n ∷ r) h (suc i) = byte_below r (λ k m. h k (there m)) i

pub only_made : (r : List ℕ) → OnlyMade r
only_made r bytes g =
    let e = true_is (good_bytes r) g in
    let f = found (summary_at r 0) (good_summary r e) in
    (record { object = f.bytes; layout = f.layout; accepted = f.accepted; is = ap bytes_of f.same ∙ record_again r (byte_below r bytes) e }, f.are_bytes)

pub good_exactly_if_made : (r : List ℕ) → GoodExactlyIfMade r
good_exactly_if_made r = (never_bad r, only_made r)
