-- Segments that are written as a region with any ia, where 01's checks accept it: then the ia are condition 14's of these segments.
use Rattle.std.specs.Prelude.{Ok}
use Prim.Native.Nat.{ℕ, ◌*◌, ◌≤◌}
use mathlib.Core.Path.{◌≡◌, refl, sym, ap, ap₂, subst, ◌∙◌}
use mathlib.Core.Bool.{Bool, true, not, ◌&&◌, ◌||◌}
use mathlib.Core.List.{List, [], map}
use lib.ListN.{length}
use Rattle.whole.specs.Count.{eq_z, odd, count, ◌∈◌}
use Rattle.whole.proofs.Parity.{odd_count}
use Rattle.plane.specs.declared.Segment.{Segment}
use Rattle.plane.specs.declared.Halfsegment.{Halfsegment}
use Rattle.plane.specs.Plane.{midpoint, counts_below, counts_below_left, interior_above}
use Rattle.plane.proofs.Order.{half_of}
use Rattle.scene.specs.declared.Shape.TheVariants.{Line, Region}
use Rattle.scene.specs.declared.Layout.{Layout}
use Rattle.scene.specs.Read.{place}
use Rattle.scene.specs.Conditions.{elements, half, segments, check_object}
use Rattle.scene.proofs.Taken.{layout}
use Rattle.scene.proofs.Indices.{in_element, map_same}
use Rattle.check_verdict.proofs.Laws.{SoundObject, sound_object, all_ordered, split, ia_is}
use Rattle.scene_written.specs.Bytes.{Edge, item_at, GoodSegment, bytes_of}
use Rattle.scene_written.specs.Arranged.{halves_of, edge_of, line_items}
use Rattle.scene_written.proofs.Arranging.{Halves, line_halves}
use Rattle.scene_written.proofs.Judged.{Once, same_parity}
use Rattle.scene_written.proofs.ReadBack.{stands_whole}
use Rattle.scene_writing.specs.Settled.{settle, edge_before, settled_items}
use Rattle.scene_writing.proofs.InOrder.{edges_of_lem}
use Rattle.scene_writing.proofs.Settling.{settle_map}
use Rattle.scene_writing.proofs.SettledBack.{line_both, line_in, region_halves, settled_elements}
use Rattle.check_alone.proofs.Accepted.{map_twice, halves_again}

module _ (l : List Segment) (good : (t : Segment) → t ∈ l → GoodSegment t) (few : length l ≤ 512) (once : Once l) (ia : List Bool) (many : length ia ≡ length l) where
  abbrev pub written : List ℕ
  written = bytes_of Region (settled_items Region l ia)

  abbrev pub its_layout : Layout
  its_layout = layout Region 0 (2 * length l)

  -- the right ia, of the halves as they are written
  right_edges : settled_items Region l (map (interior_above l) l) ≡ map (edge_of l) (settled_items Line l ia)
  unfolding settled_items
  right_edges = ap (settle edge_before []) (sym (edges_of_lem (interior_above l) l)) ∙ sym (settle_map (edge_of l) edge_before [] (halves_of l))

  module _ (o : SoundObject written its_layout) where
    abbrev read : List Segment
    read = segments written its_layout

    items_read : map (λ i. item_at Region written (place its_layout i)) (elements its_layout) ≡ settled_items Region l ia
    items_read = settled_elements Region refl l ia many good few written 0 (stands_whole written)

    halves_read : map (half written its_layout) (elements its_layout) ≡ settled_items Line l ia
    halves_read =
        sym (map_twice (λ i. item_at Region written (place its_layout i)) (λ (e : Edge). e.half) (elements its_layout))
        ∙ ap (map (λ (e : Edge). e.half)) items_read ∙ region_halves l ia many

    -- ---- what is read are these segments

    lines_read : line_items read ≡ settled_items Line l ia
    lines_read = halves_again o refl ∙ halves_read

    both : Halves read (line_items read)
    both = line_halves read (all_ordered o) (split o).apart

    among : (t : Segment) → t ∈ l → t ∈ read
    among t m = both.of_list (subst (λ (hs : List Halfsegment). half_of true t ∈ hs) (sym lines_read) (line_both l ia true m))

    no_other : (t : Segment) → t ∈ read → t ∈ l
    no_other t m = line_in l ia (subst (λ (hs : List Halfsegment). half_of true t ∈ hs) lines_read (both.both true m))

    as_odd : (f : Segment → Bool) → odd (count f read) ≡ odd (count f l)
    as_odd f = odd_count f read ∙ same_parity read l (split o).once once no_other among f ∙ sym (odd_count f l)

    same_interior : (t : Segment) → interior_above read t ≡ interior_above l t
    unfolding interior_above
    same_interior t =
        ap₂ (λ (a b : Bool). (eq_z t.left.x t.right.x && a) || (not (eq_z t.left.x t.right.x) && not b)) (as_odd (counts_below_left (midpoint t))) (as_odd (counts_below (midpoint t)))

    -- ---- so their ia are right

    edges_read : settled_items Region l ia ≡ map (edge_of read) (settled_items Line l ia)
    edges_read =
        sym items_read
        ∙ map_same (λ i. item_at Region written (place its_layout i)) (λ i. edge_of read (half written its_layout i)) (elements its_layout)
        (λ i m. ap (λ (b : Bool). let e : Edge = record { half = half written its_layout i; ia = b } in e) (ia_is o refl i (in_element its_layout i m)))
        ∙ sym (map_twice (half written its_layout) (edge_of read) (elements its_layout)) ∙ ap (map (edge_of read)) halves_read

    are_right : settled_items Region l ia ≡ settled_items Region l (map (interior_above l) l)
    are_right =
        edges_read
        ∙ map_same (edge_of read) (edge_of l) (settled_items Line l ia) (λ h m. ap (λ (b : Bool). let e : Edge = record { half = h; ia = b } in e) (same_interior h.segment))
        ∙ sym right_edges

  pub right_ia : check_object written ≡ Ok its_layout → settled_items Region l ia ≡ settled_items Region l (map (interior_above l) l)
  right_ia e = are_right (sound_object written its_layout e)
