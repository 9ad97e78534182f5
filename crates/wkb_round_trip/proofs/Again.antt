-- What is written is read back as the same bytes: nothing of the reader's refusals applies to it.
use Rattle.std.specs.Prelude.{Ok, Err}
use Prim.Native.Nat.{ℕ, ◌≤◌}
use native.Mathlib.Omega.{arith}
use mathlib.Core.Path.{◌≡◌, refl, sym, ap, subst, ◌∙◌}
use mathlib.Core.Bool.{Bool, false, cond}
use mathlib.Core.List.{List, [], map}
use lib.Dec.{T}
use lib.ListN.{length, take, drop}
use lib.Seq.{take_at}
use borrow.Author.Tests.{le-ltb}
use Rattle.whole.proofs.Logic.{Sorted, sorted_nil, sorted_cons}
use Rattle.plane.specs.declared.Point.{Point}
use Rattle.plane.specs.declared.Segment.{Segment}
use Rattle.plane.specs.Plane.{Object, points, line, region}
use Rattle.plane.proofs.Accepted.{Across, AllOrdered}
use Rattle.scene.specs.declared.Shape.{Shape}
use Rattle.scene.specs.declared.Shape.TheVariants.{Points, Line, Region}
use Rattle.scene.specs.declared.Layout.{Layout}
use Rattle.scene.specs.Read.{most}
use Rattle.scene.specs.Conditions.{is_region, object, check_object}
use Rattle.scene.proofs.Taken.{layout}
use Rattle.scene_written.specs.Bytes.{bytes_of}
use Rattle.scene_written.specs.Arranged.{line_items, object_bytes}
use Rattle.scene_written.proofs.Arranging.{points_as_given}
use Rattle.scene_written.proofs.Taken.{Writable, GoodPoints, GoodSegments}
use Rattle.scene_writing.specs.Settled.{settled_items}
use Rattle.scene_writing.proofs.InOrder.{settled_line_sorted, settled_line}
use Rattle.scene_writing.proofs.SettledBack.{settled_length}
use Rattle.check_alone.proofs.Accepted.{accepted_writable}
use Rattle.wkb_grammar.specs.Fields.{type_at}
use Rattle.wkb_grammar.specs.Grammar.{Read, got, Row, file}
use Rattle.wkb_rows.specs.Rows.{segment_before, points_of, segments_of}
use Rattle.wkb_rows.proofs.Orders.{segments as segment_order}
use Rattle.wkb_rows.proofs.Gathered.{points_rise, segments_rise}
use Rattle.wkb_reading.specs.Reading.{object_of, elements_in, bytes_in, ReadAnswer, fitted, filled, read_object, read_parts, file_bytes, read_file, buffer_after}
use Rattle.wkb_reading.specs.declared.ReadFault.TheVariants.{TooMany, ShortBuffer}
use Rattle.wkb_writing.specs.Wkb.{wkb_of}
use Rattle.wkb_writing.specs.ReadBack.{point_rows, segment_rows, ReadBack}
use Rattle.wkb_writing.proofs.Halved.{apart_of}
use Rattle.wkb_writing.proofs.SameObject.{points_arranged, segments_in, in_segments, same_line, written_read_back}
use Rattle.wkb_round_trip.specs.RoundTrip.{ReadAgain, RoundTrip}
use Rattle.wkb_round_trip.proofs.Wrote.{wrote_means}

-- ---- what is read has at most 1,024 elements, and its bytes are those of the object as it is written

record Fine (o : Object) : Type 0 where
  few : elements_in o ≤ most
  as_written : bytes_in o ≡ object_bytes o

points_fine : (l : List Point) → GoodPoints l → Fine (points (points_of (map point_rows l)))
points_fine l g = record {
  few = omega (arith, g.few, ap (λ (k : List Point). length k) (points_arranged l));
  as_written = ap (bytes_of Points) (sym (points_as_given (points_of (map point_rows l)) (points_rise (map point_rows l))));
}

segments_fine : (l : List Segment) → GoodSegments l → Fine (line (segments_of (map segment_rows l)))
segments_fine l g = record {
  few = omega (arith, g.few, ap length same, settled_length Line refl m [] tt);
  as_written = ap (bytes_of Line) written;
}
  where
    m : List Segment
    m = segments_of (map segment_rows l)

    ord : AllOrdered m
    ord t k = g.in_order t (segments_in l g.in_order t k)

    apart : Across m m
    apart t u i j = g.apart t u (segments_in l g.in_order t i) (segments_in l g.in_order u j)

    written : settled_items Line m [] ≡ line_items m
    written = settled_line m ord (settled_line_sorted m ord apart (apart_of (λ t u. T (segment_before t u)) segment_order.irreflexive (segments_rise (map segment_rows l)))) []

    same : settled_items Line m [] ≡ line_items l
    same = written ∙ same_line g.in_order g.apart (segments_in l g.in_order) (in_segments l g.in_order)

-- ---- so it is read into the buffer

module _ (s : List ℕ) (l : Layout) (taken : check_object s ≡ Ok l) (buffer : List ℕ) (room : length s ≤ length buffer) where
  into : (o : Object) → Fine o → object_bytes o ≡ s → read_object o (length buffer) ≡ Ok (length s)
  unfolding read_object
  into o f e =
      ap (λ (b : Bool). cond b (Err TooMany) (fitted (bytes_in o) (length buffer) (check_object (bytes_in o)))) (le-ltb most (elements_in o) f.few)
      ∙ ap (λ (bytes : List ℕ). fitted bytes (length buffer) (check_object bytes)) (f.as_written ∙ e)
      ∙ ap (fitted s (length buffer)) taken
      ∙ ap (λ (b : Bool). cond b (Err ShortBuffer) (Ok (length s))) (le-ltb (length buffer) (length s) room)

  -- a file of parts of which that object is made
  read_again : (wkb : List ℕ) {type end : ℕ} {parts : List (List Row)} → type_at wkb 0 ≡ type → file wkb ≡ got parts end → Fine (object_of type parts)
      → object_bytes (object_of type parts) ≡ s → ReadAgain s wkb buffer
  unfolding read_file buffer_after
  read_again wkb {type} {end} {parts} t r f e = record {
    answer = answer;
    after = ap (λ (bytes : List ℕ). filled bytes (read_parts (type_at wkb 0) (file wkb) (length buffer)) buffer) bytes ∙ ap (λ (a : ReadAnswer). filled s a buffer) answer;
  }
    where
      answer : read_parts (type_at wkb 0) (file wkb) (length buffer) ≡ Ok (length s)
      answer =
          ap (λ (n : ℕ). read_parts n (file wkb) (length buffer)) t ∙ ap (λ (read : Read (List (List Row))). read_parts type read (length buffer)) r
          ∙ into (object_of type parts) f e

      bytes : file_bytes (type_at wkb 0) (file wkb) ≡ s
      bytes = ap (λ (n : ℕ). file_bytes n (file wkb)) t ∙ ap (λ (read : Read (List (List Row))). file_bytes type read) r ∙ f.as_written ∙ e

  again : (o : Object) → Writable o → ((k : List Segment) → ¬ (o ≡ region k)) → ReadBack s o → ReadAgain s (wkb_of o) buffer
  again (points k) w n r = read_again (wkb_of (points k)) r.type r.read (points_fine k w) r.same
  again (line k) w n r = read_again (wkb_of (line k)) r.type r.read (segments_fine k w) r.same
  again (region k) w n r = absurd (n k refl)

never_region : (s : List ℕ) (l : Layout) → is_region l.shape ≡ false → (g : List Segment) → ¬ (object s l ≡ region g)
unfolding object
never_region s l e g = of l.shape e
  where
    of : (k : Shape) → is_region k ≡ false → ¬ (object s (layout k l.start l.count) ≡ region g)
    of Points e q = cc
    of Line e q = cc
    of Region e q = cc

pub round_trip : (s : List ℕ) → RoundTrip s
round_trip s bytes wkb buffer n e room =
    let w = wrote_means s wkb n e in
    let front = ap (take n) w.after ∙ take_at (wkb_of (object s w.layout)) (drop n wkb) n (sym w.long) in
    subst (λ (b : List ℕ). ReadAgain s b buffer) (sym front)
    (again s w.layout w.taken buffer room (object s w.layout) (accepted_writable s w.layout w.taken) (never_region s w.layout w.flat) (written_read_back s bytes w.layout w.taken w.flat))
