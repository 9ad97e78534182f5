-- Where 01's checks accept the bytes of an object that was read, no two of its halfsegments are without an order, and the bytes are those of the object as it is written.
use Rattle.std.proofs.Common.{Ok, Err, Some, None, ℕ, ◌≡◌, ◌*◌, ◌≤◌, Bool, true, false, cond, List, [], map, eqb, length, refl, sym, ap, subst, ◌∙◌, arith}
use Rattle.std.proofs.lemmas.List.{length-map}
use Rattle.whole.specs.Count.{◌∈◌}
use Rattle.plane.specs.declared.Segment.{Segment}
use Rattle.plane.specs.Plane.{interior_above, points, line, region}
use Rattle.scene.specs.declared.Shape.TheVariants.{Line, Region}
use Rattle.scene.specs.declared.Layout.{Layout}
use Rattle.scene.specs.declared.Reason.{Reason}
use Rattle.scene.specs.Read.{Fault, CheckedObject, most, decide, read_alone}
use Rattle.scene.specs.Conditions.{out_of_order, checked_object, check_object}
use Rattle.scene_written.specs.Bytes.{GoodSegment}
use Rattle.scene_written.proofs.ReadBack.{stands_whole}
use Rattle.scene_writing.proofs.InOrder.{points_written, line_written, region_written}
use Rattle.scene_writing.proofs.SettledBack.{settled_alone, settled_rises}
use Rattle.wkb_grammar.specs.Fields.{type_at}
use Rattle.wkb_grammar.specs.Grammar.{Row}
use Rattle.wkb_rows.specs.Rows.{points_of, segments_of}
use Rattle.wkb_rows.proofs.Gathered.{points_rise}
use Rattle.wkb_gathering.specs.Gathers.{parts_of, parts_in}
use Rattle.wkb_reading.specs.Reading.{object_of, bytes_in, elements_in, AsWritten, ReadAsWritten}
use Rattle.wkb_reading.proofs.Objects.{segments_good}

-- ---- what is accepted is in order
decided : (reason : Reason) (f : Fault) (rest : CheckedObject) (l : Layout) → decide Err reason f rest ≡ Ok l → f ≡ None
decided reason None rest l e = refl
decided reason (Some p) rest l e = cc

accepted_in_order : (s : List ℕ) (lay l : Layout) → read_alone s ≡ Ok lay → check_object s ≡ Ok l → out_of_order s lay ≡ None
unfolding check_object
accepted_in_order s lay l r e = decided _ (out_of_order s lay) _ l (sym (ap (checked_object s) r) ∙ e)

-- ---- a line and a region of segments
module _ (l : List Segment) (good : (t : Segment) → t ∈ l → GoodSegment t) (few : 2 * length l ≤ most) where
  line_as_written : AsWritten (line l)
  line_as_written lay e =
      line_written l (λ t m. (good t m).in_order)
      (settled_rises Line refl l [] tt good (omega arith) s 0 (stands_whole s) (accepted_in_order s _ lay (settled_alone Line refl l [] tt good (omega arith)) e)) []
    where
      s : List ℕ
      s = bytes_in (line l)

  region_as_written : AsWritten (region l)
  region_as_written lay e =
      region_written l (λ t m. (good t m).in_order)
      (settled_rises Region refl l ias many good (omega arith) s 0 (stands_whole s) (accepted_in_order s _ lay (settled_alone Region refl l ias many good (omega arith)) e))
    where
      s : List ℕ
      s = bytes_in (region l)

      ias : List Bool
      ias = map (interior_above l) l

      many : length ias ≡ length l
      many = length-map l (interior_above l)

-- ---- the object of a file
of_file : (s : List ℕ) → elements_in (object_of (type_at s 0) (parts_of s)) ≤ most → AsWritten (object_of (type_at s 0) (parts_of s))
of_file s = go (eqb (type_at s 0) 4) (eqb (type_at s 0) 5)
  where
    l : List Segment
    l = segments_of (parts_of s)

    go : (a b : Bool) → elements_in (cond a (points (points_of (parts_of s))) (cond b (line l) (region l))) ≤ most → AsWritten (cond a (points (points_of (parts_of s))) (cond b (line l) (region l)))
    go true b few = λ lay e. points_written (points_of (parts_of s)) (points_rise (parts_of s))
    go false true few = line_as_written l (segments_good s) few
    go false false few = region_as_written l (segments_good s) few

pub as_written : (s : List ℕ) → ReadAsWritten s
as_written s parts end e few = subst (λ (p : List (List Row)). AsWritten (object_of (type_at s 0) p)) same (of_file s (subst (λ (p : List (List Row)). elements_in (object_of (type_at s 0) p) ≤ most) (sym same) few))
  where
    same : parts_of s ≡ parts
    same = ap parts_in e
