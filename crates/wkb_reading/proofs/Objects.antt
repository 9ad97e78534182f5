-- The object that is made of a row of keys is the file's: the row has the keys of its points, or of the ends of its segments. Its bytes are read as that object, and
-- 01's checks of them say whether it is made.
use Rattle.std.proofs.Common.{Ok, Err, ℕ, ◌≡◌, ◌*◌, ◌≤◌, Bool, cond, List, [], map, length, ltb, T, refl, sym, ap, ◌∙◌, arith, le-ltb}
use Rattle.std.proofs.lemmas.List.{length-map}
use Rattle.whole.specs.Count.{◌∈◌}
use Rattle.whole.proofs.Parity.{sorted_once}
use Rattle.plane.specs.declared.Point.{Point}
use Rattle.plane.specs.declared.Segment.{Segment}
use Rattle.plane.specs.Plane.{in_range, is_same_segment, interior_above, Object, points, line, region}
use Rattle.plane.proofs.Equal.{same_segment_read, same_segment_refl}
use Rattle.scene.specs.declared.Layout.{Layout}
use Rattle.scene.specs.declared.Refusal.{Refusal}
use Rattle.scene.specs.declared.Shape.TheVariants.{Points, Line, Region}
use Rattle.scene.specs.Read.{most, read_alone}
use Rattle.scene.specs.Conditions.{check_object}
use Rattle.scene.proofs.Taken.{layout}
use Rattle.scene_keys.specs.declared.Ends.{Ends}
use Rattle.scene_keys.specs.Keyed.{key, ends_of}
use Rattle.scene_written.specs.Bytes.{GoodSegment, bytes_of}
use Rattle.scene_written.proofs.Judged.{Once}
use Rattle.scene_written.proofs.ReadBack.{alone_back}
use Rattle.scene_writing.specs.Rows.{AreKeys, AreGood, points_in, segments_in}
use Rattle.scene_writing.specs.Settled.{settled_items}
use Rattle.scene_writing.proofs.Rows.{are_keys, points_back, are_good, segments_back}
use Rattle.scene_writing.proofs.SettledBack.{settled_alone}
use Rattle.check_alone.proofs.RightIa.{right_ia}
use Rattle.wkb_rows.specs.Rows.{segment_before, points_of, segments_of}
use Rattle.wkb_rows.proofs.Orders.{segments as segment_order}
use Rattle.wkb_rows.proofs.Gathered.{points_read, segments_within, segments_rise}
use Rattle.wkb_rows.proofs.Keyed.{segments_in_range}
use Rattle.wkb_gathering.specs.Gathers.{parts_of}
use Rattle.wkb_gathering.proofs.Ranged.{file_in_range}
use Rattle.wkb_reading.specs.declared.ReadFault.TheVariants.{TooMany, Refused}
use Rattle.wkb_reading.specs.Reading.{elements_in, bytes_in, checked_bytes, Makes}

-- ---- bytes that are an object's, by 01's checks of them

module _ (o : Object) (few : elements_in o ≤ most) {bytes : List ℕ} (b : bytes ≡ bytes_in o) where
  by_check : cond (ltb most (elements_in o)) (Err TooMany) (checked_bytes (bytes_in o) (check_object (bytes_in o))) ≡ checked_bytes bytes (check_object bytes)
  by_check =
      ap (λ (t : Bool). cond t (Err TooMany) (checked_bytes (bytes_in o) (check_object (bytes_in o)))) (le-ltb most (elements_in o) few)
      ∙ ap (λ (x : List ℕ). checked_bytes x (check_object x)) (sym b)

  pub accepted : (l : Layout) → check_object bytes ≡ Ok l → Makes o (Ok bytes)
  accepted l k = sym (by_check ∙ ap (checked_bytes bytes) k)

  pub not_accepted : (r : Refusal) → check_object bytes ≡ Err r → Makes o (Err (Refused r.reason))
  not_accepted r k = sym (by_check ∙ ap (checked_bytes bytes) k)

module _ (s : List ℕ) where
  abbrev its_points : List Point
  its_points = points_of (parts_of s)

  abbrev its_segments : List Segment
  its_segments = segments_of (parts_of s)

  points_in_range : (p : Point) → p ∈ its_points → T (in_range p)
  points_in_range p m = file_in_range s p (points_read (parts_of s) p m)

  pub segments_good : (t : Segment) → t ∈ its_segments → GoodSegment t
  segments_good t m = record { in_range_lem = segments_in_range (parts_of s) (file_in_range s) t m; in_order = (segments_within (parts_of s) m).in_order }

  -- ---- points
  module _ (row : List ℕ) (e : row ≡ map key its_points) where
    pub keys : AreKeys row
    keys = rw e (are_keys its_points points_in_range)

    same_points : points_in row ≡ its_points
    same_points = rw e (points_back its_points points_in_range)

    as_long : length its_points ≡ length row
    as_long = omega (arith, ap length e, length-map {A = Point} {B = ℕ})

    pub points_bytes : {bytes : List ℕ} → bytes ≡ bytes_of Points (points_in row) → bytes ≡ bytes_in (points its_points)
    points_bytes b = b ∙ ap (bytes_of Points) same_points

    module _ (few : length row ≤ 1024) where
      pub points_few : elements_in (points its_points) ≤ most
      points_few = omega (arith, as_long)

      pub points_alone : {bytes : List ℕ} → bytes ≡ bytes_of Points (points_in row) → read_alone bytes ≡ Ok (layout Points 0 (length row))
      points_alone b = ap read_alone (points_bytes b) ∙ alone_back Points its_points points_in_range points_few ∙ ap (λ (n : ℕ). Ok (layout Points 0 n)) as_long

  -- ---- segments
  module _ (row : List Ends) (e : row ≡ map ends_of its_segments) where
    pub good : AreGood row
    good = rw e (are_good its_segments segments_good)

    same : segments_in row ≡ its_segments
    same = rw e (segments_back its_segments segments_good)

    segments_long : length its_segments ≡ length row
    segments_long = omega (arith, ap length e, length-map {A = Segment} {B = Ends})

    pub line_bytes : {bytes : List ℕ} → bytes ≡ bytes_of Line (settled_items Line (segments_in row) []) → bytes ≡ bytes_in (line its_segments)
    line_bytes b = b ∙ ap (λ (l : List Segment). bytes_of Line (settled_items Line l [])) same

    module _ (few : length row ≤ 512) where
      segments_few : length its_segments ≤ 512
      segments_few = omega (arith, segments_long)

      pub halves_few : 2 * length its_segments ≤ most
      halves_few = omega (arith, segments_few)

      pub line_alone : {bytes : List ℕ} → bytes ≡ bytes_of Line (settled_items Line (segments_in row) []) → read_alone bytes ≡ Ok (layout Line 0 (2 * length row))
      line_alone b =
          ap read_alone (line_bytes b) ∙ settled_alone Line refl its_segments [] tt segments_good segments_few ∙ ap (λ (n : ℕ). Ok (layout Line 0 (2 * n))) segments_long

      module _ (ia : List Bool) (many : length ia ≡ length row) {bytes : List ℕ} (b : bytes ≡ bytes_of Region (settled_items Region (segments_in row) ia)) where
        region_is : bytes ≡ bytes_of Region (settled_items Region its_segments ia)
        region_is = b ∙ ap (λ (l : List Segment). bytes_of Region (settled_items Region l ia)) same

        ia_long : length ia ≡ length its_segments
        ia_long = many ∙ sym segments_long

        pub region_alone : read_alone bytes ≡ Ok (layout Region 0 (2 * length row))
        region_alone =
            ap read_alone region_is ∙ settled_alone Region refl its_segments ia ia_long segments_good segments_few ∙ ap (λ (n : ℕ). Ok (layout Region 0 (2 * n))) segments_long

        -- with the right ia
        pub region_bytes : ia ≡ map (interior_above (segments_in row)) (segments_in row) → bytes ≡ bytes_in (region its_segments)
        region_bytes i = region_is ∙ ap (λ (bs : List Bool). bytes_of Region (settled_items Region its_segments bs)) (i ∙ ap (λ (l : List Segment). map (interior_above l) l) same)

        -- no segment is there twice
        once : Once its_segments
        once = sorted_once is_same_segment same_segment_read same_segment_refl (λ t u. T (segment_before t u)) (segments_rise (parts_of s)) (λ t m. segment_order.irreflexive t)

        -- or with any, where 01's checks accept it
        pub accepted_bytes : check_object bytes ≡ Ok (layout Region 0 (2 * length row)) → bytes ≡ bytes_in (region its_segments)
        accepted_bytes k =
            region_is
            ∙ ap (bytes_of Region) (right_ia its_segments segments_good segments_few once ia ia_long
            (ap check_object (sym region_is) ∙ k ∙ ap (λ (n : ℕ). Ok (layout Region 0 (2 * n))) (sym segments_long)))
