-- "writes an accepted scene": the bytes of the two split objects pass every check, 15 too.
use Rattle.std.specs.Prelude.{Ok, Err, None}
use Prim.Native.Nat.{ℕ, ◌+◌, ◌*◌, ◌≤◌, ◌<◌}
use native.Mathlib.Nat.{le_trans, zero-add, add-zero}
use mathlib.Core.Path.{◌≡◌, refl, sym, ap, ap₂, ◌∙◌, subst}
use mathlib.Core.Bool.{Bool, true, false, not, ◌&&◌, cond, false≢true}
use mathlib.Core.List.{List, [], ◌++◌}
use lib.Dec.{T, T_not}
use lib.ListN.{length}
use Rattle.whole.specs.Count.{odd, some, count, ◌∈◌}
use Rattle.whole.proofs.Logic.{refute, and_left, and_right, some_find, some_make, same_test, true_is, is_false, in_map}
use Rattle.plane.specs.declared.Segment.{Segment}
use Rattle.plane.specs.Plane.{HPoint, fractions, segment_in_range, touch, on, is_on_some, is_end, ends_at, counts_below, inside, is_boundary, in_interior, in_boundary, in_exterior, Object, line, region}
use Rattle.scene.specs.declared.Shape.{Shape}
use Rattle.scene.specs.declared.Shape.TheVariants.{Points, Line, Region}
use Rattle.scene.specs.declared.Layout.{Layout}
use Rattle.scene.specs.declared.Scene.{Scene}
use Rattle.scene.specs.Read.{CheckedObject, most, read_object, read_alone, given_first, given_second}
use Rattle.scene.specs.Conditions.{has_segments, is_region, half, left_test, segments, object, is_touching, touching, touching_across, object_rules, scene_rules, checked_scene, check_scene_by, check_scene, check_object}
use Rattle.scene.proofs.Taken.{alone_read}
use Rattle.scene.proofs.Given.{checked_object_lem, over_both_lem}
use Rattle.scene.proofs.Moved.{moved}
use Rattle.scene.proofs.SideBySide.{beside, beside_read, beside_given, beside_faultless}
use Rattle.scene.proofs.Indices.{in_keep, element_in}
use Rattle.scene_segments.proofs.Indices.{no_fault}
use Rattle.scene_written.specs.Arranged.{line_items, object_bytes}
use Rattle.scene_written.proofs.Arranging.{line_length}
use Rattle.scene_written.proofs.Judged.{Once, ReadAs, segments_in, in_segments, odd_read}
use Rattle.scene_written.proofs.Stands.{Stands, stands_here, stands_after}
use Rattle.scene_written.proofs.ReadBack.{stands_whole}
use Rattle.scene_written.proofs.Taken.{GoodSegments, GoodRegion, Writable, split_writable, regular_writable, halves_of, line_read, region_read, layout_of, object_taken, no_refusal}
use Rattle.sweep_laws.proofs.SoundObject.{SoundObject, regular, segments_in_range}
use Rattle.split_crossing.specs.Cuts.{SameParts}
use Rattle.split_crossing.proofs.SplitWell.{SplitWell}
use Rattle.split.specs.Split.{split_of, of_shape, split_object, is_copied, split_bytes}
use Rattle.split.proofs.Given.{Splittable, faultless, one_empty, have_segments, first_few, second_few, first_split, second_split, pieces_clear, unaltered, parts_kept}

-- ---- one object

-- a line or a region of these segments
pub data Made (l : List Segment) : Object → Type 0 where
  a_line : GoodSegments l → Once l → Made l (line l)
  a_region : GoodRegion l → Made l (region l)

writable : {l : List Segment} {o : Object} → Made l o → Writable o
writable (a_line g o) = g
writable (a_region g) = g

-- where its bytes stand, its segments are among these
segments_of_lem : {l : List Segment} {o : Object} → Made l o → (s : List ℕ) (start : ℕ) → Stands s start (object_bytes o) → (t : Segment) → t ∈ segments s (layout_of o start) → t ∈ l
segments_of_lem {l} (a_line g o) s start stands t m = segments_in (line_read s start l g stands) (halves_of l g) g.in_order g.apart m
segments_of_lem {l} (a_region g) s start stands t m = segments_in (region_read s start l g stands) (halves_of l g.segments) g.segments.in_order g.segments.apart m

-- the object that an object's pieces make
made : (s : List ℕ) (own other : Layout) → SoundObject s own → SplitWell (segments s own) (segments s other) → 2 * length (split_of s own other) ≤ most
    → has_segments own.shape ≡ true → Made (split_of s own other) (split_object s own other)
unfolding split_object
made s own other o w few has = go own.shape refl has
  where
    range : (t : Segment) → t ∈ split_of s own other → T (segment_in_range t)
    range = w.in_range_lem (λ t m. segments_in_range o m)

    short : length (line_items (split_of s own other)) ≤ most
    short = le_trans (line_length (split_of s own other)) few

    go : (k : Shape) → own.shape ≡ k → has_segments k ≡ true → Made (split_of s own other) (split_object s own other)
    go Points e h = absurd (false≢true h)
    go Line e h = subst (λ (k : Shape). Made (split_of s own other) (of_shape k (object s own) (split_of s own other))) (sym e) (a_line (split_writable (split_of s own other) range w.split short) w.split.once)
    go Region e h =
        subst (λ (k : Shape). Made (split_of s own other) (of_shape k (object s own) (split_of s own other))) (sym e)
        (a_region (regular_writable (split_of s own other) range (w.regular (regular o (ap is_region e))) short))

-- ---- the object that is read back has the parts of the object that was written

some_same : (f : Segment → Bool) (l m : List Segment) → ((t : Segment) → t ∈ l → t ∈ m) → ((t : Segment) → t ∈ m → t ∈ l) → some f l ≡ some f m
some_same f l m to from =
    same_test (some f l) (some f m) (λ h. let w = some_find f l h in some_make f (to w.0 w.1) w.2) (λ h. let w = some_find f m h in some_make f (from w.0 w.1) w.2)

module _ (l m : List Segment) (points : (z : HPoint) → is_on_some m z ≡ is_on_some l z) (odds : (f : Segment → Bool) → odd (count f m) ≡ odd (count f l)) where
  line_parts : SameParts (line l) (line m)
  unfolding in_interior in_boundary in_exterior is_boundary ends_at
  line_parts =
      record {
        interior = λ z. ap₂ (λ a b. a && not b) (points (fractions z)) (odds (λ t. is_end t (fractions z)));
        boundary = λ z. odds (λ t. is_end t (fractions z));
        exterior = λ z. ap₂ (λ a b. not (a && not b) && not b) (points (fractions z)) (odds (λ t. is_end t (fractions z)));
      }

  region_parts : SameParts (region l) (region m)
  unfolding in_interior in_boundary in_exterior inside
  region_parts =
      record {
        interior = λ z. ap₂ (λ a b. not a && b) (points (fractions z)) (odds (counts_below (fractions z)));
        boundary = λ z. points (fractions z);
        exterior = λ z. ap₂ (λ a b. not (not a && b) && not a) (points (fractions z)) (odds (counts_below (fractions z)));
      }

-- an object that is read as these halfsegments
module _ {s : List ℕ} {lay : Layout} {l : List Segment} (r : ReadAs s lay l (line_items l)) (g : GoodSegments l) (once : Once l) where
  read_points : (z : HPoint) → is_on_some (segments s lay) z ≡ is_on_some l z
  unfolding is_on_some
  read_points z =
      some_same (λ t. on t z) (segments s lay) l (λ t m. segments_in r (halves_of l g) g.in_order g.apart m) (λ t m. in_segments r (halves_of l g) g.in_order g.apart m)

  read_odds : (f : Segment → Bool) → odd (count f (segments s lay)) ≡ odd (count f l)
  read_odds = odd_read r (halves_of l g) g.in_order g.apart once

pub parts_back : {l : List Segment} {o : Object} → Made l o → (s : List ℕ) (start : ℕ) → Stands s start (object_bytes o) → SameParts o (object s (layout_of o start))
unfolding object
parts_back {l} (a_line g c) s start stands =
    let r = line_read s start l g stands in
    line_parts l (segments s (layout_of (line l) start)) (read_points r g c) (read_odds r g c)
parts_back {l} (a_region g) s start stands =
    let r = region_read s start l g stands in
    region_parts l (segments s (layout_of (region l) start)) (read_points r g.segments g.once) (read_odds r g.segments g.once)

-- ---- two side by side

-- the segment of a left halfsegment is one of the object
left_segment : (s : List ℕ) (l : Layout) (i : ℕ) → i < l.count → left_test s l i ≡ true → (half s l i).segment ∈ segments s l
unfolding segments
left_segment s l i h e = in_map (λ j. (half s l j).segment) (in_keep (left_test s l) (element_in l i h) e)

alone : (s : List ℕ) (l : Layout) → check_object s ≡ Ok l → read_alone s ≡ Ok l
alone s l e =
    let t = (checked_object_lem s l e).0 in
    alone_read s l (subst (λ (at : ℕ). ◌≡◌ {A = CheckedObject} (read_object s at) (Ok l)) t.object.starts t.read) t.all

-- 15 finds nothing where no segment touches one of the other object
clear_of : (s : List ℕ) (x y : Layout) → ((t u : Segment) → t ∈ segments s x → u ∈ segments s y → touch t u ≡ false) → touching s x (segments s y) ≡ None
unfolding touching
clear_of s x y none = no_fault x (is_touching s x (segments s y)) wrong
  where
    wrong : (i : ℕ) → i < x.count → is_touching s x (segments s y) i ≡ false
    wrong i h = refute (is_touching s x (segments s y) i) (λ k. by (and_left (left_test s x i) (some (touch (half s x i).segment) (segments s y)) k) (and_right (left_test s x i) (some (touch (half s x i).segment) (segments s y)) k))
      where
        by : T (left_test s x i) → T (some (touch (half s x i).segment) (segments s y)) → ⊥
        by left k =
            let w = some_find (touch (half s x i).segment) (segments s y) k in
            T_not (touch (half s x i).segment w.0) (is_false (touch (half s x i).segment w.0) (none (half s x i).segment w.0 (left_segment s x i h (true_is (left_test s x i) left)) w.1)) w.2

module _ {l m : List Segment} {o p : Object} (first : Made l o) (second : Made m p) (none : (t u : Segment) → t ∈ l → u ∈ m → touch t u ≡ false) where
  abbrev a : List ℕ
  a = object_bytes o

  abbrev b : List ℕ
  b = object_bytes p

  abbrev la : Layout
  la = layout_of o 0

  abbrev lb : Layout
  lb = layout_of p 0

  a_taken : check_object a ≡ Ok la
  a_taken = object_taken o (writable first)

  b_taken : check_object b ≡ Ok lb
  b_taken = object_taken p (writable second)

  in_first : (t : Segment) → t ∈ segments (a ++ b) la → t ∈ l
  in_first = segments_of_lem first (a ++ b) 0 (stands_here a b)

  in_second : (t : Segment) → t ∈ segments (a ++ b) (moved (length a) lb) → t ∈ m
  in_second t k = segments_of_lem second (a ++ b) (length a + 0) (stands_after a (stands_whole b)) t (subst (λ (x : ℕ). t ∈ segments (a ++ b) (layout_of p x)) (zero-add (length a) ∙ sym (add-zero (length a))) k)

  abbrev sc : Scene
  sc = beside a b la lb

  no_touch : (t u : Segment) → t ∈ segments (a ++ b) la → u ∈ segments (a ++ b) (moved (length a) lb) → touch t u ≡ false
  no_touch t u k n = none t u (in_first t k) (in_second u n)

  across : (x y : Layout) → x ≡ la → y ≡ moved (length a) lb → touching (a ++ b) x (segments (a ++ b) y) ≡ None
  across x y e f =
      clear_of (a ++ b) x y (λ t u k n. no_touch t u (subst (λ (z : Layout). t ∈ segments (a ++ b) z) e k) (subst (λ (z : Layout). u ∈ segments (a ++ b) z) f n))

  no_fifteen : touching_across (a ++ b) sc ≡ None
  no_fifteen =
      across (given_first sc) (given_second sc) (beside_given a b la lb (alone a la a_taken) (alone b lb b_taken)).first (beside_given a b la lb (alone a la a_taken) (alone b lb b_taken)).second

  pub first_back : SameParts o (object (a ++ b) (given_first sc))
  first_back =
      subst (λ (x : Layout). SameParts o (object (a ++ b) x)) (sym (beside_given a b la lb (alone a la a_taken) (alone b lb b_taken)).first) (parts_back first (a ++ b) 0 (stands_here a b))

  pub second_back : SameParts p (object (a ++ b) (given_second sc))
  second_back =
      subst (λ (x : Layout). SameParts p (object (a ++ b) x)) (sym (beside_given a b la lb (alone a la a_taken) (alone b lb b_taken)).second)
      (subst (λ (x : ℕ). SameParts p (object (a ++ b) (layout_of p x))) (add-zero (length a) ∙ sym (zero-add (length a))) (parts_back second (a ++ b) (length a + 0) (stands_after a (stands_whole b))))

  pub side_by_side : check_scene (a ++ b) ≡ Ok sc
  unfolding check_scene check_scene_by
  side_by_side =
      ap (checked_scene (scene_rules [] []) (a ++ b)) (beside_read a b la lb (alone a la a_taken) (alone b lb b_taken))
      ∙ no_refusal Err (Ok sc) (a ++ b) sc (scene_rules [] [])
      (let n = beside_faultless a b la lb (alone a la a_taken) (alone b lb b_taken) a_taken b_taken in (n.0, (n.1.0, (n.1.1.0, (n.1.1.1.0, (n.1.1.1.1.0, (no_fifteen, tt)))))))

-- ---- what is written

-- a scene whose objects have the parts of those before
pub record WrittenAs (s : List ℕ) (sc : Scene) (t : List ℕ) : Type 0 where
  pub scene : Scene
  pub accepted : check_scene t ≡ Ok scene
  pub first_kept : SameParts (object s (given_first sc)) (object t (given_first scene))
  pub second_kept : SameParts (object s (given_second sc)) (object t (given_second scene))

abbrev pub Written : List ℕ → Scene → Type 0
Written s sc = WrittenAs s sc (split_bytes s sc)

-- one after the other
parts_on : {a b c : Object} → SameParts a b → SameParts b c → SameParts a c
parts_on f g = record { interior = λ z. g.interior z ∙ f.interior z; boundary = λ z. g.boundary z ∙ f.boundary z; exterior = λ z. g.exterior z ∙ f.exterior z }

module _ {s : List ℕ} {sc : Scene} (w : Splittable s sc) where
  -- a copied scene
  copied_accepted : is_copied sc ≡ true → check_scene s ≡ Ok sc
  unfolding check_scene check_scene_by
  copied_accepted h =
      ap (checked_scene (scene_rules [] []) s) w.read
      ∙ no_refusal Err (Ok sc) s sc (scene_rules [] [])
      (let n = over_both_lem s sc object_rules (faultless w.first_sound) (faultless w.second_sound) in (n.0, (n.1.0, (n.1.1.0, (n.1.1.1.0, (n.1.1.1.1.0, (no_other, tt)))))))
    where
      no_other : touching_across s sc ≡ None
      no_other = clear_of s (given_first sc) (given_second sc) (λ t u m k. absurd (one_empty w h t u m k))

  -- two that are split
  both_written : is_copied sc ≡ false → WrittenAs s sc (object_bytes (split_object s (given_first sc) (given_second sc)) ++ object_bytes (split_object s (given_second sc) (given_first sc)))
  both_written h =
      record {
        scene = _;
        accepted = side_by_side one other clear;
        first_kept = parts_on (parts_kept s (given_second sc) (given_first sc).shape (given_first sc).start (given_first sc).count (first_split w)) (first_back one other clear);
        second_kept = parts_on (parts_kept s (given_first sc) (given_second sc).shape (given_second sc).start (given_second sc).count (second_split w)) (second_back one other clear);
      }
    where
      one : Made (split_of s (given_first sc) (given_second sc)) (split_object s (given_first sc) (given_second sc))
      one = made s (given_first sc) (given_second sc) w.first_sound (first_split w) (first_few w h) (have_segments w h).0

      other : Made (split_of s (given_second sc) (given_first sc)) (split_object s (given_second sc) (given_first sc))
      other = made s (given_second sc) (given_first sc) w.second_sound (second_split w) (second_few w h) (have_segments w h).1

      clear : (t u : Segment) → t ∈ split_of s (given_first sc) (given_second sc) → u ∈ split_of s (given_second sc) (given_first sc) → touch t u ≡ false
      clear = pieces_clear w

  pub split_written : Written s sc
  unfolding split_bytes
  split_written = go (is_copied sc) refl
    where
      go : (b : Bool) → is_copied sc ≡ b → WrittenAs s sc (cond b s (object_bytes (split_object s (given_first sc) (given_second sc)) ++ object_bytes (split_object s (given_second sc) (given_first sc))))
      go true h =
          record { scene = sc; accepted = copied_accepted h; first_kept = unaltered (object s (given_first sc)); second_kept = unaltered (object s (given_second sc)) }
      go false h = both_written h
