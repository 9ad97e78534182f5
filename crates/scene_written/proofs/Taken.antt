-- What is written is taken: the bytes of an object whose points are in range, or whose segments are in range and share only common ends, and for a
-- region have even ends, pass 1 to 7 and 10 to 14. Points and segments given in order are read back as they are.
use Rattle.std.specs.Prelude.{Err, None, Ok}
use Rattle.scene.specs.Read.{Fault}
use Prim.Native.Nat.{ℕ, zero, suc, ◌-◌, ◌<◌, ◌≤◌}
use native.Mathlib.Omega.{arith}
use mathlib.Core.Path.{◌≡◌, refl, sym, ap, subst, subst₂, ◌∙◌}
use mathlib.Core.Bool.{Bool, true, false, not, ◌&&◌, false≢true}
use mathlib.Core.List.{List, [], ◌∷◌, map}
use lib.ListN.{length, get_or, length-map, get_or-map}
use lib.Dec.{T, ltb}
use Rattle.whole.specs.Count.{◌∈◌}
use Rattle.whole.proofs.Sorted.{sorted_unique}
use Rattle.whole.proofs.Logic.{true_is, map_in, Sorted}
use Rattle.plane.specs.declared.Point.{Point}
use Rattle.plane.specs.declared.Segment.{Segment}
use Rattle.plane.specs.declared.Halfsegment.{Halfsegment}
use Rattle.plane.specs.Plane.{in_range, segment_in_range, ordered, before, interior_above, Object, points, line, region}
use Rattle.plane.proofs.Path.{Even}
use Rattle.plane.proofs.Accepted.{Across, AllOrdered, Split, Regular}
use Rattle.plane.proofs.Order.{half_of, ordered_make, LeftBefore, comes_irreflexive, comes_trans}
use Rattle.scene.specs.declared.Shape.TheVariants.{Points, Line, Region}
use Rattle.scene.specs.declared.Layout.{Layout}
use Rattle.scene.specs.declared.Refusal.{Refusal}
use Rattle.scene.specs.Read.{point_at, place, most, decide, judge, IsObject}
use Rattle.scene.specs.Conditions.{elements, has_segments, is_region, half, ia, segments, is_in_order, is_misplaced, out_of_order, is_unpaired, unpaired, is_touching, touching, touching_itself, ends_oddly, odd_end, has_wrong_ia, wrong_ia, Rule, conditions, object_rules, checked_object, check_object}
use Rattle.scene.proofs.Taken.{layout}
use Rattle.scene.proofs.Given.{NoFault}
use Rattle.scene_segments.proofs.Elements.{order_of_points}
use Rattle.scene_segments.proofs.Indices.{no_fault}
use Rattle.scene_written.specs.Bytes.{Edge, GoodSegment}
use Rattle.scene_written.specs.Arranged.{edge_of, point_items, line_items, region_items, shape_in, items_of, object_bytes}
use Rattle.scene_written.proofs.Stands.{Stands}
use Rattle.scene_written.proofs.ReadBack.{AllGood, nowhere, origin, object_back, alone_back, element_back, elements_back, stands_whole}
use Rattle.scene_written.proofs.Arranging.{Halves, line_halves, points_in_order, points_in, points_as_given}
use Rattle.scene_written.proofs.Judged.{Once, ReadAs, sorted_at, order_passes, pairs_pass, touch_passes, ends_pass, ia_passes, segments_in, in_segments, segments_sorted, and-false}

-- ---- what is asked of an object's points or segments

pub record GoodSegments (l : List Segment) : Type 0 where
  pub in_range_lem : (t : Segment) → t ∈ l → T (segment_in_range t)
  pub in_order : AllOrdered l
  pub apart : Across l l
  pub few : length (line_items l) ≤ most

pub record GoodPoints (l : List Point) : Type 0 where
  pub in_range_lem : (p : Point) → p ∈ l → T (in_range p)
  pub few : length (point_items l) ≤ most

pub record GoodRegion (l : List Segment) : Type 0 where
  pub segments : GoodSegments l
  pub once : Once l
  pub even : Even l

abbrev pub Writable : Object → Type 0
Writable (points l) = GoodPoints l
Writable (line l) = GoodSegments l
Writable (region l) = GoodRegion l

pub split_writable : (l : List Segment) → ((t : Segment) → t ∈ l → T (segment_in_range t)) → Split l → length (line_items l) ≤ most → GoodSegments l
split_writable l r s few = record { in_range_lem = r; in_order = λ t m. ordered_make t (s.ordered t m); apart = s.apart; few = few }

pub regular_writable : (l : List Segment) → ((t : Segment) → t ∈ l → T (segment_in_range t)) → Regular l → length (line_items l) ≤ most → GoodRegion l
regular_writable l r g few = record { segments = split_writable l r g.split few; once = g.split.once; even = g.even }

-- ---- its elements are good

pub halves_of : (l : List Segment) → GoodSegments l → Halves l (line_items l)
halves_of l g = line_halves l g.in_order g.apart

good_half : (l : List Segment) → GoodSegments l → (h : Halfsegment) → h ∈ line_items l → GoodSegment h.segment
good_half l g h m = record { in_range_lem = g.in_range_lem h.segment ((halves_of l g).of_list m); in_order = g.in_order h.segment ((halves_of l g).of_list m) }

good_edges : (l : List Segment) → GoodSegments l → AllGood Region (region_items l)
unfolding region_items
good_edges l g x m =
    let w = map_in (edge_of l) (line_items l) m in
    subst (λ (e : Edge). GoodSegment e.half.segment) w.2 (good_half l g w.0 w.1)

region_length : (l : List Segment) → length (region_items l) ≡ length (line_items l)
unfolding region_items
region_length l = length-map (line_items l) (edge_of l)

good_items : (o : Object) → Writable o → AllGood (shape_in o) (items_of o)
good_items (points l) g p m = g.in_range_lem p (points_in l m)
good_items (line l) g h m = good_half l g h m
good_items (region l) g e m = good_edges l g.segments e m

few_items : (o : Object) → Writable o → length (items_of o) ≤ most
few_items (points l) g = g.few
few_items (line l) g = g.few
few_items (region l) g = omega (arith, region_length l, g.segments.few)

-- ---- it is read as what was written

abbrev pub layout_of : Object → ℕ → Layout
layout_of o start = layout (shape_in o) start (length (items_of o))

module _ (s : List ℕ) (start : ℕ) (o : Object) (w : Writable o) (stands : Stands s start (object_bytes o)) where
  pub read_back : IsObject s (layout_of o start)
  read_back = object_back s start (shape_in o) (items_of o) stands (good_items o w) (few_items o w)

pub line_read : (s : List ℕ) (start : ℕ) (l : List Segment) → GoodSegments l → Stands s start (object_bytes (line l)) → ReadAs s (layout_of (line l) start) l (line_items l)
line_read s start l g stands = record {
  has = refl;
  read = read_back s start (line l) g stands;
  many = refl;
  half_is = λ i h. element_back s start Line (line_items l) stands (good_items (line l) g) nowhere i h;
  ia_is = λ e i h. absurd (false≢true e);
}

pub region_read : (s : List ℕ) (start : ℕ) (l : List Segment) → GoodRegion l → Stands s start (object_bytes (region l)) → ReadAs s (layout_of (region l) start) l (line_items l)
unfolding region_items
region_read s start l g stands = record {
  has = refl;
  read = read_back s start (region l) g stands;
  many = region_length l;
  half_is = λ i h. ap (λ (e : Edge). e.half) (edge i h);
  ia_is = λ e i h. ap (λ (e : Edge). e.ia) (edge i h) ∙ ap (λ (e : Edge). interior_above l e.half.segment) (sym (edge i h));
}
  where
    edge : (i : ℕ) → i < length (region_items l) → record { half = half s (layout_of (region l) start) i; ia = ia s (layout_of (region l) start) i } ≡ edge_of l (get_or (line_items l) i nowhere)
    edge i h =
        element_back s start Region (region_items l) stands (good_items (region l) g) (edge_of l nowhere) i h
        ∙ get_or-map (edge_of l) (line_items l) i nowhere

-- ---- no condition of one object has a fault

module _ (s : List ℕ) (lay : Layout) where
  no_odd_end : is_region lay.shape ≡ false → odd_end s lay ≡ None
  unfolding odd_end
  no_odd_end e = no_fault lay (ends_oddly s lay) (λ i h. rw e)

  no_wrong_ia : is_region lay.shape ≡ false → wrong_ia s lay ≡ None
  unfolding wrong_ia
  no_wrong_ia e = no_fault lay (has_wrong_ia s lay) (λ i h. rw e)

  none_unpaired : has_segments lay.shape ≡ false → unpaired s lay ≡ None
  unfolding unpaired
  none_unpaired e = no_fault lay (is_unpaired s lay) (λ i h. rw e)

  none_touching : (others : List Segment) → has_segments lay.shape ≡ false → touching s lay others ≡ None
  unfolding touching
  none_touching others e = no_fault lay (is_touching s lay others) (λ i h. rw e)

  none_touching_itself : has_segments lay.shape ≡ false → touching_itself s lay ≡ None
  unfolding touching_itself
  none_touching_itself e = none_touching (segments s lay) e

points_ordered : (s : List ℕ) (start : ℕ) (l : List Point) → GoodPoints l → Stands s start (object_bytes (points l)) → out_of_order s (layout_of (points l) start) ≡ None
unfolding out_of_order
points_ordered s start l g stands = no_fault lay (is_misplaced s lay) wrong
  where
    lay : Layout
    lay = layout_of (points l) start

    is : (i : ℕ) → i < lay.count → point_at s (place lay i) ≡ get_or (point_items l) i origin
    is i h = element_back s start Points (point_items l) stands (good_items (points l) g) origin i h

    back : (i : ℕ) → suc i - 1 ≡ i
    back i = omega arith

    rises : (i : ℕ) → suc i < lay.count → T (before (point_at s (place lay i)) (point_at s (place lay (suc i))))
    rises i h =
        subst₂ (λ (p q : Point). T (before p q)) (sym (is i (omega arith))) (sym (is (suc i) h))
        (sorted_at (points_in_order l) origin i (suc i) (omega arith) h)

    wrong : (i : ℕ) → i < lay.count → is_misplaced s lay i ≡ false
    wrong zero h = refl
    wrong (suc i) h =
        ap (λ (b : Bool). ltb 0 (suc i) && not b)
        (ap (λ (j : ℕ). is_in_order s lay j (suc i)) (back i) ∙ order_of_points s lay i (suc i) refl ∙ true_is (before (point_at s (place lay i)) (point_at s (place lay (suc i)))) (rises i h))
        ∙ and-false (ltb 0 (suc i))

pub no_faults : (s : List ℕ) (start : ℕ) (o : Object) → Writable o → Stands s start (object_bytes o) → NoFault s (layout_of o start) object_rules
no_faults s start (points l) g stands =
    (points_ordered s start l g stands, (none_unpaired s lay refl, (none_touching_itself s lay refl, (no_odd_end s lay refl, (no_wrong_ia s lay refl, tt)))))
  where
    lay : Layout
    lay = layout_of (points l) start
no_faults s start (line l) g stands =
    (order_passes r q ord apart, (pairs_pass r q ord apart, (touch_passes r q ord apart, (no_odd_end s lay refl, (no_wrong_ia s lay refl, tt)))))
  where
    lay : Layout
    lay = layout_of (line l) start

    r : ReadAs s lay l (line_items l)
    r = line_read s start l g stands

    q : Halves l (line_items l)
    q = halves_of l g

    ord : AllOrdered l
    ord = g.in_order

    apart : Across l l
    apart = g.apart
no_faults s start (region l) g stands =
    (order_passes r q ord apart, (pairs_pass r q ord apart, (touch_passes r q ord apart, (ends_pass r q ord apart g.once g.even, (ia_passes r q ord apart g.once, tt)))))
  where
    r : ReadAs s (layout_of (region l) start) l (line_items l)
    r = region_read s start l g stands

    q : Halves l (line_items l)
    q = halves_of l g.segments

    ord : AllOrdered l
    ord = g.segments.in_order

    apart : Across l l
    apart = g.segments.apart

-- ---- the verdicts

pub no_refusal : {A B : Type 0} (refuse : Refusal → B) (b : B) (s : List ℕ) (a : A) (rules : List (Rule A)) → NoFault s a rules → judge refuse b (conditions rules s a) ≡ b
no_refusal refuse b s a [] n = refl
no_refusal refuse b s a (r ∷ rules) n =
    ap (λ (f : Fault). decide refuse r.reason f (judge refuse b (conditions rules s a))) n.0 ∙ no_refusal refuse b s a rules n.1

-- the bytes of one object
pub object_taken : (o : Object) → Writable o → check_object (object_bytes o) ≡ Ok (layout_of o 0)
unfolding check_object
object_taken o w =
    ap (checked_object (object_bytes o)) (alone_back (shape_in o) (items_of o) (good_items o w) (few_items o w))
    ∙ no_refusal Err (Ok (layout_of o 0)) (object_bytes o) (layout_of o 0) object_rules (no_faults (object_bytes o) 0 o w (stands_whole (object_bytes o)))

-- ---- points and segments given in order are read back as they are

pub points_back : (s : List ℕ) (start : ℕ) (l : List Point) → GoodPoints l → Stands s start (object_bytes (points l)) → Sorted (λ p q. T (before p q)) l
    → map (λ i. point_at s (place (layout_of (points l) start) i)) (elements (layout_of (points l) start)) ≡ l
points_back s start l g stands sorted = elements_back s start Points (point_items l) stands (good_items (points l) g) ∙ points_as_given l sorted

module _ (s : List ℕ) (lay : Layout) (l : List Segment) (g : GoodSegments l) (r : ReadAs s lay l (line_items l)) where
  as_given_lem : Sorted LeftBefore l → segments s lay ≡ l
  as_given_lem sorted =
      sorted_unique LeftBefore (λ t u m n a b. comes_irreflexive (half_of true t) (comes_trans (half_of true t) (half_of true u) (half_of true t) (own t m) (own u n) (own t m) a b))
      (segments_sorted r q g.in_order g.apart) sorted (λ t m. segments_in r q g.in_order g.apart m) (λ t m. in_segments r q g.in_order g.apart m)
    where
      q : Halves l (line_items l)
      q = halves_of l g

      own : (t : Segment) → t ∈ segments s lay → T (ordered t)
      own t m = g.in_order t (segments_in r q g.in_order g.apart m)

pub line_back : (s : List ℕ) (start : ℕ) (l : List Segment) → GoodSegments l → Stands s start (object_bytes (line l)) → Sorted LeftBefore l → segments s (layout_of (line l) start) ≡ l
line_back s start l g stands = as_given_lem s (layout_of (line l) start) l g (line_read s start l g stands)

pub region_back : (s : List ℕ) (start : ℕ) (l : List Segment) → GoodRegion l → Stands s start (object_bytes (region l)) → Sorted LeftBefore l → segments s (layout_of (region l) start) ≡ l
region_back s start l g stands = as_given_lem s (layout_of (region l) start) l g.segments (region_read s start l g stands)
