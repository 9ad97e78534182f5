-- An accepted object, by its bytes alone: it is sound, its bytes are those that are written for the object that they stand for, so that an object has one form,
-- and it is one that can be written.
use Rattle.std.specs.Prelude.{Ok}
use Prim.Native.Nat.{ℕ, zero, suc, ◌<◌, ◌≤◌}
use native.Mathlib.Omega.{arith}
use mathlib.Core.Path.{◌≡◌, refl, sym, ap, subst, ◌∙◌}
use mathlib.Core.Bool.{Bool, true, false}
use mathlib.Core.List.{List, [], ◌∷◌, map}
use lib.ListN.{length, length-map}
use lib.Dec.{T}
use Rattle.whole.specs.Count.{◌∈◌}
use Rattle.whole.proofs.Logic.{in_map, map_in, Sorted, sorted_nil, sorted_cons, sorted_map}
use Rattle.whole.proofs.Sorted.{sorted_unique}
use Rattle.plane.specs.declared.Point.{Point}
use Rattle.plane.specs.declared.Halfsegment.{Halfsegment}
use Rattle.plane.specs.Plane.{in_range, ordered, comes_before}
use Rattle.plane.proofs.Order.{comes_irreflexive, comes_trans}
use Rattle.scene.specs.declared.Shape.{Shape}
use Rattle.scene.specs.declared.Shape.TheVariants.{Points, Line, Region}
use Rattle.scene.specs.declared.Layout.{Layout}
use Rattle.scene.specs.Read.{point_at, place, most}
use Rattle.scene.specs.Conditions.{indices, elements, has_segments, half, segments, object, check_object}
use Rattle.scene.proofs.Taken.{layout, taken_object}
use Rattle.scene.proofs.Given.{checked_object_lem}
use Rattle.scene.proofs.Indices.{indices_in, element_in, in_element, map_same}
use Rattle.scene_segments.proofs.Indices.{halves_rise}
use Rattle.check_verdict.proofs.Laws.{SoundObject, sound_object, all_ordered, split, segment_in, half_of_lem, regular, ia_is, segments_in_range, point_in_range, points_sorted}
use Rattle.scene_written.specs.Bytes.{AreBytes, item_at, bytes_of}
use Rattle.scene_written.specs.Arranged.{edge_of, point_items, line_items, region_items, object_bytes}
use Rattle.scene_written.proofs.Arranging.{Halves, line_halves, points_as_given}
use Rattle.scene_written.proofs.Again.{items_at, indices_length, alone_again}
use Rattle.scene_written.proofs.Taken.{GoodPoints, GoodSegments, Writable}

-- ---- an accepted object's elements are those in order

indices_rise : (n j : ℕ) → Sorted ◌<◌ (indices n j)
indices_rise zero j = sorted_nil
indices_rise (suc n) j = sorted_cons (λ i m. (indices_in n (suc j) i m).0) (indices_rise n (suc j))

pub map_twice : {A B C : Type 0} (f : A → B) (g : B → C) (l : List A) → map g (map f l) ≡ map (λ a. g (f a)) l
map_twice f g [] = refl
map_twice {C = C} f g (a ∷ l) = ap (λ (k : List C). g (f a) ∷ k) (map_twice f g l)

module _ {s : List ℕ} {l : Layout} (o : SoundObject s l) where
  points_again : has_segments l.shape ≡ false → point_items (map (λ i. point_at s (place l i)) (elements l)) ≡ map (λ i. point_at s (place l i)) (elements l)
  points_again e =
      points_as_given (map (λ i. point_at s (place l i)) (elements l)) (points_sorted o e)

  pub halves_again : has_segments l.shape ≡ true → line_items (segments s l) ≡ map (half s l) (elements l)
  halves_again e =
      sorted_unique (λ h k. T (comes_before h k)) (λ h k m n a b. comes_irreflexive h (comes_trans h k h (own h m) (own k n) (own h m) a b)) w.in_order
      (sorted_map (half s l) (indices_rise l.count 0) (λ i j m k h. halves_rise s l o.read o.order e i j h (in_element l j k)))
      to from
    where
      w : Halves (segments s l) (line_items (segments s l))
      w = line_halves (segments s l) (all_ordered o) (split o).apart

      own : (h : Halfsegment) → h ∈ line_items (segments s l) → T (ordered h.segment)
      own h m = all_ordered o h.segment (w.of_list m)

      to : (h : Halfsegment) → h ∈ line_items (segments s l) → h ∈ map (half s l) (elements l)
      to h m =
          let v = half_of_lem o h.is_left (w.of_list m) in
          subst (λ (k : Halfsegment). k ∈ map (half s l) (elements l)) v.2 (in_map (half s l) (element_in l v.0 v.1))

      from : (h : Halfsegment) → h ∈ map (half s l) (elements l) → h ∈ line_items (segments s l)
      from h m =
          let v = map_in (half s l) (elements l) m in
          subst (λ (k : Halfsegment). k ∈ line_items (segments s l)) v.2
          (w.both (half s l v.0).is_left (segment_in o e v.0 (in_element l v.0 v.1)))

same_bytes : (s : List ℕ) (k : Shape) (start n : ℕ) → SoundObject s (layout k start n) → object_bytes (object s (layout k start n)) ≡ bytes_of k (items_at s (layout k start n))
unfolding object region_items
same_bytes s Points start n o = ap (bytes_of Points) (points_again o refl)
same_bytes s Line start n o = ap (bytes_of Line) (halves_again o refl)
same_bytes s Region start n o =
    ap (bytes_of Region)
    (ap (map (edge_of (segments s l))) (halves_again o refl) ∙ map_twice (half s l) (edge_of (segments s l)) (elements l)
    ∙ map_same (λ i. edge_of (segments s l) (half s l i)) (λ i. item_at Region s (place l i)) (elements l)
    (λ i m. ap (λ (b : Bool). record { half = half s l i; ia = b }) (sym (ia_is o refl i (in_element l i m)))))
  where
    l : Layout
    l = layout Region start n

-- of an accepted object, each byte below 256, the bytes are those written for it
pub accepted_again : (s : List ℕ) → AreBytes s → (l : Layout) → check_object s ≡ Ok l → object_bytes (object s l) ≡ s
accepted_again s bytes l e = same_bytes s l.shape l.start l.count (sound_object s l e) ∙ sym (alone_again s bytes l (checked_object_lem s l e).0)

-- ---- and an accepted object is one that can be written

module _ {s : List ℕ} {l : Layout} (o : SoundObject s l) where
  few : l.count ≤ most
  few = (taken_object s l.start l o.read).few

  good_points : has_segments l.shape ≡ false → GoodPoints (map (λ i. point_at s (place l i)) (elements l))
  good_points e = record { in_range_lem = at; few = omega (arith, few, all) }
    where
      at : (p : Point) → p ∈ map (λ i. point_at s (place l i)) (elements l) → T (in_range p)
      at p m =
          let w = map_in (λ i. point_at s (place l i)) (elements l) m in
          subst (λ (q : Point). T (in_range q)) w.2 (point_in_range o e w.0 (in_element l w.0 w.1))

      all : length (point_items (map (λ i. point_at s (place l i)) (elements l))) ≡ l.count
      all = ap length (points_again o e) ∙ length-map (elements l) (λ i. point_at s (place l i)) ∙ indices_length l.count 0

  good_segments : has_segments l.shape ≡ true → GoodSegments (segments s l)
  good_segments e = record { in_range_lem = λ t m. segments_in_range o m; in_order = all_ordered o; apart = (split o).apart; few = omega (arith, few, all) }
    where
      all : length (line_items (segments s l)) ≡ l.count
      all = ap length (halves_again o e) ∙ length-map (elements l) (half s l) ∙ indices_length l.count 0

sound_writable : (s : List ℕ) (k : Shape) (start n : ℕ) → SoundObject s (layout k start n) → Writable (object s (layout k start n))
unfolding object
sound_writable s Points start n o = good_points o refl
sound_writable s Line start n o = good_segments o refl
sound_writable s Region start n o = record { segments = good_segments o refl; once = (split o).once; even = (regular o refl).even }

pub accepted_writable : (s : List ℕ) (l : Layout) → check_object s ≡ Ok l → Writable (object s l)
accepted_writable s l e = sound_writable s l.shape l.start l.count (sound_object s l e)
