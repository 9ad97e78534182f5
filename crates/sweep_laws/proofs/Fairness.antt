-- What the conditions 11 to 15 give the sweep, where they find no fault: each strand has both halfsegments, no two segments touch, and an ia tells how
-- many of a region's own pass under the beginning.
use Prim.Native.Nat.{ℕ, ◌<◌}
use mathlib.Core.Path.{◌≡◌, refl, sym, ap, ◌∙◌, subst}
use mathlib.Core.Bool.{Bool, true, false, not, ◌&&◌}
use mathlib.Core.List.{List}
use lib.Dec.{T}
use Rattle.whole.specs.Count.{◌∈◌, odd, count}
use Rattle.whole.proofs.Logic.{true_is}
use Rattle.whole.proofs.Parity.{odd_count}
use Rattle.plane.specs.declared.Segment.{Segment}
use Rattle.plane.specs.Plane.{touch}
use Rattle.plane.proofs.OnSegment.{ordered_read}
use Rattle.plane.proofs.Accepted.{Regular}
use Rattle.scene.specs.declared.Scene.{Scene}
use Rattle.scene.specs.Read.{place, ia_at, IsScene}
use Rattle.scene.specs.Conditions.{is_region, segments}
use Rattle.sweep_laws.specs.Lower.{under}
use Rattle.sweep_laws.specs.Swept.{object_of, total, InOrder, Passes}
use Rattle.sweep_laws.proofs.Begun.{strand_by}
use Rattle.sweep_laws.proofs.Objects.{has, read}
use Rattle.sweep_laws.proofs.Start.{start_interior}
use Rattle.sweep_laws.proofs.SoundObject.{SoundObject, partner_of, segment_in, all_ordered, no_touch, no_touch_across, regular, ia_is}
use Rattle.sweep_laws.proofs.Complete.{Other, Fair}

module _ (s : List ℕ) (sc : Scene) (is : IsScene s sc) (order : InOrder s sc) (passes : Passes s sc) where
  pub sound : (first : Bool) → SoundObject s (object_of s sc first)
  sound first = record { read = read s sc is first; order = order first; paired = passes.paired first; apart = passes.apart first; even = passes.even first; right_ia = passes.right_ia first }

  whole : (first : Bool) (k : ℕ) → k < total s sc first → total s sc first ≡ (object_of s sc first).count
  whole first k h = rw (has s sc first k h).0

  both_halves : (first : Bool) (k : ℕ) → k < total s sc first → Other s sc first k
  both_halves first k h =
      let p = partner_of (sound first) (has s sc first k h).0 k (has s sc first k h).1 in
      record {
        index = p.index;
        there = subst (λ (n : ℕ). p.index < n) (sym (whole first k h)) p.there;
        other_side = p.other_side;
        is = λ i. record { first = first; segment = p.same_segment i; ia = p.same_ia_lem i };
      }

  listed : (first : Bool) (k : ℕ) → k < total s sc first → (strand_by s sc first k).segment ∈ segments s (object_of s sc first)
  listed first k h = segment_in (sound first) (has s sc first k h).0 k (has s sc first k h).1

  -- 12 and 15
  untouched : (first other : Bool) (k m : ℕ) → k < total s sc first → m < total s sc other → touch (strand_by s sc first k).segment (strand_by s sc other m).segment ≡ false
  untouched true true k m h l = no_touch (sound true) (strand_by s sc true k).segment (strand_by s sc true m).segment (listed true k h) (listed true m l)
  untouched false false k m h l = no_touch (sound false) (strand_by s sc false k).segment (strand_by s sc false m).segment (listed false k h) (listed false m l)
  untouched true false k m h l = (no_touch_across (sound true) (sound false) passes.across (strand_by s sc true k).segment (strand_by s sc false m).segment (listed true k h) (listed false m l)).0
  untouched false true k m h l = (no_touch_across (sound true) (sound false) passes.across (strand_by s sc true m).segment (strand_by s sc false k).segment (listed true m l) (listed false k h)).1

  -- 14
  interior : (first : Bool) (k : ℕ) → k < total s sc first → T (is_region (object_of s sc first).shape)
      → odd (count (under (strand_by s sc first k).segment) (segments s (object_of s sc first))) ≡ not (ia_at s (place (object_of s sc first) k))
  interior first k h region =
      odd_count (under t) l
      ∙ not_back (start_interior t (ordered_read t (all_ordered (sound first) t own)) l even.even (λ u m. ordered_read u (all_ordered (sound first) u m)) (λ u m. no_touch (sound first) t u own m) (even.split.once t own))
      ∙ ap not (sym (ia_is (sound first) is_region_lem k (has s sc first k h).1) ∙ ap (λ b. b && ia_at s (place (object_of s sc first) k)) is_region_lem)
    where
      t : Segment
      t = (strand_by s sc first k).segment

      l : List Segment
      l = segments s (object_of s sc first)

      own : t ∈ l
      own = listed first k h

      is_region_lem : is_region (object_of s sc first).shape ≡ true
      is_region_lem = true_is _ region

      even : Regular l
      even = regular (sound first) is_region_lem

      not_back : {a b : Bool} → a ≡ not b → b ≡ not a
      not_back {a} {b} e = go b ∙ sym (ap not e)
        where
          go : (x : Bool) → x ≡ not (not x)
          go true = refl
          go false = refl

  pub fair : Fair s sc
  fair = record { other = both_halves; clear = untouched; interior = interior }
