-- What the sweep's notes say: of a segment that is none of the other object's, a region's, whether its midpoint and its ends off the region lie inside;
-- of a point that is no end of the other object's segments, whether it lies on them, or inside.
use Prim.Native.Nat.{ℕ, ◌+◌, ◌<◌}
use native.Mathlib.Omega.{arith}
use mathlib.Core.Path.{◌≡◌, refl, sym, ap, subst, ◌∙◌}
use mathlib.Core.Logic.{⊎_elim}
use mathlib.Core.Bool.{Bool, true, false, not, ◌&&◌, ◌||◌, cond, true≢false}
use mathlib.Core.List.{List}
use lib.Dec.{T, T_not, eqb, ltb}
use lib.ListN.{get_or}
use borrow.Author.Tests.{ltb-false}
use Rattle.whole.specs.Count.{◌∈◌, bit, odd, count}
use Rattle.whole.proofs.Sign.{one_pos}
use Rattle.whole.proofs.Logic.{and_make, is_true, true_is, is_false, refute}
use Rattle.whole.proofs.Parity.{odd_count}
use Rattle.plane.specs.declared.Segment.{Segment}
use Rattle.plane.specs.Plane.{HPoint, grid, fractions, midpoint, ordered, is_end, is_on_some, inside, ends_at, counts_below, SharePoint, touch}
use Rattle.plane.proofs.OnSegment.{Ordered, ordered_read, on_along}
use Rattle.plane.proofs.Scale.{fractions_pos}
use Rattle.plane.proofs.Touch.{touch_sound}
use Rattle.plane.proofs.Means.{end_read, end_make}
use Rattle.plane.proofs.AlongSegment.{Apart}
use Rattle.plane.proofs.Accepted.{Across}
use Rattle.scene.specs.declared.Shape.TheVariants.{Points}
use Rattle.scene.specs.declared.Layout.{Layout}
use Rattle.scene.specs.declared.Scene.{Scene}
use Rattle.scene.specs.Conditions.{has_segments, is_region, half, segments}
use Rattle.scene_segments.proofs.Elements.{region_segments}
use Rattle.sweep_laws.specs.Lower.{under}
use Rattle.sweep_laws.specs.Noted.{segment_note, point_note, Noted}
use Rattle.sweep_laws.proofs.Start.{start_inside}
use Rattle.check_verdict.proofs.Laws.{SoundObject, segment_in, all_ordered, regular}
use Rattle.flags.specs.Flags.{has_segment, on_object}
use Rattle.flags.specs.Elements.{point_of}
use Rattle.flags.proofs.Clear.{clear_of}
use Rattle.cells_matrix.proofs.Common.{end_along, is_in, in_has, moving}
use Rattle.scene_keys.specs.Keyed.{element_point}
use Rattle.flags_meetings.specs.Met.{degree}
use Rattle.flags_table.proofs.Degrees.{degree_ends, point_itself}
use Rattle.flags_table.proofs.Ends.{end_degree, own_degree, end_on, end_of_half, on_degree}

-- the note of each segment of own that is none of the other's
abbrev pub Knows : List ℕ → Layout → Layout → (ℕ → ℕ) → Type 0
Knows s own other note =
    (i : ℕ) → i < own.count → has_segment (segments s other) (half s own i).segment ≡ false
    → note i ≡ segment_note (segments s other) (half s own i).segment

module _ {s : List ℕ} {sc : Scene} {notes : List ℕ} (n : Noted s sc notes) where
  all_of : {b : Bool} {k m : ℕ} → b ≡ true → k < m → k < cond b m 0
  all_of {k = k} {m = m} e h = subst (λ b. k < cond b m 0) (sym e) h

  pub knows_f : has_segments sc.f.shape ≡ true → Knows s sc.f sc.g (λ i. get_or notes i 0)
  knows_f has i h none = n.of_segments true i (all_of has h) none

  pub knows_g : has_segments sc.g.shape ≡ true → Knows s sc.g sc.f (λ j. get_or notes (1024 + j) 0)
  knows_g has j h none = n.of_segments false j (all_of has h) none

-- segments that share only common ends do not touch
untouched : (t u : Segment) → T (ordered t) → T (ordered u) → Apart t u → touch t u ≡ false
untouched t u o p apart = refute (touch t u) (λ h. shares (touch_sound t u (ordered_read t o) (ordered_read u p) h))
  where
    shares : SharePoint t u → ⊥
    shares w =
        let e = apart (fractions w.shared) (fractions_pos w.shared) (on_along t (fractions w.shared) (ordered_read t o) w.on_one) (on_along u (fractions w.shared) (ordered_read u p) w.on_other) in
        T_not (is_end t (fractions w.shared) && is_end u (fractions w.shared)) w.not_both_ends
        (and_make (is_end t (fractions w.shared)) (is_end u (fractions w.shared)) (end_make t (fractions w.shared) e.0) (end_make u (fractions w.shared) e.1))

not_nought : (b : Bool) → b ≡ not (eqb (bit b) 0)
not_nought true = refl
not_nought false = refl

is_one : (b : Bool) → b ≡ eqb (bit b) 1
is_one true = refl
is_one false = refl

-- no point on the segments is inside
off_or_on : (l : List Segment) (p : HPoint) (b : Bool) {r : Bool} → is_on_some l p ≡ b → (b ≡ false → inside l p ≡ r) → inside l p ≡ not b && r
unfolding inside
off_or_on l p true on e = ap (λ c. not c && odd (count (counts_below p) l)) on
off_or_on l p false on e = e refl

-- ---- beside a region

module _ {s : List ℕ} {own other : Layout} (is : SoundObject s own) (are : SoundObject s other) (has : has_segments own.shape ≡ true) (region : is_region other.shape ≡ true)
    (across : Across (segments s own) (segments s other)) {note : ℕ → ℕ} (knows : Knows s own other note) (i : ℕ) (h : i < own.count) where
  own_in : (half s own i).segment ∈ segments s own
  own_in = segment_in is has i h

  ord : (u : Segment) → u ∈ segments s other → Ordered u
  ord u m = ordered_read u (all_ordered are u m)

  differs : has_segment (segments s other) (half s own i).segment ≡ false → (u : Segment) → u ∈ segments s other → (half s own i).segment ≡ u → ⊥
  differs none u m e =
      T_not (has_segment (segments s other) (half s own i).segment) (is_false (has_segment (segments s other) (half s own i).segment) none)
      (in_has (segments s other) (half s own i).segment (subst (λ r. r ∈ segments s other) (sym e) m))

  -- the note of a segment that is none of the region's: 1 where its midpoint is inside, else 0
  middle_noted : has_segment (segments s other) (half s own i).segment ≡ false → bit (inside (segments s other) (midpoint (half s own i).segment)) ≡ note i
  middle_noted none =
      ap bit
      (start_inside (half s own i).segment (ordered_read (half s own i).segment (all_ordered is (half s own i).segment own_in)) (segments s other) (regular are region).even ord clear (differs none)
      ∙ sym (odd_count (under (half s own i).segment) (segments s other)))
      ∙ sym (knows i h none)
    where
      clear : (u : Segment) → u ∈ segments s other → touch (half s own i).segment u ≡ false
      clear u m =
          untouched (half s own i).segment u (all_ordered is (half s own i).segment own_in) (all_ordered are u m)
          (⊎_elim (λ e. absurd (differs none u m e)) (λ a. a) (across (half s own i).segment u own_in m))

  -- the midpoint lies on the region where the segment is one of the region's
  pub middle_on : is_on_some (segments s other) (midpoint (half s own i).segment) ≡ has_segment (segments s other) (half s own i).segment
  middle_on =
      clear_of (segments s other) (all_ordered are) (half s own i).segment (ordered_read (half s own i).segment (all_ordered is (half s own i).segment own_in)) (λ u m. across (half s own i).segment u own_in m)

  pub middle_inside : inside (segments s other) (midpoint (half s own i).segment) ≡ not (has_segment (segments s other) (half s own i).segment) && not (eqb (note i) 0)
  middle_inside = off_or_on (segments s other) (midpoint (half s own i).segment) (has_segment (segments s other) (half s own i).segment) middle_on (λ none. not_nought (inside (segments s other) (midpoint (half s own i).segment)) ∙ ap (λ n. not (eqb n 0)) (middle_noted none))

  pub middle_outside : not (has_segment (segments s other) (half s own i).segment) && not (inside (segments s other) (midpoint (half s own i).segment))
      ≡ not (has_segment (segments s other) (half s own i).segment) && eqb (note i) 0
  middle_outside =
      ap (λ b. not (has_segment (segments s other) (half s own i).segment) && not b) middle_inside
      ∙ go (has_segment (segments s other) (half s own i).segment) (eqb (note i) 0)
    where
      go : (x z : Bool) → not x && not (not x && not z) ≡ not x && z
      go true z = refl
      go false true = refl
      go false false = refl

  -- an element's point lies on the region where it has a degree there; off it, the note is 1 where the point is inside, else 0
  end_on_region : on_object (segments s other) (element_point s own i) ≡ ltb 0 (degree s other (element_point s own i))
  end_on_region = on_degree is are (region_segments other.shape region) across (element_point s own i) (half s own i).segment own_in (end_of_half is has i)

  end_noted : ltb 0 (degree s other (element_point s own i)) ≡ false → bit (inside (segments s other) (grid (element_point s own i))) ≡ note i
  end_noted e =
      ap bit
      (moving (segments s other) (regular are region) (half s own i).segment (ordered_read (half s own i).segment (all_ordered is (half s own i).segment own_in)) (λ u m. across (half s own i).segment u own_in m) (is_false (has_segment (segments s other) (half s own i).segment) none)
      (grid (element_point s own i)) (one_pos 0) (end_along (half s own i).segment (grid (element_point s own i)) (one_pos 0) (end_read (half s own i).segment (grid (element_point s own i)) (end_of_half is has i)))
      (is_false (is_on_some (segments s other) (grid (element_point s own i))) (end_on_region ∙ e)))
      ∙ middle_noted none
    where
      none : has_segment (segments s other) (half s own i).segment ≡ false
      none =
          refute (has_segment (segments s other) (half s own i).segment)
          (λ k. true≢false (sym (own_degree are (region_segments other.shape region) (element_point s own i) (half s own i).segment (is_in (segments s other) (half s own i).segment k) (end_of_half is has i)) ∙ e))

  -- so it is inside where it is off the region and the note is 1, which is where it is not 0
  pub end_one : inside (segments s other) (grid (element_point s own i)) ≡ not (ltb 0 (degree s other (element_point s own i))) && eqb (note i) 1
  end_one =
      off_or_on (segments s other) (grid (element_point s own i)) (ltb 0 (degree s other (element_point s own i))) end_on_region
      (λ e. is_one (inside (segments s other) (grid (element_point s own i))) ∙ ap (λ n. eqb n 1) (end_noted e))

  pub end_not_nought : inside (segments s other) (grid (element_point s own i)) ≡ not (ltb 0 (degree s other (element_point s own i))) && not (eqb (note i) 0)
  end_not_nought =
      off_or_on (segments s other) (grid (element_point s own i)) (ltb 0 (degree s other (element_point s own i))) end_on_region
      (λ e. not_nought (inside (segments s other) (grid (element_point s own i))) ∙ ap (λ n. not (eqb n 0)) (end_noted e))

-- ---- a point beside segments

module _ {s : List ℕ} {sc : Scene} {notes : List ℕ} (n : Noted s sc notes) (points : sc.f.shape ≡ Points) (are : SoundObject s sc.g) (has : has_segments sc.g.shape ≡ true) (i : ℕ) (h : i < sc.f.count) where
  point_note_lem : ltb 0 (degree s sc.g (element_point s sc.f i)) ≡ false → get_or notes i 0 ≡ point_note (segments s sc.g) (element_point s sc.f i)
  point_note_lem e =
      n.of_points points (is_true (has_segments sc.g.shape) has) i h (ap (λ v. ends_at (segments s sc.g) (grid v)) (sym itself) ∙ sym (degree_ends are has (element_point s sc.f i)) ∙ none)
      ∙ ap (point_note (segments s sc.g)) (sym itself)
    where
      itself : element_point s sc.f i ≡ point_of s sc.f i
      itself = point_itself s sc.f points i

      none : degree s sc.g (element_point s sc.f i) ≡ 0
      none = omega (arith, ltb-false 0 (degree s sc.g (element_point s sc.f i)) e)

  on_end : T (ltb 0 (degree s sc.g (element_point s sc.f i))) → T (on_object (segments s sc.g) (element_point s sc.f i))
  on_end t = end_on are has (element_point s sc.f i) (subst T (sym (end_degree are has (element_point s sc.f i))) t)

  pub point_on : on_object (segments s sc.g) (element_point s sc.f i) ≡ ltb 0 (degree s sc.g (element_point s sc.f i)) || ltb 1 (get_or notes i 0)
  point_on = go (ltb 0 (degree s sc.g (element_point s sc.f i))) refl on_end
    where
      two : (a b : Bool) → a ≡ ltb 1 (cond a 2 (bit b))
      two true b = refl
      two false true = refl
      two false false = refl

      go : (b : Bool) → ltb 0 (degree s sc.g (element_point s sc.f i)) ≡ b → (T b → T (on_object (segments s sc.g) (element_point s sc.f i)))
          → on_object (segments s sc.g) (element_point s sc.f i) ≡ b || ltb 1 (get_or notes i 0)
      go true e on = true_is (on_object (segments s sc.g) (element_point s sc.f i)) (on tt)
      go false e on = two (on_object (segments s sc.g) (element_point s sc.f i)) (odd (count (counts_below (grid (element_point s sc.f i))) (segments s sc.g))) ∙ ap (ltb 1) (sym (point_note_lem e))

  pub point_inside : inside (segments s sc.g) (grid (element_point s sc.f i)) ≡ not (ltb 0 (degree s sc.g (element_point s sc.f i))) && eqb (get_or notes i 0) 1
  unfolding inside
  point_inside = go (ltb 0 (degree s sc.g (element_point s sc.f i))) refl on_end
    where
      one : (a b : Bool) → not a && b ≡ eqb (cond a 2 (bit b)) 1
      one true b = refl
      one false true = refl
      one false false = refl

      go : (b : Bool) → ltb 0 (degree s sc.g (element_point s sc.f i)) ≡ b → (T b → T (on_object (segments s sc.g) (element_point s sc.f i)))
          → inside (segments s sc.g) (grid (element_point s sc.f i)) ≡ not b && eqb (get_or notes i 0) 1
      go true e on = ap (λ b. not b && odd (count (counts_below (grid (element_point s sc.f i))) (segments s sc.g))) (true_is (on_object (segments s sc.g) (element_point s sc.f i)) (on tt))
      go false e on = one (on_object (segments s sc.g) (element_point s sc.f i)) (odd (count (counts_below (grid (element_point s sc.f i))) (segments s sc.g))) ∙ ap (λ n. eqb n 1) (sym (point_note_lem e))
