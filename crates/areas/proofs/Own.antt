-- A sum over all segments of two regions, each by the sides that one of the two adjoins, is that region's own shoelace sum: no other segment counts.
use mathlib.Core.Path.{◌≡◌, refl, sym, ap, ap₂, subst, ◌∙◌}
use mathlib.Core.Bool.{Bool, true, false, not}
use mathlib.Core.List.{List}
use lib.IntN.{ℤ, pos}
use Rattle.whole.specs.Count.{◌∈◌}
use Rattle.whole.proofs.Logic.{true_is, some_find, some_make, Sorted}
use Rattle.plane.specs.declared.Segment.{Segment}
use Rattle.plane.specs.Plane.{is_same_segment}
use Rattle.plane.proofs.Equal.{same_segment_read, same_segment_refl}
use Rattle.plane.proofs.Accepted.{AllOrdered}
use Rattle.plane.proofs.Order.{LeftBefore, comes_trans, comes_irreflexive, half_of}
use Rattle.flags.specs.Flags.{Edge, outline, has_segment}
use Rattle.overlap.specs.Bytes.{adjoins}
use Rattle.overlap.proofs.Adjoins.{adjoins_other, Marked, adjoins_edge}
use Rattle.whole.proofs.Sorted.{Among, OneWay, sorted_unique, kept, kept_in, in_kept, sorted_kept}
use Rattle.whole.specs.Count.{total}
use Rattle.plane.specs.Shoelace.{shoelace, weighed}
use Rattle.areas.specs.Parts.{own_area}
use Rattle.whole.proofs.Totals.{total_same, total_kept, total_map}
use Rattle.areas.proofs.Weighed.{weighed_same}

-- of two segments one at most comes before the other
pub one_way : (l : List Segment) → AllOrdered l → OneWay LeftBefore l
one_way l o a b i j h k = comes_irreflexive (half_of true a) (comes_trans (half_of true a) (half_of true b) (half_of true a) (o a i) (o b j) (o a i) h k)

-- the segments of l, of all those of M
pub kept_own : (l M : List Segment) → AllOrdered l → Sorted LeftBefore l → Sorted LeftBefore M → Among l M → l ≡ kept (has_segment l) M
kept_own l M o r q among =
    sorted_unique LeftBefore (one_way l o) r (sorted_kept (has_segment l) q) (λ t m. in_kept (has_segment l) (among t m) (true_is (has_segment l t) (some_make (is_same_segment t) m (same_segment_refl t))))
    (λ t m. let w = some_find (is_same_segment t) l (kept_in (has_segment l) M m).1 in subst (λ (u : Segment). u ∈ l) (sym (same_segment_read t w.0 w.2)) w.1)

module _ (R : List Edge) where
  -- by the region's own interior
  abbrev pub region_share : Segment → ℤ
  region_share t = weighed (adjoins true R t) (adjoins false R t) (shoelace t)

  share_none : (t : Segment) → has_segment (outline R) t ≡ false → region_share t ≡ pos 0
  share_none t e =
      ap (λ b. weighed b (adjoins false R t) (shoelace t)) (sym (adjoins_other R t true refl e) ∙ adjoins_other R t false refl e) ∙ weighed_same (adjoins false R t) (shoelace t)

  pub own_total : (a : Segment → Bool) → Marked R a → (M : List Segment) → AllOrdered (outline R) → Sorted LeftBefore (outline R) → Sorted LeftBefore M → Among (outline R) M
      → total region_share M ≡ own_area R
  unfolding own_area
  own_total a mark M o r q among =
      total_kept region_share (has_segment (outline R)) M (λ t m. share_none t)
      ∙ ap (total region_share) (sym (kept_own (outline R) M o r q among))
      ∙ total_map (λ (e : Edge). e.segment) region_share R
      ∙ total_same (λ (e : Edge). region_share e.segment) (λ (e : Edge). weighed e.ia (not e.ia) (shoelace e.segment)) R
      (λ e m. ap₂ (λ x y. weighed x y (shoelace e.segment)) (adjoins_edge R a mark m true) (adjoins_edge R a mark m false))
