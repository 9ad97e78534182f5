-- What condition 15 gives: the midpoint of a segment of the one object lies on the other's segments where it is one of them, and nowhere else.
use mathlib.Core.Path.{◌≡◌, subst}
use mathlib.Core.Logic.{◌⊎◌, inl, inr}
use mathlib.Core.List.{List}
use lib.Dec.{T}
use Rattle.whole.specs.Count.{◌∈◌}
use Rattle.whole.proofs.Logic.{same_test, some_find, some_make}
use Rattle.whole.proofs.Sign.{one_pos}
use Rattle.plane.specs.declared.Segment.{Segment}
use Rattle.plane.specs.Plane.{midpoint, is_same_segment, on, is_on_some}
use Rattle.plane.proofs.OnSegment.{Ordered, ordered_read, on_along, along_on}
use Rattle.plane.proofs.Equal.{same_segment_read, same_segment_refl}
use Rattle.plane.proofs.Means.{middle, middle_inner}
use Rattle.plane.proofs.AlongSegment.{Apart}
use Rattle.plane.proofs.Accepted.{AllOrdered}
use Rattle.flags.specs.Flags.{has_segment}
use Rattle.flags.specs.Elements.{Clear}

pub clear_of : (l : List Segment) → AllOrdered l → (t : Segment) → Ordered t → ((u : Segment) → u ∈ l → (t ≡ u) ⊎ Apart t u) → Clear l t
unfolding is_on_some
clear_of l ord t o apart = same_test (is_on_some l (midpoint t)) (has_segment l t) to from
  where
    to : T (is_on_some l (midpoint t)) → T (has_segment l t)
    to h = let w = some_find (λ u. on u (midpoint t)) l h in equal w.0 w.1 w.2 (apart w.0 w.1)
      where
        equal : (u : Segment) → u ∈ l → T (on u (midpoint t)) → (t ≡ u) ⊎ Apart t u → T (has_segment l t)
        equal u m h (inl e) = some_make (is_same_segment t) m (subst (λ u. T (is_same_segment t u)) e (same_segment_refl t))
        equal u m h (inr a) = absurd (middle_inner t o (a (midpoint t) (one_pos 1) (middle t) (on_along u (midpoint t) (ordered_read u (ord u m)) h)).0)

    from : T (has_segment l t) → T (is_on_some l (midpoint t))
    from h =
        let w = some_find (is_same_segment t) l h in
        some_make (λ u. on u (midpoint t)) w.1 (subst (λ u. T (on u (midpoint t))) (same_segment_read t w.0 w.2) (along_on t (midpoint t) o (middle t)))
