-- What a crossing is, in points, and that one off the grid is off it the other way round.
use mathlib.Core.Path.{◌≡◌, refl, sym, ap, ◌∙◌, subst}
use mathlib.Core.Bool.{Bool, true, false, not, cond, true≢false}
use Prim.Native.Nat.{ℕ, ◌+◌}
use native.Mathlib.Omega.{arith}
use lib.Dec.{T, not_T}
use lib.IntN.{pos}
use Rattle.std.specs.Prelude.{Option, Some, None}
use Rattle.std.proofs.lemmas.Option.{none-some}
use Rattle.whole.proofs.Sign.{one_pos}
use Rattle.whole.proofs.Logic.{and_make, is_true, is_false, true_is}
use Rattle.plane.specs.declared.Point.{Point}
use Rattle.plane.specs.declared.Segment.{Segment}
use Rattle.plane.specs.Plane.{HPoint, FractionPoint, SharePoint, fractions, grid, side_at, on, is_at, is_end, cross, end_within, ordered}
use Rattle.plane.proofs.OnSegment.{Ordered, ordered_read, Along, on_along, along_on, on_line}
use Rattle.plane.proofs.Means.{at_read, at_make, end_read}
use Rattle.plane.proofs.Scale.{on_scale, fractions_pos}
use Rattle.plane.proofs.Touch.{at_grid, cross_read, cross_shares}
use Rattle.split_pieces.proofs.Pair.{one_point, off_ends, cross_swap, at_same}
use Rattle.split_crossing.specs.declared.Crossing.{Crossing}
use Rattle.split_crossing.specs.declared.Crossing.TheVariants.{Apart, OffGrid, At}
use Rattle.split_crossing.specs.Crossing.{size_left, size_right, placed_on, crossing_of_point, crossing_of, CrossOffGrid, CrossingMeans}
use Rattle.split_crossing.proofs.Proportion.{Parted, parted_along, parted_line, along_parted, right_size, placed_parted, parted_placed}

-- ---- the definition, taken apart

data Seen (s t : Segment) : Crossing → Type 0 where
  none : cross s t ≡ false → Seen s t Apart
  nowhere : T (cross s t) → ((c : Point) → Parted s t c → ⊥) → Seen s t OffGrid
  there : (c : Point) → T (cross s t) → Parted s t c → Seen s t (At c)

seen : (s t : Segment) → Seen s t (crossing_of s t)
unfolding crossing_of
seen s t = go (cross s t) refl (placed_on s (size_left s t) (size_left s t + size_right s t)) refl
  where
    go : (b : Bool) → cross s t ≡ b → (o : Option Point) → placed_on s (size_left s t) (size_left s t + size_right s t) ≡ o
        → Seen s t (cond b (crossing_of_point o) Apart)
    go true e (Some c) f = there c (is_true (cross s t) e) (placed_parted s t c f)
    go true e None f =
        let x = is_true (cross s t) e in
        nowhere x (λ c h. none-some c (sym f ∙ parted_placed s t (right_size s t (cross_read s t x).1) c h))
    go false e o f = none e

-- ---- in points

module _ (s t : Segment) (os : Ordered s) (ot : Ordered t) where
  -- a common grid point of segments that cross is in the proportion
  both_parted : T (cross s t) → (c : Point) → T (on s (grid c)) → T (on t (grid c)) → Parted s t c
  both_parted x c h k = along_parted s t (cross_read s t x).1 c (on_along s (grid c) os h) (on_line t (grid c) (on_along t (grid c) ot k))

  module _ (x : T (cross s t)) (c : Point) (h : Parted s t c) where
    on_s : Along s (grid c)
    on_s = parted_along s t (cross_read s t x).1 c h

    on_t_line : side_at t (grid c) ≡ pos 0
    on_t_line = parted_line s t (cross_read s t x).1 c h

    -- every common point is there
    only_point : (z : HPoint) → T (on s z) → T (on t z) → T (is_at c z)
    only_point z k l =
        at_make c z (one_point s t (cross_read s t x).1 c z on_s (on_along s z os k) on_t_line (on_line t z (on_along t z ot l)))

    -- and there is one
    shared : SharePoint s t
    shared = cross_shares s t os ot x

    parted_on_t : T (on t (grid c))
    parted_on_t =
        subst T (at_grid (on t) (on_scale t) c (fractions shared.shared) (fractions_pos shared.shared) (only_point (fractions shared.shared) shared.on_one shared.on_other))
        shared.on_other

    parted_on_s : T (on s (grid c))
    parted_on_s = along_on s (grid c) os on_s

    parted_in_s : T (end_within s c)
    unfolding end_within
    parted_in_s =
        and_make (on s (grid c)) (not (is_end s (grid c))) parted_on_s
        (not_T (is_end s (grid c)) (λ e. off_ends s t (cross_read s t x).1 (grid c) (one_pos 0) on_t_line (end_read s (grid c) e)))

    parted_in_t : T (end_within t c)
    unfolding end_within
    parted_in_t =
        and_make (on t (grid c)) (not (is_end t (grid c))) parted_on_t
        (not_T (is_end t (grid c)) (λ e. off_ends t s (cross_read s t x).0 (grid c) (one_pos 0) (on_line s (grid c) on_s) (end_read t (grid c) e)))

  pub crossing_means : CrossingMeans s t (crossing_of s t)
  crossing_means = go (crossing_of s t) (seen s t)
    where
      clash : {A : Type 0} → ◌≡◌ {A = ℕ} 0 1 → A
      clash e = absurd (omega arith)

      go : (r : Crossing) → Seen s t r → CrossingMeans s t r
      go r (none e) = record { apart = λ _. is_false (cross s t) e; off = λ q. clash (cc); at = λ c q. clash (cc) }
      go r (nowhere x n) = record { apart = λ q. clash (cc); off = λ _. record { crossed = x; off = λ c h k. n c (both_parted x c h k) }; at = λ c q. clash (cc) }
      go r (there c x h) =
          record {
            apart = λ q. clash (cc);
            off = λ q. clash (cc);
            at = λ d q. subst (λ c. T (cross s t) × T (end_within s c) × T (end_within t c) × ((z : FractionPoint) → T (on s (fractions z)) → T (on t (fractions z)) → T (is_at c (fractions z)))) (same d q)
                (x, parted_in_s x c h, parted_in_t x c h, λ z. only_point x c h (fractions z));
          }
        where
          same : (d : Point) → At c ≡ At d → c ≡ d
          same d q = cc

  -- ---- and the other way round: from the points to the answer

  pub crossing_at : T (cross s t) → (c : Point) → T (on s (grid c)) → T (on t (grid c)) → crossing_of s t ≡ At c
  crossing_at x c h k = go (crossing_of s t) (seen s t)
    where
      go : (r : Crossing) → Seen s t r → r ≡ At c
      go r (none e) = absurd (true≢false (sym (true_is (cross s t) x) ∙ e))
      go r (nowhere y n) = absurd (n c (both_parted x c h k))
      go r (there d y m) = ap At (at_same d c (at_read d (grid c) (only_point y d m (grid c) h k)))

  crossing_off : CrossOffGrid s t → crossing_of s t ≡ OffGrid
  crossing_off h = go (crossing_of s t) (seen s t)
    where
      go : (r : Crossing) → Seen s t r → r ≡ OffGrid
      go r (none e) = absurd (true≢false (sym (true_is (cross s t) h.crossed) ∙ e))
      go r (nowhere y m) = refl
      go r (there d y m) = absurd (h.off d (parted_on_s y d m) (parted_on_t y d m))

-- with what it says in points
pub with_meaning : (s t : Segment) {r : Crossing} → r ≡ crossing_of s t → (r ≡ crossing_of s t) × (T (ordered s) → T (ordered t) → CrossingMeans s t r)
with_meaning s t e = (e, λ o u. subst (CrossingMeans s t) (sym e) (crossing_means s t (ordered_read s o) (ordered_read t u)))

-- asked of t and s too
module _ (s t : Segment) (os : Ordered s) (ot : Ordered t) where
  pub off_swap : crossing_of s t ≡ OffGrid → crossing_of t s ≡ OffGrid
  off_swap e = let w = (crossing_means s t os ot).off e in crossing_off t s ot os (record { crossed = cross_swap s t w.crossed; off = λ c h k. w.off c k h })
