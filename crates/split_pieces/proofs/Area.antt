-- Twice a region's area by the shoelace sum does not alter: the terms of a segment's pieces sum to its own, and each piece has its ia.
use mathlib.Core.Path.{◌≡◌, refl, ap, ap₂, ◌∙◌}
use mathlib.Core.Bool.{Bool, not}
use mathlib.Core.List.{List, [], ◌∷◌}
use lib.IntN.{ℤ, pos, ◌+ℤ◌, ◌*ℤ◌, ◌-ℤ◌}
use Rattle.whole.specs.Count.{bit, total, ◌∈◌, here, there}
use Rattle.whole.proofs.Solver.{var, con, ◌:+◌, ◌:*◌, solve}
use Rattle.whole.proofs.Logic.{in_left, in_right}
use Rattle.whole.proofs.Totals.{total_append, total_same}
use Rattle.plane.specs.declared.Point.{Point}
use Rattle.plane.specs.declared.Segment.{Segment}
use Rattle.plane.specs.Plane.{interior_above}
use Rattle.plane.specs.Shoelace.{shoelace, weighed, twice_area}
use Rattle.plane.proofs.Accepted.{Regular}
use Rattle.split_pieces.specs.Pieces.{pieces, split_all}
use Rattle.split_pieces.proofs.Chain.{chain_shoelace}
use Rattle.split_pieces.proofs.Unchanged.{AllInside, AllOrdered, chain_of, split_split, split_even, split_interior}

total_times : {A : Type 0} (k : ℤ) (f : A → ℤ) (l : List A) → total (λ a. k *ℤ f a) l ≡ k *ℤ total f l
total_times k f [] = solve (k ∷ []) (con (pos 0)) (var 0 :* con (pos 0)) tt
total_times k f (a ∷ l) =
    ap (λ z. k *ℤ f a +ℤ z) (total_times k f l) ∙ solve (k ∷ f a ∷ total f l ∷ []) (var 0 :* var 1 :+ var 0 :* var 2) (var 0 :* (var 1 :+ var 2)) tt

module _ (cuts : Segment → List Point) where
  -- each piece counts as many times as its segment
  split_total : (weight : Segment → ℤ) (g : Segment → ℤ) (l : List Segment) → AllOrdered l → AllInside cuts l
      → ((s t : Segment) → s ∈ l → t ∈ pieces cuts s → g t ≡ weight s *ℤ shoelace t)
      → total g (split_all cuts l) ≡ total (λ s. weight s *ℤ shoelace s) l
  split_total weight g [] o i h = refl
  split_total weight g (s ∷ l) o i h =
      total_append g (pieces cuts s) (split_all cuts l)
      ∙ ap₂ (λ m n. m +ℤ n)
      (total_same g (λ t. weight s *ℤ shoelace t) (pieces cuts s) (λ t m. h s t here m) ∙ total_times (weight s) shoelace (pieces cuts s)
      ∙ ap (λ z. weight s *ℤ z) (chain_shoelace (chain_of cuts s (o s here) (i s here))))
      (split_total weight g l (λ t m. o t (there m)) (λ t m. i t (there m)) (λ t u m k. h t u (there m) k))

  piece_in : (l : List Segment) (s t : Segment) → s ∈ l → t ∈ pieces cuts s → t ∈ split_all cuts l
  piece_in [] s t m k = elim m [ ]
  piece_in (u ∷ l) s t here k = in_left (split_all cuts l) k
  piece_in (u ∷ l) s t (there m) k = in_right (pieces cuts u) (piece_in l s t m k)

  module _ (l : List Segment) (reg : Regular l) (i : AllInside cuts l) where
    -- 12 and 13 hold of the pieces
    pub split_regular : Regular (split_all cuts l)
    split_regular = record { split = split_split cuts l i reg.split; even = split_even cuts l reg.split.ordered i reg.even }

    -- 14: ia of a piece is ia of its segment
    pub piece_interior : (s t : Segment) → s ∈ l → t ∈ pieces cuts s → interior_above (split_all cuts l) t ≡ interior_above l s
    piece_interior s t m k = split_interior cuts l reg i (split_all cuts l) (λ f. refl) split_regular s t m k (piece_in l s t m k)

    pub split_area : twice_area (split_all cuts l) ≡ twice_area l
    unfolding twice_area weighed
    split_area =
        split_total (λ s. by (interior_above l s)) (λ t. by (interior_above (split_all cuts l) t) *ℤ shoelace t) l reg.split.ordered i
        (λ s t m k. ap (λ b. by b *ℤ shoelace t) (piece_interior s t m k))
      where
        by : Bool → ℤ
        by b = pos (bit b) -ℤ pos (bit (not b))
