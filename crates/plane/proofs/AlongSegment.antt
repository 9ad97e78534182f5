-- Parity along one's own segment: at a point of s that no other segment of the list passes through, the count below has the parity that it
-- has at s's midpoint, where s shares only common ends with the others.
use mathlib.Core.Path.{◌≡◌, subst}
use mathlib.Core.Logic.{◌⊎◌, ⊎_elim}
use mathlib.Core.List.{List}
use Rattle.whole.specs.Count.{◌∈◌}
use Rattle.whole.proofs.Sign.{Pos, one_pos}
use Rattle.whole.proofs.Parity.{parity}
use Rattle.plane.specs.declared.Segment.{Segment}
use Rattle.plane.specs.Plane.{HPoint, midpoint, counts_below}
use Rattle.plane.proofs.OnSegment.{Along, Ordered, width, on_line}
use Rattle.plane.proofs.Meeting.{Clear, aligned, Meets, clear_or_meets}
use Rattle.plane.proofs.Means.{EndOf, between_multiple, between_compose, collinear, middle, end_beside_middle}
use Rattle.plane.proofs.Path.{Even, path}

-- Every common point of s and t is an end of both
abbrev pub Apart : Segment → Segment → Type 0
Apart s t = (p : HPoint) → Pos p.W → Along s p → Along t p → EndOf s p × EndOf t p

module _ (s : Segment) (o : Ordered s) (p : HPoint) (p_pos : Pos p.W) (h : Along s p) where
  own : Clear p (midpoint s) s
  own = aligned (on_line s p h) (on_line s (midpoint s) (middle s)) (collinear h (middle s)).0 (collinear h (middle s)).1

  -- a common point of the way to the midpoint and of another segment would be p itself
  other : (t : Segment) → (Along t p → ⊥) → Apart s t → Clear p (midpoint s) t
  other t off apart = ⊎_elim (λ c. c) (λ m. absurd (clash m)) (clear_or_meets p (midpoint s) p_pos (one_pos 1) t)
    where
      clash : Meets p (midpoint s) t → ⊥
      clash m =
          off (between_multiple (end_beside_middle s o h m.on_path m.z_pos (apart m.z m.z_pos (between_compose h (middle s) m.on_path) m.on_segment).0) m.on_segment)

  pub along_segment : (l : List Segment) → Even l → ((t : Segment) → t ∈ l → Ordered t)
      → ((t : Segment) → t ∈ l → (s ≡ t) ⊎ ((Along t p → ⊥) × Apart s t))
      → parity (counts_below p) l ≡ parity (counts_below (midpoint s)) l
  along_segment l even ord each =
      path p (midpoint s) p_pos (one_pos 1) l even (λ t m. width (ord t m))
      (λ t m. ⊎_elim (λ e. subst (Clear p (midpoint s)) e own) (λ k. other t k.0 k.1) (each t m))
