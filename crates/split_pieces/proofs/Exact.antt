-- "nothing else is cut": a point is a new end of a segment exactly if it is one of its cuts.
use mathlib.Core.Path.{◌≡◌, sym, ◌∙◌, subst}
use mathlib.Core.Logic.{◌⊎◌, inl, inr, ⊎_elim}
use mathlib.Core.Bool.{not}
use mathlib.Core.List.{List}
use lib.Dec.{T, T_not}
use lib.ListN.{length}
use Rattle.whole.specs.Count.{◌∈◌}
use Rattle.whole.proofs.Sign.{one_pos}
use Rattle.whole.proofs.Logic.{and_make, decide, some_find, or_cases}
use Rattle.whole.proofs.Counted.{count_length}
use Rattle.plane.specs.declared.Point.{Point}
use Rattle.plane.specs.declared.Segment.{Segment}
use Rattle.plane.specs.Plane.{grid, before, on, is_at, is_end, end_within}
use Rattle.plane.proofs.OnSegment.{Ordered}
use Rattle.plane.proofs.Equal.{same_point_read}
use Rattle.plane.proofs.Grid.{at_grid}
use Rattle.split_pieces.specs.Pieces.{pieces, EndPoint, NewEnd}
use Rattle.split_pieces.proofs.Chain.{chain_some, inside_on, inside_inner, pieces_exact}
use Rattle.split_pieces.proofs.Unchanged.{chain_of}
use Rattle.split_pieces.proofs.Pair.{pieces_ends, end_of}

end_point : (t : Segment) (c : Point) → T (is_end t (grid c)) → EndPoint t c
unfolding is_end
end_point t c h = ⊎_elim (λ k. inl (at t.left k)) (λ k. inr (at t.right k)) (or_cases (is_at t.left (grid c)) (is_at t.right (grid c)) h)
  where
    at : (e : Point) → T (is_at e (grid c)) → c ≡ e
    at e k = sym (same_point_read e c (subst T (at_grid e c) k))

module _ (cuts : Segment → List Point) (s : Segment) (o : Ordered s) (i : (c : Point) → c ∈ cuts s → T (end_within s c)) where
  pub new_end_cut : (c : Point) → NewEnd cuts s c → c ∈ cuts s
  new_end_cut c n = ⊎_elim left right n.of
    where
      ends : ((n.piece.left ≡ s.left) ⊎ (n.piece.left ∈ cuts s)) × ((n.piece.right ≡ s.right) ⊎ (n.piece.right ∈ cuts s))
      ends = pieces_ends (length (cuts s)) (cuts s) s.left s.right n.piece n.among

      left : c ≡ n.piece.left → c ∈ cuts s
      left e = ⊎_elim (λ f. absurd (n.new (inl (e ∙ f)))) (λ m. subst (λ x. x ∈ cuts s) (sym e) m) ends.0

      right : c ≡ n.piece.right → c ∈ cuts s
      right e = ⊎_elim (λ f. absurd (n.new (inr (e ∙ f)))) (λ m. subst (λ x. x ∈ cuts s) (sym e) m) ends.1

  pub cut_new_end : (c : Point) → c ∈ cuts s → NewEnd cuts s c
  unfolding end_within
  cut_new_end c m = record { piece = w.0; among = w.1; of = end_point w.0 c at_end; new = λ e. T_not (is_end s (grid c)) (inside_inner s c (i c m)) (end_of s c e) }
    where
      w : (t : Segment) × (t ∈ pieces cuts s) × T (on t (grid c))
      w = some_find (λ t. on t (grid c)) (pieces cuts s) (subst T (sym (chain_some (grid c) (one_pos 0) (chain_of cuts s o i))) (inside_on s c (i c m)))

      at_end : T (is_end w.0 (grid c))
      at_end =
          ⊎_elim (λ h. h)
          (λ h. absurd (pieces_exact (length (cuts s)) (cuts s) s.left s.right o (λ d k x y. i d k) (count_length (before s.left) (cuts s)) w.0 w.1 c m (and_make (on w.0 (grid c)) (not (is_end w.0 (grid c))) w.2 h)))
          (decide (is_end w.0 (grid c)))
