-- A region that is not empty has an edge with its interior above and one with its interior below: the highest edge under an inner point, and the highest
-- of all in that column.
use mathlib.Core.Path.{◌≡◌, sym, ap, ◌∙◌, subst}
use mathlib.Core.Logic.{⊎_elim}
use mathlib.Core.Bool.{Bool, true, false, not, ◌&&◌}
use mathlib.Core.List.{List, [], ◌∷◌}
use lib.Dec.{T}
use lib.IntN.{ℤ, pos, ◌+ℤ◌, ◌-ℤ◌, ◌*ℤ◌}
use lib.Signed.{lt_z, le_z}
use Rattle.whole.specs.Count.{◌∈◌, some}
use Rattle.whole.proofs.Solver.{var, con, ◌:+◌, ◌:-◌, ◌:*◌, solve}
use Rattle.whole.proofs.Sign.{Pos, NonNeg, pos_nonneg, pos_add_nonneg, nonneg_mul, nonneg_le_z, pos_lt_z, pos_lt_z0}
use Rattle.whole.proofs.Logic.{and_make, true_is, is_true, some_make}
use Rattle.whole.proofs.Parity.{◌⊻◌, parity}
use Rattle.plane.specs.declared.Point.{Point}
use Rattle.plane.specs.declared.Segment.{Segment}
use Rattle.plane.specs.Plane.{HPoint, midpoint, side_at, counts_below, inside}
use Rattle.plane.proofs.OnSegment.{Ordered, Away, on_or_away}
use Rattle.plane.proofs.Topmost.{topmost}
use Rattle.plane.proofs.Accepted.{Regular}
use Rattle.flags.specs.Flags.{Edge, outline}
use Rattle.cells_matrix.proofs.Common.{away_none, inside_parity, inside_count}
use Rattle.cells_matrix.proofs.Beside.{Within, region_inner}
use Rattle.cells_matrix.proofs.RegionRegion.{Sound, edge_of}
use Rattle.summary.specs.Summary.{ends}
use Rattle.summary.proofs.Hull.{north, Kept, Beyond, KeptAll, on_kept, even_beyond, over_side, counts_from, counts_to}
use Rattle.summary.proofs.Clear.{some_line, kept_ends}

module _ (R : List Segment) (regular : Regular R) where
  abbrev ord : (t : Segment) → t ∈ R → Ordered t
  ord = regular.split.ordered

  -- the highest segment under a point: its midpoint has the other parity
  under_point : (p : HPoint) → Pos p.W → ((t : Segment) → t ∈ R → Away t p) → (t : Segment) → t ∈ R → T (counts_below p t)
      → (s : Segment) × (s ∈ R) × (parity (counts_below (midpoint s)) R ≡ not (parity (counts_below p) R))
  under_point p w away t m u =
      let f = topmost R ord regular.split.apart p w away t m u in
      (f.0, f.1, other (parity (counts_below (midpoint f.0)) R) (f.2 R (λ t m. m) regular.even ∙ ap (λ b. parity (counts_below (midpoint f.0)) R ⊻ b) (regular.split.once f.0 f.1)))
    where
      other : (b : Bool) {a : Bool} → a ≡ b ⊻ true → b ≡ not a
      other true e = sym (ap not e)
      other false e = sym (ap not e)

  -- over everything in the column of p
  module _ (p : HPoint) (w : Pos p.W) where
    abbrev line_over : (a : ℤ) × ((v : Point) → v ∈ ends R → Kept north a v)
    line_over = some_line north (ends R)

    abbrev raised : HPoint
    raised = record { X = p.X; Y = (line_over.0 +ℤ pos 1) *ℤ p.W; W = p.W }

    raised_beyond : Beyond north line_over.0 raised
    raised_beyond = subst Pos (solve (line_over.0 ∷ p.W ∷ []) (var 1) ((var 0 :+ con (pos 1)) :* var 1 :- var 0 :* var 1) tt) w

    raised_away : (t : Segment) → t ∈ R → Away t raised
    raised_away t m = ⊎_elim (λ h. absurd (on_kept north line_over.0 t raised h (kept t m).0 (kept t m).1 raised_beyond)) (λ a. a) (on_or_away t (ord t m) raised)
      where
        kept : KeptAll north line_over.0 R
        kept = kept_ends north line_over.0 R line_over.1

    raised_over : (y : ℤ) → NonNeg (line_over.0 -ℤ y) → Pos (raised.Y -ℤ y *ℤ p.W)
    raised_over y h = subst Pos (solve (raised.Y ∷ y ∷ line_over.0 ∷ p.W ∷ []) (var 0 :- var 2 :* var 3 :+ (var 2 :- var 1) :* var 3) (var 0 :- var 1 :* var 3) tt) (pos_add_nonneg raised_beyond (nonneg_mul h (pos_nonneg w)))

    raised_counts : (t : Segment) → t ∈ R → T (counts_below p t) → T (counts_below raised t)
    unfolding counts_below
    raised_counts t m u =
        and_make (le_z (t.left.x *ℤ p.W) p.X && lt_z p.X (t.right.x *ℤ p.W)) (lt_z (pos 0) (side_at t raised))
        (and_make (le_z (t.left.x *ℤ p.W) p.X) (lt_z p.X (t.right.x *ℤ p.W)) (nonneg_le_z (t.left.x *ℤ p.W) p.X (counts_from t p u)) (pos_lt_z p.X (t.right.x *ℤ p.W) (counts_to t p u)))
        (pos_lt_z0 (side_at t raised) (over_side t raised w (counts_from t p u) (counts_to t p u) (raised_over t.left.y (kept t m).0) (raised_over t.right.y (kept t m).1)))
      where
        kept : KeptAll north line_over.0 R
        kept = kept_ends north line_over.0 R line_over.1

    raised_even : parity (counts_below raised) R ≡ false
    raised_even = even_beyond line_over.0 R raised w north regular.even ord (kept_ends north line_over.0 R line_over.1) raised_beyond

  -- a segment over an even number, and one over an odd number
  pub both_parities : (s : Segment) → s ∈ R → (b : Bool) → (t : Segment) × (t ∈ R) × (parity (counts_below (midpoint t)) R ≡ b)
  both_parities s m = go
    where
      w : Within [] R R
      w = region_inner [] R R regular regular.split.apart ord s m

      p_odd : parity (counts_below w.at) R ≡ true
      p_odd = sym (inside_parity R ord w.at (away_none R ord w.at w.away)) ∙ true_is (inside R w.at) w.within

      low : (t : Segment) × (t ∈ R) × T (counts_below w.at t)
      low = inside_count R w.at w.within

      go : (b : Bool) → (t : Segment) × (t ∈ R) × (parity (counts_below (midpoint t)) R ≡ b)
      go false = let f = under_point w.at w.at_pos w.away low.0 low.1 low.2 in (f.0, f.1, f.2 ∙ ap not p_odd)
      go true =
          let f = under_point (raised w.at w.at_pos) w.at_pos (raised_away w.at w.at_pos) low.0 low.1 (raised_counts w.at w.at_pos low.0 low.1 low.2) in
          (f.0, f.1, f.2 ∙ ap not (raised_even w.at w.at_pos))

module _ (F : List Edge) (sound : Sound F) where
  edge_with : (b : Bool) (s : Segment) → s ∈ outline F → (e : Edge) × (e ∈ F) × (e.ia ≡ not b)
  edge_with b s m =
      let t = both_parities (outline F) sound.regular s m b in
      let e = edge_of F t.0 t.1 in
      (e.0, e.1, sound.ia_right e.0 e.1 ∙ ap (λ r. not (parity (counts_below (midpoint r)) (outline F))) e.2 ∙ ap not t.2)

  pub some_above : (s : Segment) → s ∈ outline F → some (λ (e : Edge). e.ia) F ≡ true
  some_above s m = let e = edge_with false s m in true_is (some (λ (e : Edge). e.ia) F) (some_make (λ (e : Edge). e.ia) e.1 (is_true e.0.ia e.2))

  pub some_below : (s : Segment) → s ∈ outline F → some (λ (e : Edge). not e.ia) F ≡ true
  some_below s m = let e = edge_with true s m in true_is (some (λ (e : Edge). not e.ia) F) (some_make (λ (e : Edge). not e.ia) e.1 (is_true (not e.0.ia) (ap not e.2)))
