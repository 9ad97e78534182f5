-- Points on two sides of an upright or level line: what that says of points, segments and regions whose corners they are.
use native.Mathlib.Omega.{arith}
use mathlib.Core.Path.{◌≡◌, refl, sym, subst}
use mathlib.Core.Logic.{⊎_elim}
use mathlib.Core.Bool.{false, not, ◌&&◌}
use mathlib.Core.List.{List, [], ◌∷◌}
use lib.Dec.{T, T_not}
use lib.IntN.{ℤ, pos, neg_ℤ, ◌+ℤ◌, ◌-ℤ◌, ◌*ℤ◌}
use Rattle.whole.specs.Count.{◌∈◌, here, there}
use Rattle.whole.proofs.Solver.{var, con, opp, ◌:+◌, ◌:-◌, ◌:*◌, solve}
use Rattle.whole.proofs.Balance.{sub_balanceℤ, pos_P, pos_N}
use Rattle.whole.proofs.Sign.{Pos, NonNeg, Half, at_least_lem, under, half, pos_nonneg, zero_nonneg, neg_pos, neg_of_pos, nonneg_clash, pos_add, nonneg_add_pos, nonneg_add, one_pos}
use Rattle.whole.proofs.Logic.{in_nil, in_cons, and_right, refute, some_find}
use Rattle.plane.specs.declared.Point.{Point}
use Rattle.plane.specs.declared.Segment.{Segment}
use Rattle.plane.specs.Plane.{HPoint, grid, midpoint, is_same_point, is_same_segment, is_end, is_on_some, inside}
use Rattle.plane.proofs.OnSegment.{Ordered, Along}
use Rattle.plane.proofs.Means.{end_read}
use Rattle.plane.proofs.Equal.{same_point_read}
use Rattle.plane.proofs.Path.{Even}
use Rattle.flags.specs.Flags.{has_point, has_segment, on_object, has_end, is_bound, joins}
use Rattle.cells_matrix.proofs.Common.{end_along, no_bound, is_in}
use Rattle.summary.specs.Summary.{ends}
use Rattle.summary.proofs.Hull.{Way, east, west, north, south, level, Kept, Beyond, KeptAll, on_kept, off_kept, inside_kept}

-- the points of C lie beyond a line that those of D are kept behind
pub record Clear (C D : List Point) : Type 0 where
  pub way : Way
  pub at : ℤ
  pub kept : (v : Point) → v ∈ D → Kept way at v
  pub beyond : (v : Point) → v ∈ C → Beyond way at (grid v)

-- ---- seen from the other side

abbrev opposite : Way → Way
opposite east = west
opposite west = east
opposite north = south
opposite south = north

turned : (w : Way) (p : HPoint) → level (opposite w) p ≡ neg_ℤ (level w p)
turned east p = refl
turned west p = solve (p.X ∷ []) (var 0) (opp (opp (var 0))) tt
turned north p = refl
turned south p = solve (p.Y ∷ []) (var 0) (opp (opp (var 0))) tt

-- whole numbers: above zero is at least one
one_less : {z : ℤ} → Pos z → NonNeg (z -ℤ pos 1)
one_less {z} h = record { least = omega (arith, sub_balanceℤ z (pos 1), pos_P 1, pos_N 1, h.above) }

pub clear_swap : {C D : List Point} → Clear C D → Clear D C
clear_swap c =
    record {
      way = opposite c.way;
      at = neg_ℤ c.at -ℤ pos 1;
      kept = λ v m. subst (λ z. NonNeg (neg_ℤ c.at -ℤ pos 1 -ℤ z)) (sym (turned c.way (grid v))) (subst NonNeg (solve (level c.way (grid v) ∷ c.at ∷ []) (var 0 :- var 1 :* con (pos 1) :- con (pos 1)) (opp (var 1) :- con (pos 1) :- opp (var 0)) tt) (one_less (c.beyond v m)));
      beyond = λ v m. subst (λ z. Pos (z -ℤ (neg_ℤ c.at -ℤ pos 1) *ℤ pos 1)) (sym (turned c.way (grid v))) (subst Pos (solve (level c.way (grid v) ∷ c.at ∷ []) (var 1 :- var 0 :+ con (pos 1)) (opp (var 0) :- (opp (var 1) :- con (pos 1)) :* con (pos 1)) tt) (nonneg_add_pos (c.kept v m) (one_pos 0)));
    }

-- ---- some line has a list behind it

raise : (a z : ℤ) → (b : ℤ) × NonNeg (b -ℤ a) × NonNeg (b -ℤ z)
raise a z = go (half (a -ℤ z))
  where
    self : (x : ℤ) → NonNeg (x -ℤ x)
    self x = zero_nonneg (solve (x ∷ []) (var 0 :- var 0) (con (pos 0)) tt)

    go : Half (a -ℤ z) → (b : ℤ) × NonNeg (b -ℤ a) × NonNeg (b -ℤ z)
    go (at_least_lem h) = (a, self a, h)
    go (under h) = (z, subst NonNeg (solve (a ∷ z ∷ []) (opp (var 0 :- var 1)) (var 1 :- var 0) tt) (pos_nonneg (neg_pos h)), self z)

pub some_line : (w : Way) (D : List Point) → (a : ℤ) × ((v : Point) → v ∈ D → Kept w a v)
some_line w [] = (pos 0, λ v m. absurd (in_nil m))
some_line w (u ∷ D) =
    let r = some_line w D in
    let b = raise r.0 (level w (grid u)) in
    (b.0, λ v m. ⊎_elim (λ e. subst (Kept w b.0) (sym e) b.2) (λ k. subst NonNeg (solve (b.0 ∷ r.0 ∷ level w (grid v) ∷ []) (var 0 :- var 1 :+ (var 1 :- var 2)) (var 0 :- var 2) tt) (nonneg_add b.1 (r.1 v k))) (in_cons m))

pub clear_none : (D : List Point) → Clear [] D
clear_none D = let r = some_line east D in record { way = east; at = r.0; kept = r.1; beyond = λ v m. absurd (in_nil m) }

-- ---- a point

pub behind_beyond : {C D : List Point} → Clear C D → (v : Point) → v ∈ C → v ∈ D → ⊥
behind_beyond c v m k =
    nonneg_clash (c.kept v k) (neg_of_pos _ (subst Pos (solve (level c.way (grid v) ∷ c.at ∷ []) (var 0 :- var 1 :* con (pos 1)) (opp (var 1 :- var 0)) tt) (c.beyond v m)))

pub no_point : {C D : List Point} → Clear C D → (v : Point) → v ∈ C → has_point D v ≡ false
no_point {C} {D} c v m = refute (has_point D v) (λ t. let f = some_find (is_same_point v) D t in behind_beyond c v m (subst (λ u. u ∈ D) (sym (same_point_read v f.0 f.2)) f.1))

-- ---- segments

pub left_in : {s : Segment} {l : List Segment} → s ∈ l → s.left ∈ ends l
left_in here = here
left_in (there m) = there (there (left_in m))

pub right_in : {s : Segment} {l : List Segment} → s ∈ l → s.right ∈ ends l
right_in here = there here
right_in (there m) = there (there (right_in m))

pub kept_ends : (w : Way) (a : ℤ) (l : List Segment) → ((v : Point) → v ∈ ends l → Kept w a v) → KeptAll w a l
kept_ends w a l h s m = (h s.left (left_in m), h s.right (right_in m))

middle_level : (w : Way) (s : Segment) → level w (midpoint s) ≡ level w (grid s.left) +ℤ level w (grid s.right)
middle_level east s = refl
middle_level west s = solve (s.left.x ∷ s.right.x ∷ []) (opp (var 0 :+ var 1)) (opp (var 0) :+ opp (var 1)) tt
middle_level north s = refl
middle_level south s = solve (s.left.y ∷ s.right.y ∷ []) (opp (var 0 :+ var 1)) (opp (var 0) :+ opp (var 1)) tt

middle_beyond : (w : Way) (a : ℤ) (s : Segment) → Beyond w a (grid s.left) → Beyond w a (grid s.right) → Beyond w a (midpoint s)
middle_beyond w a s l r =
    subst (λ z. Pos (z -ℤ a *ℤ pos 2)) (sym (middle_level w s))
    (subst Pos (solve (level w (grid s.left) ∷ level w (grid s.right) ∷ a ∷ []) (var 0 :- var 2 :* con (pos 1) :+ (var 1 :- var 2 :* con (pos 1))) (var 0 :+ var 1 :- var 2 :* con (pos 2)) tt) (pos_add l r))

module _ {C : List Point} (l : List Segment) (ord : (t : Segment) → t ∈ l → Ordered t) (c : Clear C (ends l)) where
  pub not_on : (v : Point) → v ∈ C → on_object l v ≡ false
  not_on v m = off_kept c.way c.at l ord (kept_ends c.way c.at l c.kept) (grid v) (c.beyond v m)

  pub no_end : (v : Point) → v ∈ C → (t : Segment) → t ∈ l → is_end t (grid v) ≡ false
  no_end v m t k =
      refute (is_end t (grid v))
      (λ h. on_kept c.way c.at t (grid v) (end_along t (grid v) (one_pos 0) (end_read t (grid v) h)) (c.kept t.left (left_in k)) (c.kept t.right (right_in k)) (c.beyond v m))

  pub not_bound : (v : Point) → v ∈ C → is_bound l v ≡ false
  not_bound v m = no_bound l (grid v) (no_end v m)

  pub not_has_end : (v : Point) → v ∈ C → has_end l v ≡ false
  not_has_end v m = refute (has_end l v) (λ t. let f = some_find (λ r. is_end r (grid v)) l t in T_not (is_end f.0 (grid v)) (subst (λ b. T (not b)) (sym (no_end v m f.0 f.1)) tt) f.2)

  pub no_join : (s : Segment) (v : Point) → v ∈ C → joins l s v ≡ false
  no_join s v m =
      refute (joins l s v)
      (λ t. let f = some_find (λ r. not (is_same_segment s r) && is_end r (grid v)) l t in T_not (is_end f.0 (grid v)) (subst (λ b. T (not b)) (sym (no_end v m f.0 f.1)) tt) (and_right (not (is_same_segment s f.0)) (is_end f.0 (grid v)) f.2))

  pub no_segment_lem : (s : Segment) → s.left ∈ C → has_segment l s ≡ false
  no_segment_lem s m = refute (has_segment l s) (λ t. behind_beyond c s.left m (left_in (is_in l s t)))

  pub middle_not_on : (s : Segment) → s.left ∈ C → s.right ∈ C → is_on_some l (midpoint s) ≡ false
  middle_not_on s m k = off_kept c.way c.at l ord (kept_ends c.way c.at l c.kept) (midpoint s) (middle_beyond c.way c.at s (c.beyond s.left m) (c.beyond s.right k))

  pub not_inside : Even l → (v : Point) → v ∈ C → inside l (grid v) ≡ false
  not_inside even v m = inside_kept c.at l (grid v) (one_pos 0) c.way even ord (kept_ends c.way c.at l c.kept) (c.beyond v m)

  pub middle_not_inside : Even l → (s : Segment) → s.left ∈ C → s.right ∈ C → inside l (midpoint s) ≡ false
  middle_not_inside even s m k =
      inside_kept c.at l (midpoint s) (one_pos 1) c.way even ord (kept_ends c.way c.at l c.kept) (middle_beyond c.way c.at s (c.beyond s.left m) (c.beyond s.right k))

-- ---- segments on the two sides share no point

pub share_nothing : {C D : List Point} → Clear C D → (s t : Segment) → s.left ∈ C → s.right ∈ C → t.left ∈ D → t.right ∈ D
    → (p : HPoint) → Pos p.W → Along s p → Along t p → ⊥
unfolding clear_swap
share_nothing c s t i j k m p w h u = go (half (c.at *ℤ p.W -ℤ level c.way p))
  where
    go : Half (c.at *ℤ p.W -ℤ level c.way p) → ⊥
    go (under z) =
        on_kept c.way c.at t p u (c.kept t.left k) (c.kept t.right m)
        (subst Pos (solve (c.at ∷ p.W ∷ level c.way p ∷ []) (opp (var 0 :* var 1 :- var 2)) (var 2 :- var 0 :* var 1) tt) (neg_pos z))
    go (at_least_lem z) =
        on_kept (opposite c.way) (neg_ℤ c.at -ℤ pos 1) s p h ((clear_swap c).kept s.left i) ((clear_swap c).kept s.right j)
        (subst (λ y. Pos (y -ℤ (neg_ℤ c.at -ℤ pos 1) *ℤ p.W)) (sym (turned c.way p))
        (subst Pos (solve (c.at ∷ p.W ∷ level c.way p ∷ []) (var 0 :* var 1 :- var 2 :+ var 1) (opp (var 2) :- (opp (var 0) :- con (pos 1)) :* var 1) tt) (nonneg_add_pos z w)))
