-- The boundary rule of a line, on the number of segments that end at a point: what others use of it. Nothing ends at no boundary point; where one segment
-- ends, there is one; where two do, as inside a path, there is none. And a line has an even number of boundary points: the pairs of a segment and an end of it are
-- even in number, two to a segment, and are counted point by point as well.
use mathlib.Core.Path.{◌≡◌, refl, sym, ap, ap₂, subst, ◌∙◌}
use mathlib.Core.Logic.{inl, inr, ⊎_elim}
use mathlib.Core.Bool.{Bool, true, false, not, ◌||◌}
use mathlib.Core.List.{List, [], ◌∷◌}
use lib.Dec.{T, T_not}
use Rattle.whole.specs.Count.{◌∈◌, here, there, odd, some, count}
use Rattle.whole.proofs.Logic.{refute, decide, in_nil, in_cons, some_find, some_make, Sorted, sorted_nil, sorted_cons}
use Rattle.whole.proofs.Parity.{◌⊻◌, parity, parity_same, parity_xor, parity_none, parity_swap, odd_count, sorted_once}
use Rattle.plane.specs.declared.Point.{Point}
use Rattle.plane.specs.declared.Segment.{Segment}
use Rattle.plane.specs.Plane.{before, is_same_point, ordered, grid, is_end, is_boundary, ends_at}
use Rattle.plane.proofs.Equal.{same_point_read, same_point_refl}
use Rattle.plane.proofs.Grid.{end_grid}
use Rattle.plane.proofs.Order.{before_irreflexive}
use Rattle.flags.specs.Flags.{is_bound}
use Rattle.flags.specs.Sentences.{Every, EndOf}
use Rattle.flags.specs.Boundary.{Different, none, another, ListsEnds, EvenlyBounded}

pub boundary_none : is_boundary 0 ≡ false
unfolding is_boundary odd
boundary_none = refl

pub boundary_one : is_boundary 1 ≡ true
unfolding is_boundary odd
boundary_one = refl

pub boundary_two : is_boundary 2 ≡ false
unfolding is_boundary odd
boundary_two = refl

-- ---- the number of boundary points

different_sorted : {m : List Point} → Different m → Sorted (λ v w. v ≡ w → ⊥) m
different_sorted none = sorted_nil
different_sorted (another {m = m} new rest) = sorted_cons (λ w k e. new (subst (λ v. v ∈ m) (sym e) k)) (different_sorted rest)

-- a point of the list is there once
once : {m : List Point} → Different m → {v : Point} → v ∈ m → parity (is_same_point v) m ≡ true
once d {v} k = sorted_once is_same_point same_point_read same_point_refl (λ v w. v ≡ w → ⊥) (different_sorted d) (λ w h n. n refl) v k

either_one : (a b : Bool) → (T a → T b → ⊥) → a || b ≡ a ⊻ b
either_one true b h = ap (λ c. true ⊻ c) (sym (refute b (h tt)))
either_one false b h = refl

module _ (l : List Segment) (in_order : Every l λ s. T (ordered s)) {m : List Point} (lists : ListsEnds l m) where
  -- a segment ends at two points of the list
  ends_twice : (s : Segment) → s ∈ l → parity (λ v. is_end s (grid v)) m ≡ false
  unfolding ordered
  ends_twice s h =
      parity_same (λ v. is_end s (grid v)) (λ v. is_same_point s.left v ⊻ is_same_point s.right v) m
      (λ v k. end_grid s v ∙ either_one (is_same_point s.left v) (is_same_point s.right v) (λ a b. apart (same_point_read s.left v a ∙ sym (same_point_read s.right v b))))
      ∙ parity_xor (is_same_point s.left) (is_same_point s.right) m
      ∙ ap₂ ◌⊻◌ (once lists.different (lists.every_end s.left (s, h, inl refl))) (once lists.different (lists.every_end s.right (s, h, inr refl)))
    where
      apart : s.left ≡ s.right → ⊥
      apart e = before_irreflexive s.left (subst (λ v. T (before s.left v)) (sym e) (in_order s h))

  by_segments : odd (count (is_bound l) m) ≡ false
  unfolding is_boundary ends_at
  by_segments =
      odd_count (is_bound l) m
      ∙ parity_same (is_bound l) (λ v. parity (λ s. is_end s (grid v)) l) m (λ v k. odd_count (λ s. is_end s (grid v)) l)
      ∙ parity_swap (λ s v. is_end s (grid v)) l m
      ∙ parity_none (λ s. parity (λ v. is_end s (grid v)) m) l ends_twice

pub evenly_bounded : (l : List Segment) → (Every l λ s. T (ordered s)) → EvenlyBounded l
evenly_bounded l in_order m lists = by_segments l in_order lists

-- ---- there is a list of the ends: one end after the other, but for those that it has already

-- a list that has v and all of m
abbrev With : List Point → Point → Type 0
With m v = (n : List Point) × Different n × (v ∈ n) × ((w : Point) → w ∈ m → w ∈ n)

listed : {m : List Point} → Different m → (v : Point) → With m v
listed {m} d v = ⊎_elim old new (decide (some (is_same_point v) m))
  where
    old : T (some (is_same_point v) m) → With m v
    old t = let w = some_find (is_same_point v) m t in (m, d, subst (λ u. u ∈ m) (sym (same_point_read v w.0 w.2)) w.1, λ w k. k)

    new : T (not (some (is_same_point v) m)) → With m v
    new t = (v ∷ m, another (λ k. T_not (some (is_same_point v) m) t (some_make (is_same_point v) k (same_point_refl v))) d, here, λ w k. there k)

-- one segment more
more_ends : (s : Segment) (l : List Segment) {m : List Point} → ListsEnds l m → (n : List Point) × ListsEnds (s ∷ l) n
more_ends s l {m} rest = (right.0, record { different = right.1; every_end = λ v e. ⊎_elim (own v e.2) (λ k. kept v (rest.every_end v (e.0, k, e.2))) (in_cons e.1) })
  where
    left : With m s.left
    left = listed rest.different s.left

    right : With left.0 s.right
    right = listed left.1 s.right

    kept : (v : Point) → v ∈ m → v ∈ right.0
    kept v k = right.3 v (left.3 v k)

    own : (v : Point) {t : Segment} → EndOf v t → t ≡ s → v ∈ right.0
    own v e q =
        ⊎_elim (λ p. subst (λ u. u ∈ right.0) (sym p) (right.3 s.left left.2)) (λ p. subst (λ u. u ∈ right.0) (sym p) right.2) (subst (EndOf v) q e)

pub ends_listed : (l : List Segment) → (m : List Point) × ListsEnds l m
ends_listed [] = ([], record { different = none; every_end = λ v e. absurd (in_nil e.1) })
ends_listed (s ∷ l) = more_ends s l (ends_listed l).1
