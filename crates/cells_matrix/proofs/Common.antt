-- What the pairs of types share: a cell as a test and the points that it speaks of; points at grid points; lines' boundaries and interiors; points of a
-- segment and beside it that avoid any finite set; a point outside everything.
use Prim.Native.Nat.{ℕ, suc}
use mathlib.Core.Path.{◌≡◌, refl, sym, ap, ap₂, ◌∙◌, subst}
use mathlib.Core.Logic.{◌⊎◌, inl, inr, ⊎_elim}
use mathlib.Core.Bool.{Bool, true, false, not, ◌&&◌, ◌||◌, false≢true}
use mathlib.Core.List.{List, [], ◌∷◌}
use lib.Dec.{T, T_not, not_T}
use lib.IntN.{ℤ, pos, negsuc, ◌+ℤ◌, ◌-ℤ◌, ◌*ℤ◌}
use Rattle.whole.specs.Count.{◌∈◌, here, there, some, count, odd}
use Rattle.whole.proofs.Solver.{var, con, ◌:+◌, ◌:-◌, ◌:*◌, solve}
use Rattle.whole.proofs.Sign.{Pos, Neg, Sign, minus, nought, plus, sign, pos_neg, pos_clash, zero_pos, zero_neg, nonneg_add, nonneg_add_pos, nonneg_mul, cancel_zero_right, one_pos, lit_nonneg, sub_zero_eq}
use Rattle.whole.proofs.Logic.{and_left, and_right, and_make, or_cases, or_left, or_right, decide, is_false, false_is, refute, same_test, and_never, some_find, some_make}
use Rattle.whole.proofs.Counted.{count_none}
use Rattle.whole.proofs.Parity.{◌⊻◌, parity, parity_same, parity_none, odd_count}
use Rattle.plane.specs.declared.Point.{Point}
use Rattle.plane.specs.declared.Segment.{Segment}
use Rattle.plane.specs.Plane.{HPoint, grid, midpoint, side_at, is_same_point, is_same_segment, is_at, is_end, on, is_on_some, counts_below, inside, is_boundary, ends_at, Object, in_interior, in_boundary, in_exterior}
use Rattle.flags.specs.Flags.{has_point, has_segment, joins, has_some_end, is_bound}
use Rattle.plane.proofs.Homogeneous.{triple_eq, one_times}
use Rattle.plane.proofs.OnSegment.{Ordered, slanting, upright, Along, Away, beneath, short, on_away, along_on, on_along}
use Rattle.plane.proofs.Equal.{same_point_read, same_point_refl, same_segment_read, same_segment_refl, point_eq}
use Rattle.plane.proofs.Scale.{ScaleFree, ends_at_scale}
use Rattle.plane.proofs.Touch.{at_grid, at_multiple, is_end_read, first_between}
use Rattle.plane.proofs.Meeting.{between_swap}
use Rattle.plane.proofs.Means.{Multiple, between_multiple, At, at_read, at_make, EndOf, left_end, right_end, end_read, end_make, middle, middle_inner}
use Rattle.plane.proofs.AlongSegment.{Apart, along_segment}
use Rattle.plane.proofs.Steps.{Large, large_all, large_map, large_and, large_each, large_one, step, grows, shrinks, stays, side_moved, over_left_moved, upright_never, positive, positive_is, count_tests, in_count}
use Rattle.plane.proofs.Flip.{upper_way, lower_way, downwards, seen_x, side_down}
use Rattle.plane.proofs.Accepted.{Split, Regular, Across, ends_parity}
use Rattle.flags.proofs.Boundary.{boundary_none}

-- ---- a cell

-- The test b says whether some point lies in both sets
pub record Cell (b : Bool) (A B : HPoint → Bool) : Type 0 where
  pub found : T b → (p : HPoint) × Pos p.W × T (A p) × T (B p)
  pub told : (p : HPoint) → Pos p.W → T (A p) → T (B p) → T b

pub cell_swap : {b : Bool} {A B : HPoint → Bool} → Cell b A B → Cell b B A
cell_swap c = record { found = λ t. let w = c.found t in (w.0, w.1, w.3, w.2); told = λ p h a b. c.told p h b a }

pub cell_never : {A B : HPoint → Bool} → ((p : HPoint) → Pos p.W → T (A p) → T (B p) → ⊥) → Cell false A B
cell_never f = record { found = λ t. absurd t; told = f }

pub cell_always : {A B : HPoint → Bool} → ((p : HPoint) × Pos p.W × T (A p) × T (B p)) → Cell true A B
cell_always w = record { found = λ t. w; told = λ p h a b. tt }

-- ---- at a grid point

pub grid_pos : (v : Point) → Pos (grid v).W
grid_pos v = one_pos 0

pub at_itself : (v : Point) → T (is_at v (grid v))
at_itself v = at_make v (grid v) (record { at_x = same v.x; at_y = same v.y })
  where
    same : (z : ℤ) → z -ℤ z *ℤ pos 1 ≡ pos 0
    same z = solve (z ∷ []) (var 0 :- var 0 :* con (pos 1)) (con (pos 0)) tt

-- two grid points at one place are equal
pub at_unique : (u v : Point) (p : HPoint) → Pos p.W → T (is_at u p) → T (is_at v p) → u ≡ v
at_unique u v p h s t = point_eq (same p.X u.x v.x (at_read u p s).at_x (at_read v p t).at_x) (same p.Y u.y v.y (at_read u p s).at_y (at_read v p t).at_y)
  where
    same : (z a b : ℤ) → z -ℤ a *ℤ p.W ≡ pos 0 → z -ℤ b *ℤ p.W ≡ pos 0 → a ≡ b
    same z a b e f =
        sub_zero_eq a b
        (cancel_zero_right h
        (solve (z ∷ a ∷ b ∷ p.W ∷ []) ((var 2 :- var 1) :* var 3) ((var 0 :- var 1 :* var 3) :- (var 0 :- var 2 :* var 3)) tt
        ∙ ap₂ (λ x y. x -ℤ y) e f))

-- a test at a grid point is the test at any point there
module _ (v : Point) (p : HPoint) (h : Pos p.W) (t : T (is_at v p)) where
  pub carry : (f : HPoint → Bool) → ScaleFree f → T (f p) → T (f (grid v))
  carry f free u = subst T (at_grid f free v p h t) u

  pub carry_not : (f : HPoint → Bool) → ScaleFree f → T (not (f p)) → T (not (f (grid v)))
  carry_not f free u = subst (λ b. T (not b)) (at_grid f free v p h t) u

pub bound_scale : (l : List Segment) → ScaleFree (λ q. is_boundary (ends_at l q))
bound_scale l k h q = ap is_boundary (ends_at_scale l k h q)

-- the points of a list
pub at_some : (l : List Point) (p : HPoint) → T (some (λ e. is_at e p) l) → (v : Point) × (v ∈ l) × T (is_at v p)
at_some l p t = some_find (λ e. is_at e p) l t

-- ---- points on some segment

module _ (l : List Segment) (ord : (t : Segment) → t ∈ l → Ordered t) (p : HPoint) where
  pub on_find : T (is_on_some l p) → (s : Segment) × (s ∈ l) × Along s p
  unfolding is_on_some
  on_find t = let w = some_find (λ s. on s p) l t in (w.0, w.1, on_along w.0 p (ord w.0 w.1) w.2)

  pub on_make : (s : Segment) → s ∈ l → Along s p → T (is_on_some l p)
  unfolding is_on_some
  on_make s m h = some_make (λ s. on s p) m (along_on s p (ord s m) h)

  pub away_none : ((t : Segment) → t ∈ l → Away t p) → is_on_some l p ≡ false
  away_none f = refute (is_on_some l p) (λ t. let w = on_find t in on_away w.0 p (ord w.0 w.1) w.2 (f w.0 w.1))

  -- inside is the parity, off the segments
  pub inside_parity : is_on_some l p ≡ false → inside l p ≡ parity (counts_below p) l
  unfolding inside
  inside_parity e = ap (λ b. not b && odd (count (counts_below p) l)) e ∙ odd_count (counts_below p) l

pub inside_off : (l : List Segment) (p : HPoint) → T (inside l p) → T (not (is_on_some l p))
unfolding inside
inside_off l p t = and_left (not (is_on_some l p)) (odd (count (counts_below p) l)) t

-- something counts below an inside point
pub inside_count : (l : List Segment) (p : HPoint) → T (inside l p) → (s : Segment) × (s ∈ l) × T (counts_below p s)
unfolding inside
inside_count l p t =
    ⊎_elim (λ h. some_find (counts_below p) l h) (λ h. absurd (none h (and_right (not (is_on_some l p)) (odd (count (counts_below p) l)) t))) (decide (some (counts_below p) l))
  where
    none : T (not (some (counts_below p) l)) → T (odd (count (counts_below p) l)) → ⊥
    none h u =
        T_not (odd (count (counts_below p) l)) (is_false (odd (count (counts_below p) l)) (odd_count (counts_below p) l ∙ parity_none (counts_below p) l (λ s m. refute (counts_below p s) (λ k. T_not (some (counts_below p) l) h (some_make (counts_below p) m k))))) u

-- an end of a segment is on it
pub end_along : (s : Segment) (p : HPoint) → Pos p.W → EndOf s p → Along s p
end_along s p h end = go end
  where
    there : (v : Point) → At v p → Multiple (grid v) p
    there v e = record { m = p.W; n = pos 1; m_pos = h; n_pos = one_pos 0; same = sym (at_multiple v p (at_make v p e)) ∙ sym (one_times p) }

    go : EndOf s p → Along s p
    go (left_end e) = between_multiple (there s.left e) (first_between (grid s.left) (grid s.right))
    go (right_end e) = between_multiple (there s.right e) (between_swap (first_between (grid s.right) (grid s.left)))

-- ---- the boundary of a line, by any rule that takes no point at which nothing ends

module _ (l : List Segment) (p : HPoint) where
  pub no_bound : ((t : Segment) → t ∈ l → is_end t p ≡ false) → is_boundary (ends_at l p) ≡ false
  unfolding ends_at
  no_bound h = ap is_boundary (count_none (λ s. is_end s p) l h) ∙ boundary_none

  pub bound_end : T (is_boundary (ends_at l p)) → (s : Segment) × (s ∈ l) × T (is_end s p)
  bound_end t = ⊎_elim (λ h. some_find (λ s. is_end s p) l h) (λ h. absurd (T_not (is_boundary (ends_at l p)) (is_false (is_boundary (ends_at l p)) (no_bound (none h))) t)) (decide (some (λ s. is_end s p) l))
    where
      none : T (not (some (λ s. is_end s p) l)) → (s : Segment) → s ∈ l → is_end s p ≡ false
      none h s m = refute (is_end s p) (λ k. T_not (some (λ s. is_end s p) l) h (some_make (λ s. is_end s p) m k))

  -- so it is at a grid point
  pub bound_at : T (is_boundary (ends_at l p)) → (s : Segment) × (s ∈ l) × ((v : Point) × T (is_at v p) × ((v ≡ s.left) ⊎ (v ≡ s.right)))
  bound_at t =
      let w = bound_end t in
      (w.0, w.1, ⊎_elim (λ h. (w.0.left, h, inl refl)) (λ h. (w.0.right, h, inr refl)) (is_end_read w.0 p w.2))

module _ (l : List Segment) (ord : (t : Segment) → t ∈ l → Ordered t) (p : HPoint) (h : Pos p.W) where
  pub bound_on_lem : T (is_boundary (ends_at l p)) → T (is_on_some l p)
  bound_on_lem t = let w = bound_end l p t in on_make l ord p w.0 w.1 (end_along w.0 p h (end_read w.0 p w.2))

  -- the exterior of a line is off its segments
  pub line_outside : T (in_exterior (Object.line l) p) → T (not (is_on_some l p))
  unfolding in_exterior in_interior in_boundary
  line_outside t = go (is_on_some l p) (is_boundary (ends_at l p)) t
    where
      go : (a b : Bool) → T (not (a && not b) && not b) → T (not a)
      go true true t = t
      go true false t = t
      go false b t = tt

  pub outside_line : T (not (is_on_some l p)) → T (in_exterior (Object.line l) p)
  unfolding in_exterior in_interior in_boundary
  outside_line t = go (is_on_some l p) (is_boundary (ends_at l p)) bound_on_lem t
    where
      go : (a b : Bool) → (T b → T a) → T (not a) → T (not (a && not b) && not b)
      go true b f t = absurd t
      go false true f t = f tt
      go false false f t = tt

-- ---- points that avoid a finite set

NotZero : ℤ → Type 0
NotZero z = Pos z ⊎ Neg z

not_zero : {z : ℤ} → NotZero z → z ≡ pos 0 → ⊥
unfolding NotZero
not_zero (inl h) e = zero_pos e h
not_zero (inr h) e = zero_neg e h

module _ (e : Point) (p d : HPoint) where
  moved_x : (n : ℕ) → (step d p n).X -ℤ e.x *ℤ (step d p n).W ≡ pos n *ℤ (p.X -ℤ e.x *ℤ p.W) +ℤ (d.X -ℤ e.x *ℤ d.W)
  moved_x n = solve (pos n ∷ p.X ∷ d.X ∷ e.x ∷ p.W ∷ d.W ∷ []) (var 0 :* var 1 :+ var 2 :- var 3 :* (var 0 :* var 4 :+ var 5)) (var 0 :* (var 1 :- var 3 :* var 4) :+ (var 2 :- var 3 :* var 5)) tt

  moved_y : (n : ℕ) → (step d p n).Y -ℤ e.y *ℤ (step d p n).W ≡ pos n *ℤ (p.Y -ℤ e.y *ℤ p.W) +ℤ (d.Y -ℤ e.y *ℤ d.W)
  moved_y n = solve (pos n ∷ p.Y ∷ d.Y ∷ e.y ∷ p.W ∷ d.W ∷ []) (var 0 :* var 1 :+ var 2 :- var 3 :* (var 0 :* var 4 :+ var 5)) (var 0 :* (var 1 :- var 3 :* var 4) :+ (var 2 :- var 3 :* var 5)) tt

  off_by_x : (n : ℕ) → NotZero (pos n *ℤ (p.X -ℤ e.x *ℤ p.W) +ℤ (d.X -ℤ e.x *ℤ d.W)) → is_at e (step d p n) ≡ false
  off_by_x n h = refute (is_at e (step d p n)) (λ t. not_zero h (sym (moved_x n) ∙ (at_read e (step d p n) t).at_x))

  off_by_y : (n : ℕ) → NotZero (pos n *ℤ (p.Y -ℤ e.y *ℤ p.W) +ℤ (d.Y -ℤ e.y *ℤ d.W)) → is_at e (step d p n) ≡ false
  off_by_y n h = refute (is_at e (step d p n)) (λ t. not_zero h (sym (moved_y n) ∙ (at_read e (step d p n) t).at_y))

  -- a moved point is no given grid point, unless both it and its direction are
  pub off_point : (At e p → At e d → ⊥) → Large (λ n. is_at e (step d p n) ≡ false)
  unfolding NotZero
  off_point never = by_x (sign (p.X -ℤ e.x *ℤ p.W))
    where
      stayed : {z : ℤ} (n : ℕ) (w : ℤ) → z ≡ pos 0 → NotZero w → NotZero (pos n *ℤ z +ℤ w)
      stayed n w f (inl h) = inl (subst Pos (sym (stays n w f)) h)
      stayed n w f (inr h) = inr (subst Neg (sym (stays n w f)) h)

      by_dir : p.X -ℤ e.x *ℤ p.W ≡ pos 0 → p.Y -ℤ e.y *ℤ p.W ≡ pos 0 → Sign (d.X -ℤ e.x *ℤ d.W) → Sign (d.Y -ℤ e.y *ℤ d.W) → Large (λ n. is_at e (step d p n) ≡ false)
      by_dir f g (minus h) k = large_all (λ n. off_by_x n (stayed n _ f (inr h)))
      by_dir f g (plus h) k = large_all (λ n. off_by_x n (stayed n _ f (inl h)))
      by_dir f g (nought h) (minus k) = large_all (λ n. off_by_y n (stayed n _ g (inr k)))
      by_dir f g (nought h) (plus k) = large_all (λ n. off_by_y n (stayed n _ g (inl k)))
      by_dir f g (nought h) (nought k) = absurd (never (record { at_x = f; at_y = g }) (record { at_x = h; at_y = k }))

      by_y : p.X -ℤ e.x *ℤ p.W ≡ pos 0 → Sign (p.Y -ℤ e.y *ℤ p.W) → Large (λ n. is_at e (step d p n) ≡ false)
      by_y f (minus h) = large_map (λ n k. off_by_y n (inr k)) (shrinks _ h)
      by_y f (plus h) = large_map (λ n k. off_by_y n (inl k)) (grows _ h)
      by_y f (nought h) = by_dir f h (sign _) (sign _)

      by_x : Sign (p.X -ℤ e.x *ℤ p.W) → Large (λ n. is_at e (step d p n) ≡ false)
      by_x (minus h) = large_map (λ n k. off_by_x n (inr k)) (shrinks _ h)
      by_x (plus h) = large_map (λ n k. off_by_x n (inl k)) (grows _ h)
      by_x (nought h) = by_y h (sign _)

module _ (p d : HPoint) where
  pub off_points : (l : List Point) → ((e : Point) → At e p → At e d → ⊥) → Large (λ n. (e : Point) → e ∈ l → is_at e (step d p n) ≡ false)
  off_points l f = large_each l (λ e m. off_point e p d (f e))

  pub off_ends : (l : List Segment) → ((e : Point) → At e p → At e d → ⊥) → Large (λ n. (t : Segment) → t ∈ l → is_end t (step d p n) ≡ false)
  unfolding is_end
  off_ends l f =
      large_each l (λ t m. large_map (λ n h. ap₂ (λ a b. a || b) h.0 h.1) (large_and (off_point t.left p d (f t.left)) (off_point t.right p d (f t.right))))

-- the points of a segment near its midpoint
abbrev pub along : Segment → ℕ → HPoint
along s n = step (grid s.right) (midpoint s) n

module _ (s : Segment) (o : Ordered s) where
  pub along_pos : (n : ℕ) → Pos (along s n).W
  along_pos n = nonneg_add_pos (nonneg_mul (lit_nonneg n) (lit_nonneg 2)) (one_pos 0)

  pub along_on_it : (n : ℕ) → Along s (along s n)
  along_on_it n =
      record {
        k = pos 1;
        a = pos n;
        b = pos n +ℤ pos 1;
        k_pos = one_pos 0;
        a_least = lit_nonneg n;
        b_least = nonneg_add (lit_nonneg n) (lit_nonneg 1);
        mean = triple_eq (at s.left.x s.right.x) (at s.left.y s.right.y) ones;
      }
    where
      at : (x y : ℤ) → pos 1 *ℤ (pos n *ℤ (x +ℤ y) +ℤ y) ≡ pos n *ℤ x +ℤ (pos n +ℤ pos 1) *ℤ y
      at x y = solve (pos n ∷ x ∷ y ∷ []) (con (pos 1) :* (var 0 :* (var 1 :+ var 2) :+ var 2)) (var 0 :* var 1 :+ (var 0 :+ con (pos 1)) :* var 2) tt

      ones : pos 1 *ℤ (pos n *ℤ pos 2 +ℤ pos 1) ≡ pos n *ℤ pos 1 +ℤ (pos n +ℤ pos 1) *ℤ pos 1
      ones = solve (pos n ∷ []) (con (pos 1) :* (var 0 :* con (pos 2) :+ con (pos 1))) (var 0 :* con (pos 1) :+ (var 0 :+ con (pos 1)) :* con (pos 1)) tt

  -- no grid point is both the midpoint and the right end
  pub along_free : (e : Point) → At e (midpoint s) → At e (grid s.right) → ⊥
  along_free e h k = middle_inner s o (right_end (subst (λ v. At v (midpoint s)) (at_unique e s.right (grid s.right) (one_pos 0) (at_make e (grid s.right) k) (at_itself s.right)) h))

-- a direction is no point
pub upper_free : {s : Segment} (o : Ordered s) (e : Point) (p : HPoint) → At e p → At e (upper_way o) → ⊥
upper_free (slanting w) e p h k = zero_pos (sym (seen_x (pos 1) e.y) ∙ k.at_y) (one_pos 0)
upper_free (upright f w) e p h k = zero_neg (sym (seen_x (negsuc 0) e.x) ∙ k.at_x) (pos_neg (one_pos 0))

pub lower_free : {s : Segment} (o : Ordered s) (e : Point) (p : HPoint) → At e p → At e (lower_way o) → ⊥
lower_free (slanting w) e p h k = zero_neg (sym (seen_x (negsuc 0) e.y) ∙ k.at_y) (pos_neg (one_pos 0))
lower_free (upright f w) e p h k = zero_pos (sym (seen_x (pos 1) e.x) ∙ k.at_x) (one_pos 0)

-- ---- far below everything

abbrev origin : HPoint
origin = record { X = pos 0; Y = pos 0; W = pos 1 }

abbrev pub far : ℕ → HPoint
far n = step origin downwards n

pub far_pos : (n : ℕ) → Pos (far n).W
far_pos n = subst Pos (sym (solve (pos n ∷ []) (var 0 :* con (pos 0) :+ con (pos 1)) (con (pos 1)) tt)) (one_pos 0)

pub far_point : (e : Point) → Large (λ n. is_at e (far n) ≡ false)
far_point e = off_point e downwards origin (λ h k. zero_neg (sym (seen_x (negsuc 0) e.y) ∙ h.at_y) (pos_neg (one_pos 0)))

pub far_segment : (s : Segment) → Ordered s → Large (λ n. Away s (far n) × (counts_below (far n) s ≡ false))
far_segment s (slanting w) = large_map (λ n h. (beneath (below n h), none n (below n h))) (shrinks (side_at s origin) (subst Neg (sym (side_down s)) (pos_neg w)))
  where
    below : (n : ℕ) → Neg (pos n *ℤ side_at s downwards +ℤ side_at s origin) → Neg (side_at s (far n))
    below n h = subst Neg (sym (side_moved s origin downwards n)) h

    none : (n : ℕ) → Neg (side_at s (far n)) → counts_below (far n) s ≡ false
    none n h = count_tests s (far n) ∙ and_never (in_count s (far n)) (positive (side_at s (far n))) (λ t u. pos_clash (positive_is (side_at s (far n)) u) h)
far_segment s (upright e w) =
    large_map (λ n h. (short e (subst Neg (sym (over_left_moved s origin downwards n)) h), upright_never s (far n) e))
    (shrinks (pos 0 -ℤ s.left.y *ℤ pos 1) (subst Neg (sym (seen_x (negsuc 0) s.left.y)) (pos_neg (one_pos 0))))

pub points_off : (P : List Point) (p : HPoint) → ((e : Point) → e ∈ P → is_at e p ≡ false) → T (in_exterior (Object.points P) p)
unfolding in_exterior in_interior in_boundary
points_off P p h = and_make (not (some (λ e. is_at e p) P)) true (not_T (some (λ e. is_at e p) P) (λ t. let w = at_some P p t in T_not (is_at w.0 p) (is_false (is_at w.0 p) (h w.0 w.1)) w.2)) tt

-- it is outside any object with ordered ends
abbrev pub edges : Object → List Segment
edges (Object.points l) = []
edges (Object.line l) = l
edges (Object.region l) = l

pub far_outside : (o : Object) → ((t : Segment) → t ∈ edges o → Ordered t) → Large (λ n. T (in_exterior o (far n)))
unfolding in_exterior in_interior in_boundary
far_outside (Object.points l) ord =
    large_map (λ n h. points_off l (far n) h)
    (large_each l (λ e m. far_point e))
far_outside (Object.line l) ord =
    large_map (λ n h. outside_line l ord (far n) (far_pos n) (is_false (is_on_some l (far n)) (away_none l ord (far n) (λ t m. (h t m).0)))) (large_each l (λ t m. far_segment t (ord t m)))
far_outside (Object.region l) ord =
    large_map (λ n h. region_out n (away_none l ord (far n) (λ t m. (h t m).0)) (parity_none (counts_below (far n)) l (λ t m. (h t m).1))) (large_each l (λ t m. far_segment t (ord t m)))
  where
    region_out : (n : ℕ) → is_on_some l (far n) ≡ false → parity (counts_below (far n)) l ≡ false → T (not (inside l (far n)) && not (is_on_some l (far n)))
    region_out n e f = and_make (not (inside l (far n))) (not (is_on_some l (far n))) (is_false (inside l (far n)) (inside_parity l ord (far n) e ∙ f)) (is_false (is_on_some l (far n)) e)

pub outside_both : (F G : Object) → ((t : Segment) → t ∈ edges F → Ordered t) → ((t : Segment) → t ∈ edges G → Ordered t) → Cell true (in_exterior F) (in_exterior G)
outside_both F G f g = let w = large_one (large_and (far_outside F f) (far_outside G g)) in cell_always (far (suc w.0), far_pos (suc w.0), w.1.0, w.1.1)

-- ---- a row over the points of a points object, and over the boundary points of a line

pub points_cell : (F : List Point) (B : HPoint → Bool) → ScaleFree B → (b : Point → Bool) → ((v : Point) → b v ≡ B (grid v)) → Cell (some b F) (in_interior (Object.points F)) B
unfolding in_interior
points_cell F B free b is =
    record {
      found = λ t. let w = some_find b F t in (grid w.0, one_pos 0, some_make (λ e. is_at e (grid w.0)) w.1 (at_itself w.0), subst T (is w.0) w.2);
      told = λ p h s t. let w = at_some F p s in some_make b w.1 (subst T (sym (is w.0)) (carry w.0 p h w.2 B free t));
    }

-- whether a grid point is one of a list, by the point and by what stands there
pub points_at : (l : List Point) (v : Point) → has_point l v ≡ some (λ e. is_at e (grid v)) l
points_at l v =
    same_test (has_point l v) (some (λ e. is_at e (grid v)) l)
    (λ t. let w = some_find (is_same_point v) l t in some_make (λ e. is_at e (grid v)) w.1 (subst (λ e. T (is_at e (grid v))) (same_point_read v w.0 w.2) (at_itself v)))
    (λ t. let w = at_some l (grid v) t in some_make (is_same_point v) w.1 (subst (λ e. T (is_same_point v e)) (at_unique v w.0 (grid v) (one_pos 0) (at_itself v) w.2) (same_point_refl v)))

pub no_boundary : (F : List Point) (B : HPoint → Bool) → Cell false (in_boundary (Object.points F)) B
unfolding in_boundary
no_boundary F B = cell_never (λ p h s t. s)

-- an end of the list that passes a test
pub end_find : (c : Segment → Point → Bool) (l : List Segment) → T (has_some_end c l) → (s : Segment) × (s ∈ l) × ((v : Point) × T (is_end s (grid v)) × T (c s v))
end_find c l t =
    let w = some_find (λ s. c s s.left || c s s.right) l t in
    (w.0, w.1, ⊎_elim (λ h. (w.0.left, end_make w.0 (grid w.0.left) (left_end (at_read w.0.left (grid w.0.left) (at_itself w.0.left))), h)) (λ h. (w.0.right, end_make w.0 (grid w.0.right) (right_end (at_read w.0.right (grid w.0.right) (at_itself w.0.right))), h)) (or_cases (c w.0 w.0.left) (c w.0 w.0.right) w.2))

pub end_give : (c : Segment → Point → Bool) (l : List Segment) (s : Segment) → s ∈ l → (v : Point) → (v ≡ s.left) ⊎ (v ≡ s.right) → T (c s v) → T (has_some_end c l)
end_give c l s m v (inl e) t = some_make (λ s. c s s.left || c s s.right) m (or_left (c s s.left) (c s s.right) (subst (λ v. T (c s v)) e t))
end_give c l s m v (inr e) t = some_make (λ s. c s s.left || c s s.right) m (or_right (c s s.left) (c s s.right) (subst (λ v. T (c s v)) e t))

pub bound_cell : (F : List Segment) (B : HPoint → Bool) → ScaleFree B → (c : Point → Bool)
    → ((v : Point) → T (c v) → T (is_bound F v) × T (B (grid v))) → ((v : Point) → T (is_bound F v) → T (B (grid v)) → T (c v))
    → Cell (has_some_end (λ f. c) F) (in_boundary (Object.line F)) B
unfolding in_boundary
bound_cell F B free c split join =
    record {
      found = λ t. let w = end_find (λ f. c) F t in let k = split w.2.0 w.2.2 in (grid w.2.0, one_pos 0, k.0, k.1);
      told = λ p h s t. let w = bound_at F p s in end_give (λ f. c) F w.0 w.1 w.2.0 w.2.2 (join w.2.0 (carry w.2.0 p h w.2.1 (λ q. is_boundary (ends_at F q)) (bound_scale F) s) (carry w.2.0 p h w.2.1 B free t));
    }

-- ---- what a non-empty object has beside a finite set

-- a segment's own points, off any points and no ends of any segments
pub along_clear : (s : Segment) → Ordered s → (P : List Point) (l m : List Segment)
    → (p : HPoint) × Pos p.W × Along s p × ((e : Point) → e ∈ P → is_at e p ≡ false) × ((t : Segment) → t ∈ l → is_end t p ≡ false) × ((t : Segment) → t ∈ m → is_end t p ≡ false)
along_clear s o P l m =
    let w = large_one (large_and (off_points (midpoint s) (grid s.right) P (along_free s o)) (large_and (off_ends (midpoint s) (grid s.right) l (along_free s o)) (off_ends (midpoint s) (grid s.right) m (along_free s o)))) in
    (along s (suc w.0), along_pos s o (suc w.0), along_on_it s o (suc w.0), w.1.0, w.1.1.0, w.1.1.1)

-- it is in a line's interior
pub line_inner : (l : List Segment) → ((t : Segment) → t ∈ l → Ordered t) → (s : Segment) → s ∈ l → (p : HPoint) → Along s p → ((t : Segment) → t ∈ l → is_end t p ≡ false) → T (in_interior (Object.line l) p)
unfolding in_interior
line_inner l ord s m p h e = and_make (is_on_some l p) (not (is_boundary (ends_at l p))) (on_make l ord p s m h) (is_false (is_boundary (ends_at l p)) (no_bound l p e))

-- "not empty", with an element
abbrev pub filled : {A : Type 0} → List A → Bool
filled [] = false
filled (a ∷ l) = true

pub first_of : {A : Type 0} (l : List A) → T (filled l) → (a : A) × (a ∈ l)
first_of [] t = absurd t
first_of (a ∷ l) t = (a, here)

pub filled_of : {A : Type 0} {a : A} {l : List A} → a ∈ l → T (filled l)
filled_of here = tt
filled_of (there m) = tt

pub inside_filled : (l : List Segment) (p : HPoint) → T (inside l p) → T (filled l)
inside_filled l p t = filled_of (inside_count l p t).1

-- a point that is an end of a segment stands at that end
pub end_place_lem : (s : Segment) (p : HPoint) → EndOf s p → (v : Point) × T (is_at v p) × ((v ≡ s.left) ⊎ (v ≡ s.right))
end_place_lem s p (left_end e) = (s.left, at_make s.left p e, inl refl)
end_place_lem s p (right_end e) = (s.right, at_make s.right p e, inr refl)

pub across_swap : {l m : List Segment} → Across l m → Across m l
across_swap f s t i k = ⊎_elim (λ e. inl (sym e)) (λ a. inr (λ p h x y. let w = a p h y x in (w.1, w.0))) (f t s k i)

-- ---- one line, and a segment apart from it

-- a segment of the list, or not
pub is_in : (l : List Segment) (s : Segment) → T (has_segment l s) → s ∈ l
is_in l s t = let w = some_find (is_same_segment s) l t in subst (λ r. r ∈ l) (sym (same_segment_read s w.0 w.2)) w.1

pub in_has : (l : List Segment) (s : Segment) → s ∈ l → T (has_segment l s)
in_has l s m = some_make (is_same_segment s) m (same_segment_refl s)

-- the midpoint of a segment that is none of l, and only has ends in common with l's, is off l
pub middle_off : (l : List Segment) → ((t : Segment) → t ∈ l → Ordered t) → (s : Segment) → Ordered s → ((t : Segment) → t ∈ l → (s ≡ t) ⊎ Apart s t) → T (not (has_segment l s))
    → T (not (is_on_some l (midpoint s)))
middle_off l ord s o across t = not_T (is_on_some l (midpoint s)) (λ u. let w = on_find l ord (midpoint s) u in ⊎_elim (λ e. T_not (has_segment l s) t (in_has l s (subst (λ r. r ∈ l) (sym e) w.1))) (λ a. middle_inner s o (a (midpoint s) (one_pos 1) (middle s) w.2).0) (across w.0 w.1))

-- the midpoint of a line's own segment is in its interior
pub middle_in : (l : List Segment) → Split l → (s : Segment) → s ∈ l → T (in_interior (Object.line l) (midpoint s))
middle_in l split s m = line_inner l split.ordered s m (midpoint s) (middle s) (λ t i. refute (is_end t (midpoint s)) (λ u. no_end t i (split.apart s t m i) u))
  where
    no_end : (t : Segment) → t ∈ l → (s ≡ t) ⊎ Apart s t → T (is_end t (midpoint s)) → ⊥
    no_end t i (inl e) u = middle_inner s (split.ordered s m) (end_read s (midpoint s) (subst (λ r. T (is_end r (midpoint s))) (sym e) u))
    no_end t i (inr a) u = middle_inner s (split.ordered s m) (a (midpoint s) (one_pos 1) (middle s) (end_along t (midpoint s) (one_pos 1) (end_read t (midpoint s) u))).0

-- a point in the interior of a line is on one of its segments
pub line_on : (l : List Segment) → ((t : Segment) → t ∈ l → Ordered t) → (p : HPoint) → T (in_interior (Object.line l) p) → (s : Segment) × (s ∈ l) × Along s p
unfolding in_interior
line_on l ord p t = on_find l ord p (and_left (is_on_some l p) (not (is_boundary (ends_at l p))) t)

-- a point of s off a region that s is none of is inside or outside it as s's midpoint is
pub moving : (R : List Segment) → Regular R → (s : Segment) → Ordered s → ((t : Segment) → t ∈ R → (s ≡ t) ⊎ Apart s t) → T (not (has_segment R s))
    → (p : HPoint) → Pos p.W → Along s p → T (not (is_on_some R p)) → inside R p ≡ inside R (midpoint s)
moving R regular s o across none p p_pos h off =
    inside_parity R ord p (false_is (is_on_some R p) off)
    ∙ along_segment s o p p_pos h R regular.even ord (λ t m. inr (λ k. T_not (is_on_some R p) off (on_make R ord p t m k), apart t m (across t m)))
    ∙ sym (inside_parity R ord (midpoint s) (false_is (is_on_some R (midpoint s)) (middle_off R ord s o across none)))
  where
    ord : (t : Segment) → t ∈ R → Ordered t
    ord = regular.split.ordered

    apart : (t : Segment) → t ∈ R → (s ≡ t) ⊎ Apart s t → Apart s t
    apart t m (inl e) = absurd (T_not (has_segment R s) none (in_has R s (subst (λ r. r ∈ R) (sym e) m)))
    apart t m (inr a) = a

-- where one segment of a region ends, another does
pub another_end : (R : List Segment) → Regular R → (s : Segment) → s ∈ R → (v : Point) → T (is_end s (grid v)) → T (joins R s v)
another_end R regular s m v h = ⊎_elim (λ t. t) (λ t. absurd (alone t)) (decide (joins R s v))
  where
    only : T (not (joins R s v)) → (t : Segment) → t ∈ R → is_end t (grid v) ≡ is_same_segment s t
    only no_join t i = same_test (is_end t (grid v)) (is_same_segment s t) (λ k. ⊎_elim (λ u. u) (λ u. absurd (T_not (joins R s v) no_join (some_make (λ r. not (is_same_segment s r) && is_end r (grid v)) i (and_make (not (is_same_segment s t)) (is_end t (grid v)) u k)))) (decide (is_same_segment s t))) (λ k. subst (λ r. T (is_end r (grid v))) (same_segment_read s t k) h)

    alone : T (not (joins R s v)) → ⊥
    alone t =
        let odd-one : parity (λ r. is_end r (grid v)) R ≡ true = parity_same (λ r. is_end r (grid v)) (is_same_segment s) R (only t) ∙ regular.split.once s m in
        let even-one : parity (λ r. is_end r (grid v)) R ≡ false = parity_same (λ r. is_end r (grid v)) (λ r. is_same_point r.left v ⊻ is_same_point r.right v) R (λ r i. ends_parity r (regular.split.ordered r i) v) ∙ regular.even v in
        false≢true (sym even-one ∙ odd-one)
