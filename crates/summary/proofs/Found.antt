-- Every good summary is made by some accepted object: two corners, a diagonal, or the triangle over the box's lower left corner.
use Prim.Native.Nat.{ℕ, ◌+◌, ◌≤◌}
use native.Mathlib.Omega.{arith}
use mathlib.Core.Path.{◌≡◌, refl, sym, ap, ap₂, ◌∙◌, subst}
use mathlib.Core.Logic.{◌⊎◌, inl, inr, ⊎_elim}
use mathlib.Core.Bool.{Bool, true, false, not, ◌&&◌, ◌||◌, cond}
use mathlib.Core.List.{List, [], ◌∷◌}
use lib.ListN.{length}
use lib.Dec.{T, T_not, leb}
use lib.IntN.{ℤ, pos, nat_abs, neg_ℤ, ◌-ℤ◌, ◌*ℤ◌}
use lib.Signed.{le_z}
use Rattle.whole.specs.Count.{eq_z, ◌∈◌, bit, odd}
use Rattle.whole.proofs.Solver.{var, con, opp, ◌:+◌, ◌:-◌, ◌:*◌, solve}
use Rattle.whole.proofs.Sign.{Pos, NonNeg, Weak, weak_zero, weak_plus, weak, pos_nonneg, zero_pos, pos_add_nonneg, pos_mul, mul_zero_left, mul_zero_right, cancel_zero, cancel_zero_right, le_z_nonneg, nonneg_le_z, zero_nonneg, zero_eq_z, sub_zero_eq, pos_lt_z0}
use Rattle.whole.proofs.Balance.{eq_z_read}
use Rattle.whole.proofs.Logic.{in_nil, in_cons, and_left, and_right, and_make, or_left, or_right, decide, true_is, false_is, refute, Sorted, sorted_nil, sorted_cons}
use Rattle.whole.proofs.Parity.{◌⊻◌, parity, parity_nil}
use Rattle.plane.specs.declared.Point.{Point}
use Rattle.plane.specs.declared.Segment.{Segment}
use Rattle.plane.specs.Plane.{HPoint, grid, midpoint, limit, within, in_range, before, side, is_same_point, ordered, dominating, far_end, comes_before, is_end, is_boundary, ends_at, counts_below}
use Rattle.plane.proofs.OnSegment.{Ordered, slanting, upright, Along, right_of_left, above_left, left_of_right, below_right}
use Rattle.plane.proofs.Means.{At, left_end, right_end}
use Rattle.plane.proofs.Equal.{point_eq, same_point_read, same_point_refl}
use Rattle.plane.proofs.Order.{ordered_make, ends_differ, LeftBefore, segments_once}
use Rattle.plane.proofs.AlongSegment.{Apart}
use Rattle.plane.proofs.Grid.{end_grid}
use Rattle.plane.proofs.Path.{Even}
use Rattle.plane.proofs.Accepted.{Across, Split}
use Rattle.scene.specs.declared.Shape.{Shape}
use Rattle.scene.specs.declared.Shape.TheVariants.{Points, Line, Region}
use Rattle.scene.specs.Read.{most}
use Rattle.flags.specs.Flags.{Edge, Elements, is_bound}
use Rattle.cells_matrix.proofs.RegionRegion.{Sound}
use Rattle.cells_matrix.proofs.Theorem.{Good}
use Rattle.summary.specs.declared.Bounds.{Bounds}
use Rattle.summary.specs.declared.Summary.{Summary}
use Rattle.summary.specs.Summary.{ends, corners, lesser, greater, box_of, origin, is_origin, has_boundary, summary_of, is_flat, is_point, good_box, good_for, is_good}
use Rattle.summary.proofs.Made.{AllInRange, Listed}

-- ---- the triangle

module _ (a b c d : ℤ) (wide : Pos (b -ℤ a)) (high : Pos (d -ℤ c)) where
  abbrev A : Point
  A = record { x = a; y = c }

  abbrev B : Point
  B = record { x = b; y = c }

  abbrev C : Point
  C = record { x = a; y = d }

  abbrev AB : Segment
  AB = record { left = A; right = B }

  abbrev Ac : Segment
  Ac = record { left = A; right = C }

  abbrev CB : Segment
  CB = record { left = C; right = B }

  abbrev triangle : List Segment
  triangle = AB ∷ Ac ∷ CB ∷ []

  none_wide : (z : ℤ) → z -ℤ z ≡ pos 0
  none_wide z = solve (z ∷ []) (var 0 :- var 0) (con (pos 0)) tt

  -- a number that is zero once turned about
  about : (x y : ℤ) → x -ℤ y ≡ pos 0 → y -ℤ x ≡ pos 0
  about x y e = ap (λ z. y -ℤ z) (sym (sub_zero_eq y x e)) ∙ none_wide y

  each : (Q : Segment → Type 0) → Q AB → Q Ac → Q CB → (s : Segment) → s ∈ triangle → Q s
  each Q x y z s m =
      ⊎_elim (λ e. subst Q (sym e) x) (λ k. ⊎_elim (λ e. subst Q (sym e) y) (λ n. ⊎_elim (λ e. subst Q (sym e) z) (λ i. absurd (in_nil i)) (in_cons n)) (in_cons k)) (in_cons m)

  all_ordered : (s : Segment) → s ∈ triangle → Ordered s
  all_ordered = each Ordered (slanting wide) (upright (none_wide a) high) (slanting wide)

  low : (p : HPoint) → Along AB p → p.Y -ℤ c *ℤ p.W ≡ pos 0
  low p h = cancel_zero h.k_pos (above_left AB p h ∙ mul_zero_right h.b (none_wide c))

  near : (p : HPoint) → Along Ac p → p.X -ℤ a *ℤ p.W ≡ pos 0
  near p h = cancel_zero h.k_pos (right_of_left Ac p h ∙ mul_zero_right h.b (none_wide a))

  ab_ac : Apart AB Ac
  ab_ac p w h k = (left_end (record { at_x = near p k; at_y = low p h }), left_end (record { at_x = near p k; at_y = low p h }))

  ab_cb : Apart AB CB
  ab_cb p w h k = (right_end at_B, right_end at_B)
    where
      weight : k.a ≡ pos 0
      weight =
          cancel_zero_right high
          (solve (k.a ∷ c ∷ d ∷ []) (var 0 :* (var 2 :- var 1)) (opp (var 0 :* (var 1 :- var 2))) tt
          ∙ ap neg_ℤ (sym (below_right CB p k) ∙ mul_zero_right k.k (about p.Y (c *ℤ p.W) (low p h))))

      at_B : At B p
      at_B = record { at_x = about (b *ℤ p.W) p.X (cancel_zero k.k_pos (left_of_right CB p k ∙ mul_zero_left (b -ℤ a) weight)); at_y = low p h }

  ac_cb : Apart Ac CB
  ac_cb p w h k = (right_end at_C, left_end at_C)
    where
      weight : k.b ≡ pos 0
      weight = cancel_zero_right wide (sym (right_of_left CB p k) ∙ mul_zero_right k.k (near p h))

      at_C : At C p
      at_C = record { at_x = near p h; at_y = cancel_zero k.k_pos (above_left CB p k ∙ mul_zero_left (c -ℤ d) weight) }

  turned : {s t : Segment} → Apart s t → Apart t s
  turned f p w h k = let r = f p w k h in (r.1, r.0)

  apart : Across triangle triangle
  apart s t h k =
      each (λ s. (t : Segment) → t ∈ triangle → (s ≡ t) ⊎ Apart s t)
      (each (λ t. (AB ≡ t) ⊎ Apart AB t) (inl refl) (inr ab_ac) (inr ab_cb))
      (each (λ t. (Ac ≡ t) ⊎ Apart Ac t) (inr (turned ab_ac)) (inl refl) (inr ac_cb))
      (each (λ t. (CB ≡ t) ⊎ Apart CB t) (inr (turned ab_cb)) (inr (turned ac_cb)) (inl refl))
      s h t k

  -- in order
  a_before_c : T (before A C)
  unfolding ordered
  a_before_c = ordered_make Ac (upright (none_wide a) high)

  rises : (s t : Segment) → T (before s.left t.left) → LeftBefore s t
  unfolding comes_before dominating
  rises s t h = or_left (before s.left t.left) _ h

  area : Pos (side A B C)
  unfolding side
  area = subst Pos (solve (a ∷ b ∷ c ∷ d ∷ []) ((var 1 :- var 0) :* (var 3 :- var 2)) ((var 1 :- var 0) :* (var 3 :- var 2) :- (var 2 :- var 2) :* (var 0 :- var 0)) tt) (pos_mul wide high)

  beside : LeftBefore AB Ac
  unfolding comes_before dominating far_end
  beside =
      or_right (before A A) _
      (and_make (is_same_point A A) _ (same_point_refl A) (pos_lt_z0 (side A B C) area))

  sorted : Sorted LeftBefore triangle
  sorted =
      sorted_cons {l = Ac ∷ CB ∷ []} (λ t m. ⊎_elim (λ e. subst (LeftBefore AB) (sym e) beside) (λ k. ⊎_elim (λ e. subst (LeftBefore AB) (sym e) (rises AB CB a_before_c)) (λ i. absurd (in_nil i)) (in_cons k)) (in_cons m))
      (sorted_cons {l = CB ∷ []} (λ t m. ⊎_elim (λ e. subst (LeftBefore Ac) (sym e) (rises Ac CB a_before_c)) (λ i. absurd (in_nil i)) (in_cons m))
      (sorted_cons {l = []} (λ t m. absurd (in_nil m)) sorted_nil))

  split : Split triangle
  split = record { ordered = all_ordered; apart = apart; once = segments_once sorted }

  even : Even triangle
  unfolding parity
  even v = go (is_same_point A v) (is_same_point B v) (is_same_point C v)
    where
      go : (x y z : Bool) → (x ⊻ y) ⊻ ((x ⊻ z) ⊻ ((z ⊻ y) ⊻ false)) ≡ false
      go true true true = refl
      go true true false = refl
      go true false true = refl
      go true false false = refl
      go false true true = refl
      go false true false = refl
      go false false true = refl
      go false false false = refl

  -- two segments end at each corner
  apart_points : (s : Segment) → Ordered s → (is_same_point s.left s.right ≡ false) × (is_same_point s.right s.left ≡ false)
  apart_points s o = (refute (is_same_point s.left s.right) (λ t. ends_differ o (same_point_read s.left s.right t)), refute (is_same_point s.right s.left) (λ t. ends_differ o (sym (same_point_read s.right s.left t))))

  same : (p : Point) → is_same_point p p ≡ true
  same p = true_is (is_same_point p p) (same_point_refl p)

  ends_there : (s : Segment) (v : Point) {x y : Bool} → is_same_point s.left v ≡ x → is_same_point s.right v ≡ y → is_end s (grid v) ≡ (x || y)
  ends_there s v e f = end_grid s v ∙ ap₂ ◌||◌ e f

  counted : (v : Point) {p q r : Bool} → is_end AB (grid v) ≡ p → is_end Ac (grid v) ≡ q → is_end CB (grid v) ≡ r → ends_at triangle (grid v) ≡ bit p + (bit q + (bit r + 0))
  unfolding ends_at
  counted v e f g = ap₂ (λ (x : Bool) (n : ℕ). bit x + n) e (ap₂ (λ (x : Bool) (n : ℕ). bit x + n) f (ap (λ (x : Bool). bit x + 0) g))

  abbrev ab_differ : (is_same_point A B ≡ false) × (is_same_point B A ≡ false)
  ab_differ = apart_points AB (slanting wide)

  abbrev ac_differ : (is_same_point A C ≡ false) × (is_same_point C A ≡ false)
  ac_differ = apart_points Ac (upright (none_wide a) high)

  abbrev cb_differ : (is_same_point C B ≡ false) × (is_same_point B C ≡ false)
  cb_differ = apart_points CB (slanting wide)

  rule_two : is_boundary 2 ≡ false
  unfolding is_boundary odd
  rule_two = refl

  no_A : is_bound triangle A ≡ false
  no_A = ap is_boundary (counted A (ends_there AB A (same A) ab_differ.1) (ends_there Ac A (same A) ac_differ.1) (ends_there CB A ac_differ.1 ab_differ.1)) ∙ rule_two

  no_B : is_bound triangle B ≡ false
  no_B = ap is_boundary (counted B (ends_there AB B ab_differ.0 (same B)) (ends_there Ac B ab_differ.0 cb_differ.0) (ends_there CB B cb_differ.0 (same B))) ∙ rule_two

  no_C : is_bound triangle C ≡ false
  no_C = ap is_boundary (counted C (ends_there AB C ac_differ.0 cb_differ.1) (ends_there Ac C ac_differ.0 (same C)) (ends_there CB C (same C) cb_differ.1)) ∙ rule_two

  unbounded : has_boundary (Elements.line triangle) ≡ false
  unbounded = go (is_bound triangle A) (is_bound triangle B) (is_bound triangle C) no_A no_B no_C
    where
      go : (x y z : Bool) → x ≡ false → y ≡ false → z ≡ false → ((x || y) || ((x || z) || ((z || y) || false))) ≡ false
      go true y z e f g = e
      go false true z e f g = f
      go false false true e f g = g
      go false false false e f g = refl

  -- as a region
  abbrev edges : List Edge
  edges = record { segment = AB; ia = not (parity (counts_below (midpoint AB)) triangle) } ∷ record { segment = Ac; ia = not (parity (counts_below (midpoint Ac)) triangle) } ∷ record { segment = CB; ia = not (parity (counts_below (midpoint CB)) triangle) } ∷ []

  sound : Sound edges
  sound = record { regular = record { split = split; even = even }; ia_right = λ e m. ⊎_elim (right e) (λ k. ⊎_elim (right e) (λ n. ⊎_elim (right e) (λ i. absurd (in_nil i)) (in_cons n)) (in_cons k)) (in_cons m) }
    where
      right : (e : Edge) {s : Segment} → e ≡ record { segment = s; ia = not (parity (counts_below (midpoint s)) triangle) } → e.ia ≡ not (parity (counts_below (midpoint e.segment)) triangle)
      right e h = ap (λ (d : Edge). d.ia) h ∙ sym (ap (λ (d : Edge). not (parity (counts_below (midpoint d.segment)) triangle)) h)

  -- its points
  each_end : (Q : Point → Type 0) → Q A → Q B → Q C → (v : Point) → v ∈ ends triangle → Q v
  each_end Q x y z v m =
      or x m (λ m. or y m (λ m. or x m (λ m. or z m (λ m. or z m (λ m. or y m (λ m. absurd (in_nil m)))))))
    where
      or : {u : Point} {l : List Point} → Q u → v ∈ (u ∷ l) → (v ∈ l → Q v) → Q v
      or q m f = ⊎_elim (λ e. subst Q (sym e) q) f (in_cons m)

-- ---- boxes

lesser_low : (x y : ℤ) → NonNeg (y -ℤ x) → lesser x y ≡ x
unfolding lesser
lesser_low x y h = ap (λ t. cond t x y) (true_is (le_z x y) (nonneg_le_z x y h))

greater_high : (x y : ℤ) → NonNeg (y -ℤ x) → greater x y ≡ y
unfolding greater
greater_high x y h = ap (λ t. cond t y x) (true_is (le_z x y) (nonneg_le_z x y h))

greater_back : (x y : ℤ) → Pos (y -ℤ x) → greater y x ≡ y
unfolding greater
greater_back x y h = ap (λ t. cond t x y) (refute (le_z y x) (λ t. zero_pos (solve (x ∷ y ∷ []) (var 1 :- var 0 :+ (var 0 :- var 1)) (con (pos 0)) tt) (pos_add_nonneg h (le_z_nonneg y x t))))

itself : (z : ℤ) → NonNeg (z -ℤ z)
itself z = zero_nonneg (solve (z ∷ []) (var 0 :- var 0) (con (pos 0)) tt)

bounds_eq : {p q r s : Point} → p ≡ r → q ≡ s → ◌≡◌ {A = Bounds} (record { least = p; greatest = q }) (record { least = r; greatest = s })
bounds_eq e f = λ i. record { least = e i; greatest = f i }

two_points : (p q : Point) → NonNeg (q.x -ℤ p.x) → NonNeg (q.y -ℤ p.y) → box_of (p ∷ q ∷ []) ≡ record { least = p; greatest = q }
two_points p q h k = bounds_eq (point_eq (lesser_low p.x q.x h) (lesser_low p.y q.y k)) (point_eq (greater_high p.x q.x h) (greater_high p.y q.y k))

three_points : (a b c d : ℤ) (wide : Pos (b -ℤ a)) (high : Pos (d -ℤ c)) → box_of (ends (triangle a b c d wide high)) ≡ record { least = record { x = a; y = c }; greatest = record { x = b; y = d } }
three_points a b c d wide high =
    simp (lesser_low a b (pos_nonneg wide), lesser_low a a (itself a), greater_high a b (pos_nonneg wide), greater_back a b wide, greater_high b b (itself b), lesser_low c c (itself c), lesser_low c d (pos_nonneg high), greater_high c c (itself c), greater_high c d (pos_nonneg high), greater_high d d (itself d), greater_back c d high)

-- ---- one segment

module _ (D : Segment) (o : Ordered D) where
  one_sorted : Sorted LeftBefore (D ∷ [])
  one_sorted = sorted_cons {l = []} (λ t m. absurd (in_nil m)) sorted_nil

  only : (Q : Segment → Type 0) → Q D → (s : Segment) → s ∈ (D ∷ []) → Q s
  only Q x s m = ⊎_elim (λ e. subst Q (sym e) x) (λ i. absurd (in_nil i)) (in_cons m)

  one_split : Split (D ∷ [])
  one_split = record { ordered = only Ordered o; apart = λ s t m k. inl (only (λ s. s ≡ t) (sym (only (λ t. t ≡ D) refl t k)) s m); once = segments_once one_sorted }

  one_rule : is_boundary 1 ≡ true
  unfolding is_boundary odd
  one_rule = refl

  one_bound : has_boundary (Elements.line (D ∷ [])) ≡ true
  unfolding ends_at
  one_bound = ap (λ x. (x || is_bound (D ∷ []) D.right) || false) (ap (λ (x : Bool). is_boundary (bit x + 0)) (end_grid D D.left ∙ ap (λ x. x || is_same_point D.right D.left) (true_is (is_same_point D.left D.left) (same_point_refl D.left))) ∙ one_rule)

earlier : {s : Segment} → Ordered s → T (before s.left s.right)
unfolding ordered
earlier {s} o = ordered_make s o

nothing_split : Split []
nothing_split = record { ordered = λ t m. absurd (in_nil m); apart = λ s t m k. absurd (in_nil m); once = λ s m. absurd (in_nil m) }

nothing_sound : Sound []
nothing_sound = record { regular = record { split = nothing_split; even = λ v. parity_nil (λ s. is_same_point s.left v ⊻ is_same_point s.right v) }; ia_right = λ e m. absurd (in_nil m) }

-- ---- the theorem

-- "0 to 1,024 elements of its kind": a point is an element, and a segment two, one for each end
pub record MadeBy (s : Summary) : Type 0 where
  pub of : Elements
  pub good : Good of
  pub listed : Listed of
  pub in_range_lem : AllInRange (corners of)
  pub few : length (corners of) ≤ most
  pub same : summary_of of ≡ s

abbrev given : Shape → Bool → Bounds → Bool → Summary
given k e b y = record { shape = k; empty = e; bounds = b; boundary = y }

module _ (b : Bounds) (g : T (good_box b)) where
  abbrev ok : ℤ → Bool
  ok z = leb (nat_abs z) limit

  parts : T (in_range b.least) × T (in_range b.greatest) × NonNeg (b.greatest.x -ℤ b.least.x) × NonNeg (b.greatest.y -ℤ b.least.y)
  unfolding good_box
  parts =
      let h = and_left (in_range b.least && in_range b.greatest && le_z b.least.x b.greatest.x) (le_z b.least.y b.greatest.y) g in
      let k = and_left (in_range b.least && in_range b.greatest) (le_z b.least.x b.greatest.x) h in
      (and_left (in_range b.least) (in_range b.greatest) k, and_right (in_range b.least) (in_range b.greatest) k, le_z_nonneg b.least.x b.greatest.x (and_right (in_range b.least && in_range b.greatest) (le_z b.least.x b.greatest.x) h), le_z_nonneg b.least.y b.greatest.y (and_right (in_range b.least && in_range b.greatest && le_z b.least.x b.greatest.x) (le_z b.least.y b.greatest.y) g))

  abbrev diagonal : Segment
  diagonal = record { left = b.least; right = b.greatest }

  proper : T (not (is_point b)) → Ordered diagonal
  proper n = go (weak parts.2) (weak parts.3)
    where
      go : Weak (b.greatest.x -ℤ b.least.x) → Weak (b.greatest.y -ℤ b.least.y) → Ordered diagonal
      go (weak_plus h) k = slanting h
      go (weak_zero e) (weak_plus h) = upright e h
      go (weak_zero e) (weak_zero f) = absurd (T_not (is_point b) n (and_make (eq_z b.least.x b.greatest.x) (eq_z b.least.y b.greatest.y) (zero_eq_z b.least.x b.greatest.x e) (zero_eq_z b.least.y b.greatest.y f)))

  extended : T (not (is_flat b)) → Pos (b.greatest.x -ℤ b.least.x) × Pos (b.greatest.y -ℤ b.least.y)
  extended n = (go (weak parts.2), up (weak parts.3))
    where
      go : Weak (b.greatest.x -ℤ b.least.x) → Pos (b.greatest.x -ℤ b.least.x)
      go (weak_plus h) = h
      go (weak_zero e) = absurd (T_not (is_flat b) n (or_left (eq_z b.least.x b.greatest.x) (eq_z b.least.y b.greatest.y) (zero_eq_z b.least.x b.greatest.x e)))

      up : Weak (b.greatest.y -ℤ b.least.y) → Pos (b.greatest.y -ℤ b.least.y)
      up (weak_plus h) = h
      up (weak_zero e) = absurd (T_not (is_flat b) n (or_right (eq_z b.least.x b.greatest.x) (eq_z b.least.y b.greatest.y) (zero_eq_z b.least.y b.greatest.y e)))

  mixed : T (in_range (record { x = b.greatest.x; y = b.least.y })) × T (in_range (record { x = b.least.x; y = b.greatest.y }))
  unfolding within
  mixed = (and_make (ok b.greatest.x) (ok b.least.y) (and_left (ok b.greatest.x) (ok b.greatest.y) parts.1) (and_right (ok b.least.x) (ok b.least.y) parts.0), and_make (ok b.least.x) (ok b.greatest.y) (and_left (ok b.least.x) (ok b.least.y) parts.0) (and_right (ok b.greatest.x) (ok b.greatest.y) parts.1))

  two_in_range : AllInRange (b.least ∷ b.greatest ∷ [])
  two_in_range v m = ⊎_elim (λ e. subst (λ u. T (in_range u)) (sym e) parts.0) (λ k. ⊎_elim (λ e. subst (λ u. T (in_range u)) (sym e) parts.1) (λ i. absurd (in_nil i)) (in_cons k)) (in_cons m)

  box_two : box_of (b.least ∷ b.greatest ∷ []) ≡ b
  box_two = two_points b.least b.greatest parts.2 parts.3

  -- an empty object
  zeros : {y : Bool} → T (is_origin b.least && is_origin b.greatest && not y) → (box_of [] ≡ b) × (false ≡ y)
  zeros {y} t =
      let h = and_left (is_origin b.least && is_origin b.greatest) (not y) t in
      (bounds_eq (at_origin b.least (and_left (is_origin b.least) (is_origin b.greatest) h)) (at_origin b.greatest (and_right (is_origin b.least) (is_origin b.greatest) h)), sym (false_is y (and_right (is_origin b.least && is_origin b.greatest) (not y) t)))
    where
      at_origin : (p : Point) → T (is_origin p) → origin ≡ p
      at_origin p t = point_eq (sym (eq_z_read p.x (pos 0) (and_left (eq_z p.x (pos 0)) (eq_z p.y (pos 0)) t))) (sym (eq_z_read p.y (pos 0) (and_right (eq_z p.x (pos 0)) (eq_z p.y (pos 0)) t)))

  -- points
  two : T (not (is_point b)) → MadeBy (given Points false b false)
  two n =
      record {
        of = Elements.points (b.least ∷ b.greatest ∷ []);
        good = tt;
        listed = sorted_cons {l = b.greatest ∷ []} (λ q m. ⊎_elim (λ e. subst (λ u. T (before b.least u)) (sym e) (earlier (proper n))) (λ i. absurd (in_nil i)) (in_cons m)) (sorted_cons {l = []} (λ q m. absurd (in_nil m)) sorted_nil);
        in_range_lem = two_in_range;
        few = omega arith;
        same = ap (λ c. given Points false c false) box_two;
      }

  one : T (is_point b) → MadeBy (given Points false b false)
  one t =
      record {
        of = Elements.points (b.least ∷ []);
        good = tt;
        listed = sorted_cons {l = []} (λ q m. absurd (in_nil m)) sorted_nil;
        in_range_lem = λ v m. ⊎_elim (λ e. subst (λ u. T (in_range u)) (sym e) parts.0) (λ i. absurd (in_nil i)) (in_cons m);
        few = omega arith;
        same = ap (λ c. given Points false c false) (bounds_eq refl (point_eq (eq_z_read b.least.x b.greatest.x (and_left (eq_z b.least.x b.greatest.x) (eq_z b.least.y b.greatest.y) t)) (eq_z_read b.least.y b.greatest.y (and_right (eq_z b.least.x b.greatest.x) (eq_z b.least.y b.greatest.y) t))));
      }

  -- a line with a boundary, and one without; a region
  open_line : T (not (is_point b)) → MadeBy (given Line false b true)
  open_line n =
      record {
        of = Elements.line (diagonal ∷ []);
        good = one_split diagonal (proper n);
        listed = one_sorted diagonal (proper n);
        in_range_lem = two_in_range;
        few = omega arith;
        same = ap₂ (λ c y. given Line false c y) box_two (one_bound diagonal (proper n));
      }

  module _ (n : T (not (is_flat b))) where
    abbrev w : Pos (b.greatest.x -ℤ b.least.x)
    w = (extended n).0

    abbrev h : Pos (b.greatest.y -ℤ b.least.y)
    h = (extended n).1

    ranged : AllInRange (ends (triangle b.least.x b.greatest.x b.least.y b.greatest.y w h))
    ranged = each_end b.least.x b.greatest.x b.least.y b.greatest.y w h (λ v. T (in_range v)) parts.0 mixed.0 mixed.1

    closed_line : MadeBy (given Line false b false)
    closed_line =
        record {
          of = Elements.line (triangle b.least.x b.greatest.x b.least.y b.greatest.y w h);
          good = split b.least.x b.greatest.x b.least.y b.greatest.y w h;
          listed = sorted b.least.x b.greatest.x b.least.y b.greatest.y w h;
          in_range_lem = ranged;
          few = omega arith;
          same = ap₂ (λ c y. given Line false c y) (three_points b.least.x b.greatest.x b.least.y b.greatest.y w h) (unbounded b.least.x b.greatest.x b.least.y b.greatest.y w h);
        }

    some_region : MadeBy (given Region false b true)
    some_region =
        record {
          of = Elements.region (edges b.least.x b.greatest.x b.least.y b.greatest.y w h);
          good = sound b.least.x b.greatest.x b.least.y b.greatest.y w h;
          listed = sorted b.least.x b.greatest.x b.least.y b.greatest.y w h;
          in_range_lem = ranged;
          few = omega arith;
          same = ap (λ c. given Region false c true) (three_points b.least.x b.greatest.x b.least.y b.greatest.y w h);
        }

nobody : AllInRange []
nobody v m = absurd (in_nil m)

find : (k : Shape) (e : Bool) (b : Bounds) (y : Bool) → T (good_box b) → T (good_for k e b y) → MadeBy (given k e b y)
find Points true b y g t = record { of = Elements.points []; good = tt; listed = sorted_nil; in_range_lem = nobody; few = omega arith; same = ap₂ (λ c z. given Points true c z) (zeros b g {y = y} t).0 (zeros b g {y = y} t).1 }
find Line true b y g t = record { of = Elements.line []; good = nothing_split; listed = sorted_nil; in_range_lem = nobody; few = omega arith; same = ap₂ (λ c z. given Line true c z) (zeros b g {y = y} t).0 (zeros b g {y = y} t).1 }
find Region true b y g t = record { of = Elements.region []; good = nothing_sound; listed = sorted_nil; in_range_lem = nobody; few = omega arith; same = ap₂ (λ c z. given Region true c z) (zeros b g {y = y} t).0 (zeros b g {y = y} t).1 }
find Points false b true g t = absurd t
find Points false b false g t = ⊎_elim (one b g) (two b g) (decide (is_point b))
find Line false b true g t = open_line b g (and_left (not (is_point b)) true t)
find Line false b false g t = closed_line b g (and_right (not (is_point b)) (not (is_flat b)) t)
find Region false b true g t = some_region b g t
find Region false b false g t = absurd t

-- "bad" is exactly "no accepted object has it", with made-good of Made.antt
pub good_made : (s : Summary) → T (is_good s) → MadeBy s
good_made s t = find s.shape s.empty s.bounds s.boundary (and_left (good_box s.bounds) (good_for s.shape s.empty s.bounds s.boundary) t) (and_right (good_box s.bounds) (good_for s.shape s.empty s.bounds s.boundary) t)
