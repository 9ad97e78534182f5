-- Every summary made from an accepted object is good.
use mathlib.Core.Path.{◌≡◌, sym, ap, ap₂, ◌∙◌, subst}
use mathlib.Core.Logic.{◌⊎◌, ⊎_elim}
use mathlib.Core.Bool.{Bool, true, not, ◌&&◌, ◌||◌}
use mathlib.Core.List.{List, [], ◌∷◌}
use lib.Dec.{T, not_T, leb}
use lib.IntN.{ℤ, pos, nat_abs, ◌-ℤ◌, ◌*ℤ◌}
use lib.Signed.{le_z}
use Rattle.whole.specs.Count.{eq_z, ◌∈◌, here, there}
use Rattle.whole.proofs.Solver.{var, con, opp, ◌:-◌, ◌:*◌, solve}
use Rattle.whole.proofs.Sign.{NonNeg, nonneg_both, nonneg_le_z, sub_zero_eq}
use Rattle.whole.proofs.Balance.{eq_z_read}
use Rattle.whole.proofs.Logic.{and_left, and_right, and_make, or_cases, or_left, or_right, decide, is_true, Sorted}
use Rattle.plane.specs.declared.Point.{Point}
use Rattle.plane.specs.declared.Segment.{Segment}
use Rattle.plane.specs.Plane.{limit, within, in_range, before, side}
use Rattle.plane.proofs.Equal.{point_eq}
use Rattle.plane.proofs.Order.{ends_differ, LeftBefore}
use Rattle.plane.proofs.Accepted.{Split}
use Rattle.flags.specs.Flags.{Elements, outline}
use Rattle.cells_matrix.proofs.Theorem.{Good}
use Rattle.summary.specs.declared.Bounds.{Bounds}
use Rattle.summary.specs.Summary.{ends, corners, lesser, greater, widen, grow, box_of, has_boundary, summary_of, is_flat, is_point, good_box, is_good}
use Rattle.summary.proofs.Boxes.{trans, lesser_is, greater_is, Covers, covered}
use Rattle.summary.proofs.Flat.{OnLine, sorted_one, flat_line, flat_region}

-- ---- the box's numbers are those of its points

module _ (Q : ℤ → Type 0) where
  abbrev Four : (Point → ℤ) → Bounds → Type 0
  Four f b = Q (f b.least) × Q (f b.greatest)

  either : (z a b : ℤ) → (z ≡ a) ⊎ (z ≡ b) → Q a → Q b → Q z
  either z a b e p q = ⊎_elim (λ h. subst Q (sym h) p) (λ h. subst Q (sym h) q) e

  grow_x : (b : Bounds) (l : List Point) → Q b.least.x → Q b.greatest.x → ((v : Point) → v ∈ l → Q v.x) → Q (grow b l).least.x × Q (grow b l).greatest.x
  grow_x b [] p q h = (p, q)
  grow_x b (v ∷ l) p q h = grow_x (widen b v) l (either (lesser b.least.x v.x) b.least.x v.x (lesser_is b.least.x v.x) p (h v here)) (either (greater b.greatest.x v.x) b.greatest.x v.x (greater_is b.greatest.x v.x) q (h v here)) (λ u m. h u (there m))

  grow_y : (b : Bounds) (l : List Point) → Q b.least.y → Q b.greatest.y → ((v : Point) → v ∈ l → Q v.y) → Q (grow b l).least.y × Q (grow b l).greatest.y
  grow_y b [] p q h = (p, q)
  grow_y b (v ∷ l) p q h = grow_y (widen b v) l (either (lesser b.least.y v.y) b.least.y v.y (lesser_is b.least.y v.y) p (h v here)) (either (greater b.greatest.y v.y) b.greatest.y v.y (greater_is b.greatest.y v.y) q (h v here)) (λ u m. h u (there m))

-- ---- a box of points in range is good

abbrev pub AllInRange : List Point → Type 0
AllInRange l = (v : Point) → v ∈ l → T (in_range v)

box_good : (v : Point) (l : List Point) → AllInRange (v ∷ l) → T (good_box (box_of (v ∷ l)))
unfolding good_box within
box_good v l h =
    and_make (in_range b.least && in_range b.greatest && le_z b.least.x b.greatest.x) (le_z b.least.y b.greatest.y)
    (and_make (in_range b.least && in_range b.greatest) (le_z b.least.x b.greatest.x)
    (and_make (in_range b.least) (in_range b.greatest)
    (and_make (ok b.least.x) (ok b.least.y) xs.0 ys.0) (and_make (ok b.greatest.x) (ok b.greatest.y) xs.1 ys.1))
    (nonneg_le_z b.least.x b.greatest.x (trans b.least.x v.x b.greatest.x c.from_x c.to_x)))
    (nonneg_le_z b.least.y b.greatest.y (trans b.least.y v.y b.greatest.y c.from_y c.to_y))
  where
    b : Bounds
    b = box_of (v ∷ l)

    c : Covers (box_of (v ∷ l)) v
    c = covered (v ∷ l) v here

    ok : ℤ → Bool
    ok z = leb (nat_abs z) limit

    x_ok : (u : Point) → u ∈ (v ∷ l) → T (ok u.x)
    x_ok u m = and_left (ok u.x) (ok u.y) (h u m)

    y_ok : (u : Point) → u ∈ (v ∷ l) → T (ok u.y)
    y_ok u m = and_right (ok u.x) (ok u.y) (h u m)

    xs : T (ok (box_of (v ∷ l)).least.x) × T (ok (box_of (v ∷ l)).greatest.x)
    xs = grow_x (λ z. T (ok z)) (record { least = v; greatest = v }) l (x_ok v here) (x_ok v here) (λ u m. x_ok u (there m))

    ys : T (ok (box_of (v ∷ l)).least.y) × T (ok (box_of (v ∷ l)).greatest.y)
    ys = grow_y (λ z. T (ok z)) (record { least = v; greatest = v }) l (y_ok v here) (y_ok v here) (λ u m. y_ok u (there m))

-- ---- a flat box

squeezed : (a b z : ℤ) → T (eq_z a b) → NonNeg (z -ℤ a) → NonNeg (b -ℤ z) → z ≡ a
squeezed a b z t h k =
    sym (sub_zero_eq a z (nonneg_both h (subst NonNeg (ap (λ c. c -ℤ z) (sym (eq_z_read a b t)) ∙ solve (a ∷ z ∷ []) (var 0 :- var 1) (opp (var 1 :- var 0)) tt) k)))

flat_x : (k : ℤ) (a b c : Point) → a.x ≡ k → b.x ≡ k → c.x ≡ k → side a b c ≡ pos 0
unfolding side
flat_x k a b c e f g =
    ap₂ (λ m n. (m -ℤ a.x) *ℤ (c.y -ℤ a.y) -ℤ (b.y -ℤ a.y) *ℤ (n -ℤ a.x)) (f ∙ sym e) (g ∙ sym e)
    ∙ solve (a.x ∷ a.y ∷ b.y ∷ c.y ∷ []) ((var 0 :- var 0) :* (var 3 :- var 1) :- (var 2 :- var 1) :* (var 0 :- var 0)) (con (pos 0)) tt

flat_y : (k : ℤ) (a b c : Point) → a.y ≡ k → b.y ≡ k → c.y ≡ k → side a b c ≡ pos 0
unfolding side
flat_y k a b c e f g =
    ap₂ (λ m n. (b.x -ℤ a.x) *ℤ (n -ℤ a.y) -ℤ (m -ℤ a.y) *ℤ (c.x -ℤ a.x)) (f ∙ sym e) (g ∙ sym e)
    ∙ solve (a.x ∷ a.y ∷ b.x ∷ c.x ∷ []) ((var 2 :- var 0) :* (var 1 :- var 1) :- (var 1 :- var 1) :* (var 3 :- var 0)) (con (pos 0)) tt

on_line : (l : List Segment) → T (is_flat (box_of (ends l))) → OnLine l
on_line l t a b c i j k =
    ⊎_elim (λ h. flat_x box.least.x a b c (x_of h a i) (x_of h b j) (x_of h c k)) (λ h. flat_y box.least.y a b c (y_of h a i) (y_of h b j) (y_of h c k))
    (or_cases (eq_z box.least.x box.greatest.x) (eq_z box.least.y box.greatest.y) t)
  where
    box : Bounds
    box = box_of (ends l)

    x_of : T (eq_z (box_of (ends l)).least.x (box_of (ends l)).greatest.x) → (v : Point) → v ∈ ends l → v.x ≡ (box_of (ends l)).least.x
    x_of h v m = squeezed (box_of (ends l)).least.x (box_of (ends l)).greatest.x v.x h (covered (ends l) v m).from_x (covered (ends l) v m).to_x

    y_of : T (eq_z (box_of (ends l)).least.y (box_of (ends l)).greatest.y) → (v : Point) → v ∈ ends l → v.y ≡ (box_of (ends l)).least.y
    y_of h v m = squeezed (box_of (ends l)).least.y (box_of (ends l)).greatest.y v.y h (covered (ends l) v m).from_y (covered (ends l) v m).to_y

-- a segment's ends are two points
no_point : (s : Segment) (l : List Segment) → Split (s ∷ l) → T (is_point (box_of (ends (s ∷ l)))) → ⊥
no_point s l split t = ends_differ (split.ordered s here) (point_eq (x_of s.left here ∙ sym (x_of s.right (there here))) (y_of s.left here ∙ sym (y_of s.right (there here))))
  where
    b : Bounds
    b = box_of (ends (s ∷ l))

    x_of : (v : Point) → v ∈ ends (s ∷ l) → v.x ≡ b.least.x
    x_of v m = squeezed b.least.x b.greatest.x v.x (and_left (eq_z b.least.x b.greatest.x) (eq_z b.least.y b.greatest.y) t) (covered (ends (s ∷ l)) v m).from_x (covered (ends (s ∷ l)) v m).to_x

    y_of : (v : Point) → v ∈ ends (s ∷ l) → v.y ≡ b.least.y
    y_of v m = squeezed b.least.y b.greatest.y v.y (and_right (eq_z b.least.x b.greatest.x) (eq_z b.least.y b.greatest.y) t) (covered (ends (s ∷ l)) v m).from_y (covered (ends (s ∷ l)) v m).to_y

-- ---- the theorem

-- what else 10 gives: the elements in their order
abbrev pub Listed : Elements → Type 0
Listed (Elements.points l) = Sorted (λ p q. T (before p q)) l
Listed (Elements.line l) = Sorted LeftBefore l
Listed (Elements.region l) = Sorted LeftBefore (outline l)

none_good : T (good_box (box_of []))
unfolding good_box within
none_good = tt

pub made_good : (F : Elements) → Good F → Listed F → AllInRange (corners F) → T (is_good (summary_of F))
made_good (Elements.points []) g o r = and_make (good_box (box_of [])) true none_good tt
made_good (Elements.points (v ∷ l)) g o r = and_make (good_box (box_of (v ∷ l))) true (box_good v l r) tt
made_good (Elements.line []) g o r = and_make (good_box (box_of [])) true none_good tt
made_good (Elements.line (s ∷ l)) g o r =
    and_make (good_box b) (not (is_point b) && (y || not (is_flat b))) (box_good s.left (s.right ∷ ends l) r)
    (and_make (not (is_point b)) (y || not (is_flat b)) (not_T (is_point b) (no_point s l g))
    (⊎_elim (λ t. or_left y (not (is_flat b)) (is_true y (flat_line s l g (sorted_one o) (on_line (s ∷ l) t)))) (λ t. or_right y (not (is_flat b)) t) (decide (is_flat b))))
  where
    b : Bounds
    b = box_of (ends (s ∷ l))

    y : Bool
    y = has_boundary (Elements.line (s ∷ l))
made_good (Elements.region []) g o r = and_make (good_box (box_of [])) true none_good tt
made_good (Elements.region (e ∷ l)) g o r =
    and_make (good_box b) (not (is_flat b)) (box_good e.segment.left (e.segment.right ∷ ends (outline l)) r)
    (not_T (is_flat b) (λ t. flat_region e.segment (outline l) g.regular (on_line (e.segment ∷ outline l) t)))
  where
    b : Bounds
    b = box_of (ends (outline (e ∷ l)))
