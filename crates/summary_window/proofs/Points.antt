-- A hit in points: the tests of a good summary's box against a window say that some point lies in both, each float standing for its exact value.
use Prim.Native.Nat.{ℕ, ◌+◌, ◌≤◌}
use native.Mathlib.Omega.{arith}
use mathlib.Core.Path.{◌≡◌, sym, ap₂, subst, ◌∙◌}
use mathlib.Core.Logic.{◌↔◌}
use mathlib.Core.Bool.{Bool, false, not, ◌&&◌}
use mathlib.Core.List.{List}
use lib.Dec.{T, leb, le→leb}
use lib.ListN.{length}
use lib.IntN.{ℤ, pos, nat_abs, *ℤ_comm}
use lib.Signed.{le_z}
use lib.Ieee.{Float, binary32, le}
use lib.Ieee.Scale.{finite}
use Rattle.whole.proofs.Logic.{and_left, and_right, and_make, false_is}
use Rattle.whole.proofs.Sign.{one_pos, le_z_times}
use Rattle.plane.specs.declared.Point.{Point}
use Rattle.plane.specs.Plane.{limit, in_range, Fraction, FractionPoint}
use Rattle.plane.proofs.Machine.{within_x, within_y}
use Rattle.floats.specs.Value.{counted, value_of, over_one, at_most, InStretch}
use Rattle.floats.proofs.Compared.{le_exact, le_counted, counted_le}
use Rattle.floats.proofs.Fractions.{shared}
use Rattle.summary.specs.declared.Bounds.{Bounds}
use Rattle.summary.specs.declared.Summary.{Summary}
use Rattle.summary.specs.Summary.{size, good_box, good_for, is_good, fields_good_at, summary_at, good_at}
use Rattle.summary_window.specs.declared.Window.{Window}
use Rattle.summary_window.specs.Window.{is_range, is_window, shares_of, meets, good_from, hit_at, InBox, InView}

-- ---- what a good box gives: edges that single floats count, and rise
pub record Edges (b : Bounds) : Type 0 where
  pub left : T (counted binary32 b.least.x)
  pub bottom : T (counted binary32 b.least.y)
  pub right : T (counted binary32 b.greatest.x)
  pub top : T (counted binary32 b.greatest.y)
  pub across : T (le_z b.least.x b.greatest.x)
  pub up : T (le_z b.least.y b.greatest.y)

small : (z : ℤ) → nat_abs z ≤ limit → T (counted binary32 z)
small z h = le→leb (nat_abs z) 16777216 (omega arith)

pub edges : (b : Bounds) → T (good_box b) → Edges b
unfolding good_box
edges b g =
    record {
      left = small p.x (within_x limit p first);
      bottom = small p.y (within_y limit p first);
      right = small q.x (within_x limit q second);
      top = small q.y (within_y limit q second);
      across = and_right (in_range p && in_range q) (le_z p.x q.x) both;
      up = and_right (in_range p && in_range q && le_z p.x q.x) (le_z p.y q.y) g;
    }
  where
    p : Point
    p = b.least

    q : Point
    q = b.greatest

    both : T (in_range p && in_range q && le_z p.x q.x)
    both = and_left (in_range p && in_range q && le_z p.x q.x) (le_z p.y q.y) g

    ranges : T (in_range p && in_range q)
    ranges = and_left (in_range p && in_range q) (le_z p.x q.x) both

    first : T (in_range p)
    first = and_left (in_range p) (in_range q) ranges

    second : T (in_range q)
    second = and_right (in_range p) (in_range q) ranges

-- ---- along one axis
rising : (a b : ℤ) → T (le_z a b) → T (at_most (over_one a) (over_one b))
rising a b t = subst T (sym (ap₂ le_z (*ℤ_comm a (pos 1)) (*ℤ_comm b (pos 1)) ∙ le_z_times (one_pos 0) a b)) t

module _ (l g : Float) (a b : ℤ) (r : T (is_range l g)) (c : T (counted binary32 a)) (d : T (counted binary32 b)) (u : T (le_z a b)) where
  lower : T (finite l)
  unfolding is_range
  lower = and_left (finite l) (finite g && le l g) r

  upper : T (finite g)
  unfolding is_range
  upper = and_left (finite g) (le l g) (and_right (finite l) (finite g && le l g) r)

  ordered : T (at_most (value_of l) (value_of g))
  unfolding is_range
  ordered = subst T (le_exact l g lower upper) (and_right (finite g) (le l g) (and_right (finite l) (finite g && le l g) r))

  exactly : shares_of l g a b ≡ (at_most (value_of l) (over_one b) && at_most (over_one a) (value_of g))
  unfolding shares_of
  exactly = ap₂ ◌&&◌ (le_counted binary32 l lower b d) (counted_le binary32 g upper a c)

  pub axis : T (shares_of l g a b) ↔ ((q : Fraction) × InStretch (value_of l) (value_of g) q × InStretch (over_one a) (over_one b) q)
  axis =
      let s = shared (value_of l) (value_of g) (over_one a) (over_one b) ordered (rising a b u) in (
        λ t. s.1 (and_left (at_most (value_of l) (over_one b)) (at_most (over_one a) (value_of g)) (subst T exactly t), and_right (at_most (value_of l) (over_one b)) (at_most (over_one a) (value_of g)) (subst T exactly t)),
        λ q. subst T (sym exactly) (and_make (at_most (value_of l) (over_one b)) (at_most (over_one a) (value_of g)) (s.0 q).0 (s.0 q).1),
      )

-- ---- along both
module _ (w : Window) (b : Bounds) (ok : T (is_window w)) (good : T (good_box b)) where
  e : Edges b
  e = edges b good

  wide : T (is_range w.least_x w.greatest_x)
  unfolding is_window
  wide = and_left (is_range w.least_x w.greatest_x) (is_range w.least_y w.greatest_y) ok

  high : T (is_range w.least_y w.greatest_y)
  unfolding is_window
  high = and_right (is_range w.least_x w.greatest_x) (is_range w.least_y w.greatest_y) ok

  abbrev in_x : Bool
  in_x = shares_of w.least_x w.greatest_x b.least.x b.greatest.x

  abbrev in_y : Bool
  in_y = shares_of w.least_y w.greatest_y b.least.y b.greatest.y

  x_axis : T in_x
      ↔ ((q : Fraction) × InStretch (value_of w.least_x) (value_of w.greatest_x) q × InStretch (over_one b.least.x) (over_one b.greatest.x) q)
  x_axis = axis w.least_x w.greatest_x b.least.x b.greatest.x wide e.left e.right e.across

  y_axis : T in_y
      ↔ ((q : Fraction) × InStretch (value_of w.least_y) (value_of w.greatest_y) q × InStretch (over_one b.least.y) (over_one b.greatest.y) q)
  y_axis = axis w.least_y w.greatest_y b.least.y b.greatest.y high e.bottom e.top e.up

  pub meet : T (meets w b) ↔ ((p : FractionPoint) × InBox b p × InView w p)
  unfolding meets
  meet = (there, back)
    where
      there : T (in_x && in_y) → (p : FractionPoint) × InBox b p × InView w p
      there t =
          let x = x_axis.0 (and_left in_x in_y t) in
          let y = y_axis.0 (and_right in_x in_y t) in
          (record { at_x = x.0; at_y = y.0 }, (x.2, y.2), (x.1, y.1))

      back : ((p : FractionPoint) × InBox b p × InView w p) → T (in_x && in_y)
      back (p, box, view) = and_make in_x in_y (x_axis.1 (p.at_x, view.0, box.0)) (y_axis.1 (p.at_y, view.1, box.1))

-- ---- a summary
pub good_box_lem : (s : List ℕ) (at : ℕ) → T (good_from s at) → T (good_box (summary_at s at).bounds)
unfolding good_from good_at
good_box_lem s at t =
    let r = summary_at s at in
    and_left (good_box r.bounds) (good_for r.shape r.empty r.bounds r.boundary)
    (and_right (fields_good_at s at) (is_good r) (and_right (leb (at + size) (length s)) (good_at s at) t))

pub hit : (w : Window) (s : List ℕ) (at : ℕ) → T (is_window w) → T (good_from s at)
    → T (hit_at w s at) ↔ ((summary_at s at).empty ≡ false) × ((p : FractionPoint) × InBox (summary_at s at).bounds p × InView w p)
unfolding hit_at
hit w s at ok good = (
  λ t. (filled (and_left (not r.empty) (meets w r.bounds) t), m.0 (and_right (not r.empty) (meets w r.bounds) t)),
  λ (f, p). and_make (not r.empty) (meets w r.bounds) (subst (λ (x : Bool). T (not x)) (sym f) tt) (m.1 p),
)
  where
    r : Summary
    r = summary_at s at

    m : T (meets w r.bounds) ↔ ((p : FractionPoint) × InBox r.bounds p × InView w p)
    m = meet w r.bounds ok (good_box_lem s at good)

    filled : T (not r.empty) → r.empty ≡ false
    filled t = false_is r.empty t
