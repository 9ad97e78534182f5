-- Segments of non-zero length: a smaller one at an end keeps what the end keeps; and in each there is one that is off any points.
use Prim.Native.Nat.{ℕ, ◌≤◌}
use native.Mathlib.Omega.{arith}
use mathlib.Core.Path.{◌≡◌, sym, ap₂, ◌∙◌, subst}
use mathlib.Core.List.{List, [], ◌∷◌}
use mathlib.Core.Logic.{⊎_elim}
use lib.IntN.{ℤ, pos, ◌+ℤ◌, ◌-ℤ◌, ◌*ℤ◌}
use Rattle.whole.specs.Count.{◌∈◌}
use Rattle.whole.proofs.Logic.{in_nil, in_cons}
use Rattle.whole.proofs.Solver.{var, con, ◌:+◌, ◌:-◌, ◌:*◌, solve}
use Rattle.whole.proofs.Sign.{Pos, nonneg_add, nonneg_mul, cancel_zero, sub_zero_eq, lit_nonneg, one_pos}
use Rattle.plane.specs.Plane.{HPoint}
use Rattle.plane.proofs.Homogeneous.{triple_eq}
use Rattle.plane.proofs.OnSegment.{Between}
use Rattle.plane.proofs.Meeting.{between_swap}
use Rattle.plane.proofs.Steps.{Large, large_map, step}
use Rattle.plane_dimensions.specs.Dimensions.{Same}
use Rattle.plane_dimensions.proofs.Means.{mean_positive, mean_two, Kept, kept_step}
use Rattle.plane_dimensions.proofs.Avoided.{equal_zero, Off, Place, at, off, place}
use Rattle.plane_dimensions.proofs.Triangles.{step_pos}

pub record Span : Type 0 where
  pub u : HPoint
  pub v : HPoint
  pub u_pos : Pos u.W
  pub v_pos : Pos v.W
  pub non_zero : Same u v → ⊥

abbrev pub Inside : Span → HPoint → Type 0
Inside t p = Between t.u t.v p

pub first_end : (u v : HPoint) → Between u v u
first_end u v =
    record {
      k = pos 1;
      a = pos 1;
      b = pos 0;
      k_pos = one_pos 0;
      a_least = lit_nonneg 1;
      b_least = lit_nonneg 0;
      mean = triple_eq (is u.X v.X) (is u.Y v.Y) (is u.W v.W);
    }
  where
    is : (x y : ℤ) → pos 1 *ℤ x ≡ pos 1 *ℤ x +ℤ pos 0 *ℤ y
    is x y = solve (x ∷ y ∷ []) (con (pos 1) :* var 0) (con (pos 1) :* var 0 :+ con (pos 0) :* var 1) tt

-- ---- the same point

-- x/w, y/v and z/k: if the first two are the third, they are equal
same_both : (x w y v z : ℤ) {k : ℤ} → Pos k → x *ℤ k ≡ z *ℤ w → y *ℤ k ≡ z *ℤ v → x *ℤ v ≡ y *ℤ w
same_both x w y v z {k} h e f =
    sub_zero_eq (x *ℤ v) (y *ℤ w)
    (cancel_zero h
    (solve (x ∷ w ∷ y ∷ v ∷ k ∷ []) (var 4 :* (var 2 :* var 1 :- var 0 :* var 3)) (var 2 :* var 4 :* var 1 :- var 0 :* var 4 :* var 3) tt
    ∙ ap₂ (λ m n. m *ℤ w -ℤ n *ℤ v) f e
    ∙ solve (w ∷ v ∷ z ∷ []) (var 2 :* var 1 :* var 0 :- var 2 :* var 0 :* var 1) (con (pos 0)) tt))

pub same_at : {p q : HPoint} (e : HPoint) → Pos e.W → Same p e → Same q e → Same p q
same_at {p} {q} e h f g =
    record {
      same_x = same_both p.X p.W q.X q.W e.X h f.same_x g.same_x;
      same_y = same_both p.Y p.W q.Y q.W e.Y h f.same_y g.same_y;
    }

pub same_swap : {p q : HPoint} → Same p q → Same q p
same_swap f = record { same_x = sym f.same_x; same_y = sym f.same_y }

-- ---- a smaller segment at the first end, to n u + v

pub same_step : (u v : HPoint) (n : ℕ) → Same u (step v u n) → Same u v
same_step u v n h =
    record {
      same_x = sub_zero_eq (u.X *ℤ v.W) (v.X *ℤ u.W) (is u.X u.W v.X v.W (equal_zero (sym h.same_x)));
      same_y = sub_zero_eq (u.Y *ℤ v.W) (v.Y *ℤ u.W) (is u.Y u.W v.Y v.W (equal_zero (sym h.same_y)));
    }
  where
    is : (x w y z : ℤ) → (pos n *ℤ x +ℤ y) *ℤ w -ℤ x *ℤ (pos n *ℤ w +ℤ z) ≡ pos 0 → y *ℤ w -ℤ x *ℤ z ≡ pos 0
    is x w y z e = solve (x ∷ w ∷ y ∷ z ∷ pos n ∷ []) (var 2 :* var 1 :- var 0 :* var 3) ((var 4 :* var 0 :+ var 2) :* var 1 :- var 0 :* (var 4 :* var 1 :+ var 3)) tt ∙ e

pub step_between : (v u : HPoint) (n : ℕ) {q : HPoint} → Between u (step v u n) q → Between u v q
step_between v u n h =
    record {
      k = h.k;
      a = h.a +ℤ pos n *ℤ h.b;
      b = h.b;
      k_pos = h.k_pos;
      a_least = nonneg_add h.a_least (nonneg_mul (lit_nonneg n) h.b_least);
      b_least = h.b_least;
      mean = h.mean ∙ triple_eq (is u.X v.X) (is u.Y v.Y) (is u.W v.W);
    }
  where
    is : (x y : ℤ) → h.a *ℤ x +ℤ h.b *ℤ (pos n *ℤ x +ℤ y) ≡ (h.a +ℤ pos n *ℤ h.b) *ℤ x +ℤ h.b *ℤ y
    is x y = solve (h.a ∷ h.b ∷ x ∷ y ∷ pos n ∷ []) (var 0 :* var 2 :+ var 1 :* (var 4 :* var 2 :+ var 3)) ((var 0 :+ var 4 :* var 1) :* var 2 :+ var 1 :* var 3) tt

unfoldable pub narrow : Span → ℕ → Span
narrow t n =
    record { u = t.u; v = step t.v t.u n; u_pos = t.u_pos; v_pos = step_pos t.v t.u t.v_pos t.u_pos n; non_zero = λ h. t.non_zero (same_step t.u t.v n h) }

module _ (t : Span) where
  pub narrow_inside : (n : ℕ) (q : HPoint) → Inside (narrow t n) q → Inside t q
  unfolding narrow
  narrow_inside n q h = step_between t.v t.u n h

  pub narrow_keeps : {P : HPoint → Type 0} → Kept P t.u → Large (λ n. (q : HPoint) → Pos q.W → Inside (narrow t n) q → P q)
  unfolding narrow
  narrow_keeps k = large_map (λ n g q q-pos h. k.gives q (mean_positive (mean_two h) q-pos k.form k.above g g)) (kept_step k t.v)

-- ---- a segment inside another

pub record Smaller (t : Span) (P : HPoint → Type 0) : Type 0 where
  pub small : Span
  pub inner : (q : HPoint) → Inside small q → Inside t q
  pub all : (q : HPoint) → Pos q.W → Inside small q → P q

pub at_end_lem : {P : HPoint → Type 0} (t : Span) → Large (λ n. (q : HPoint) → Pos q.W → Inside (narrow t n) q → P q) → Smaller t P
at_end_lem t w = record { small = narrow t w.from; inner = narrow_inside t w.from; all = w.holds w.from least }
  where
    least : {n : ℕ} → n ≤ n
    least = omega arith

turn : Span → Span
turn t = record { u = t.v; v = t.u; u_pos = t.v_pos; v_pos = t.u_pos; non_zero = λ h. t.non_zero (same_swap h) }

turned : {P : HPoint → Type 0} (t : Span) → Smaller (turn t) P → Smaller t P
unfolding turn
turned t w = record { small = w.small; inner = λ q h. between_swap (w.inner q h); all = w.all }

-- ---- off a point, and off all points of a list

clear_one : (e : HPoint) → Pos e.W → (t : Span) → Smaller t (Off e)
unfolding turn
clear_one e e-pos t = go (place e t.u) (place e t.v)
  where
    go : Place e t.u → Place e t.v → Smaller t (Off e)
    go (off k) w = at_end_lem t (narrow_keeps t k)
    go (at x) (off k) = turned t (at_end_lem (turn t) (narrow_keeps (turn t) k))
    go (at x) (at y) = absurd (t.non_zero (same_at e e-pos x y))

pub clear_all : {A : Type 0} (f : A → HPoint) → ((a : A) → Pos (f a).W) → (l : List A) (t : Span) → Smaller t (λ q. (a : A) → a ∈ l → Off (f a) q)
clear_all f p [] t = record { small = t; inner = λ q h. h; all = λ q k h s m. absurd (in_nil m) }
clear_all f p (r ∷ l) t =
    let w = clear_one (f r) (p r) t in
    let v = clear_all f p l w.small in
    record {
      small = v.small;
      inner = λ q h. w.inner q (v.inner q h);
      all = λ q k h s m. ⊎_elim (λ e. subst (λ x. Off (f x) q) (sym e) (w.all q k (v.inner q h))) (v.all q k h s) (in_cons m);
    }
