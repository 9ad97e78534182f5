-- A box covers the points it is made from; boxes that share no point have a line between them.
use mathlib.Core.Path.{◌≡◌, refl, sym, ◌∙◌, subst}
use mathlib.Core.Logic.{◌⊎◌, inl, inr, ⊎_elim}
use mathlib.Core.Bool.{Bool, true, false, not, ◌||◌, cond}
use mathlib.Core.List.{List, [], ◌∷◌}
use lib.Dec.{T}
use lib.IntN.{ℤ, pos, ◌-ℤ◌, ◌*ℤ◌}
use lib.Signed.{lt_z, le_z}
use Rattle.whole.specs.Count.{◌∈◌}
use Rattle.whole.proofs.Solver.{var, con, ◌:+◌, ◌:-◌, ◌:*◌, solve}
use Rattle.whole.proofs.Sign.{Pos, NonNeg, pos_nonneg, zero_nonneg, nonneg_add_pos, nonneg_add, lt_z_pos, le_z_nonneg, lt_z_le_z}
use Rattle.whole.proofs.Logic.{in_nil, in_cons, or_cases, decide, is_true}
use Rattle.plane.specs.declared.Point.{Point}
use Rattle.summary.specs.declared.Bounds.{Bounds}
use Rattle.summary.specs.Summary.{lesser, greater, widen, grow, box_of, beside}
use Rattle.summary.proofs.Hull.{east, north}
use Rattle.summary.proofs.Clear.{Clear, clear_swap}

-- ---- the lesser and the greater of two

pub trans : (a b c : ℤ) → NonNeg (b -ℤ a) → NonNeg (c -ℤ b) → NonNeg (c -ℤ a)
trans a b c h k = subst NonNeg (solve (a ∷ b ∷ c ∷ []) (var 1 :- var 0 :+ (var 2 :- var 1)) (var 2 :- var 0) tt) (nonneg_add h k)

pub self : (a : ℤ) → NonNeg (a -ℤ a)
self a = zero_nonneg (solve (a ∷ []) (var 0 :- var 0) (con (pos 0)) tt)

module _ (a b : ℤ) where
  -- a is at most b, or not
  either : (T (le_z a b) × NonNeg (b -ℤ a)) ⊎ (T (not (le_z a b)) × NonNeg (a -ℤ b))
  either = ⊎_elim (λ t. inl (t, le_z_nonneg a b t)) (λ t. inr (t, pos_nonneg (lt_z_pos b a (is_true (lt_z b a) (lt_z_le_z b a ∙ on_not (le_z a b) t))))) (decide (le_z a b))
    where
      on_not : (c : Bool) → T (not c) → not c ≡ true
      on_not true t = absurd t
      on_not false t = refl

  pub lesser_is : (lesser a b ≡ a) ⊎ (lesser a b ≡ b)
  unfolding lesser
  lesser_is = go (le_z a b)
    where
      go : (c : Bool) → (cond c a b ≡ a) ⊎ (cond c a b ≡ b)
      go true = inl refl
      go false = inr refl

  pub greater_is : (greater a b ≡ a) ⊎ (greater a b ≡ b)
  unfolding greater
  greater_is = go (le_z a b)
    where
      go : (c : Bool) → (cond c b a ≡ a) ⊎ (cond c b a ≡ b)
      go true = inr refl
      go false = inl refl

  pub lesser_least : NonNeg (a -ℤ lesser a b) × NonNeg (b -ℤ lesser a b)
  unfolding lesser
  lesser_least = go (le_z a b) either
    where
      go : (c : Bool) → (T c × NonNeg (b -ℤ a)) ⊎ (T (not c) × NonNeg (a -ℤ b)) → NonNeg (a -ℤ cond c a b) × NonNeg (b -ℤ cond c a b)
      go true (inl h) = (self a, h.1)
      go true (inr h) = absurd h.0
      go false (inl h) = absurd h.0
      go false (inr h) = (h.1, self b)

  pub greater_greatest : NonNeg (greater a b -ℤ a) × NonNeg (greater a b -ℤ b)
  unfolding greater
  greater_greatest = go (le_z a b) either
    where
      go : (c : Bool) → (T c × NonNeg (b -ℤ a)) ⊎ (T (not c) × NonNeg (a -ℤ b)) → NonNeg (cond c b a -ℤ a) × NonNeg (cond c b a -ℤ b)
      go true (inl h) = (h.1, self b)
      go true (inr h) = absurd h.0
      go false (inl h) = absurd h.0
      go false (inr h) = (self a, h.1)

-- ---- a box covers its points

pub record Covers (b : Bounds) (v : Point) : Type 0 where
  pub from_x : NonNeg (v.x -ℤ b.least.x)
  pub to_x : NonNeg (b.greatest.x -ℤ v.x)
  pub from_y : NonNeg (v.y -ℤ b.least.y)
  pub to_y : NonNeg (b.greatest.y -ℤ v.y)

pub covers_self : (p : Point) → Covers (record { least = p; greatest = p }) p
covers_self p = record { from_x = self p.x; to_x = self p.x; from_y = self p.y; to_y = self p.y }

widen_new : (b : Bounds) (p : Point) → Covers (widen b p) p
widen_new b p =
    record {
      from_x = (lesser_least b.least.x p.x).1;
      to_x = (greater_greatest b.greatest.x p.x).1;
      from_y = (lesser_least b.least.y p.y).1;
      to_y = (greater_greatest b.greatest.y p.y).1;
    }

widen_old : (b : Bounds) (p v : Point) → Covers b v → Covers (widen b p) v
widen_old b p v c =
    record {
      from_x = trans (widen b p).least.x b.least.x v.x (lesser_least b.least.x p.x).0 c.from_x;
      to_x = trans v.x b.greatest.x (widen b p).greatest.x c.to_x (greater_greatest b.greatest.x p.x).0;
      from_y = trans (widen b p).least.y b.least.y v.y (lesser_least b.least.y p.y).0 c.from_y;
      to_y = trans v.y b.greatest.y (widen b p).greatest.y c.to_y (greater_greatest b.greatest.y p.y).0;
    }

grow_old : (b : Bounds) (l : List Point) (v : Point) → Covers b v → Covers (grow b l) v
grow_old b [] v c = c
grow_old b (p ∷ l) v c = grow_old (widen b p) l v (widen_old b p v c)

grow_new : (b : Bounds) (l : List Point) (v : Point) → v ∈ l → Covers (grow b l) v
grow_new b [] v m = absurd (in_nil m)
grow_new b (p ∷ l) v m = ⊎_elim (λ e. subst (Covers (grow (widen b p) l)) (sym e) (grow_old (widen b p) l p (widen_new b p))) (λ k. grow_new (widen b p) l v k) (in_cons m)

pub covered : (l : List Point) (v : Point) → v ∈ l → Covers (box_of l) v
covered [] v m = absurd (in_nil m)
covered (p ∷ l) v m = ⊎_elim (λ e. subst (Covers (box_of (p ∷ l))) (sym e) (grow_old (record { least = p; greatest = p }) l p (covers_self p))) (λ k. grow_new (record { least = p; greatest = p }) l v k) (in_cons m)

-- ---- a line between boxes

past : (a b c : ℤ) → T (lt_z a b) → NonNeg (c -ℤ b) → Pos (c -ℤ a *ℤ pos 1)
past a b c t h = subst Pos (solve (a ∷ b ∷ c ∷ []) (var 2 :- var 1 :+ (var 1 :- var 0)) (var 2 :- var 0 :* con (pos 1)) tt) (nonneg_add_pos h (lt_z_pos a b t))

module _ (C D : List Point) where
  clear_x : T (lt_z (box_of D).greatest.x (box_of C).least.x) → Clear C D
  clear_x t = record { way = east; at = (box_of D).greatest.x; kept = λ v m. (covered D v m).to_x; beyond = λ v m. past (box_of D).greatest.x (box_of C).least.x v.x t (covered C v m).from_x }

  clear_y : T (lt_z (box_of D).greatest.y (box_of C).least.y) → Clear C D
  clear_y t = record { way = north; at = (box_of D).greatest.y; kept = λ v m. (covered D v m).to_y; beyond = λ v m. past (box_of D).greatest.y (box_of C).least.y v.y t (covered C v m).from_y }

pub clear_boxes : (C D : List Point) → T (beside (box_of C) (box_of D)) → Clear C D
unfolding beside
clear_boxes C D t =
    ⊎_elim (λ h. ⊎_elim (λ k. clear_swap (clear_x D C k)) (clear_x C D) (or_cases (lt_z b.greatest.x c.least.x) (lt_z c.greatest.x b.least.x) h))
    (λ h. ⊎_elim (λ k. clear_swap (clear_y D C k)) (clear_y C D) (or_cases (lt_z b.greatest.y c.least.y) (lt_z c.greatest.y b.least.y) h))
    (or_cases (lt_z b.greatest.x c.least.x || lt_z c.greatest.x b.least.x) (lt_z b.greatest.y c.least.y || lt_z c.greatest.y b.least.y) t)
  where
    b : Bounds
    b = box_of C

    c : Bounds
    c = box_of D
