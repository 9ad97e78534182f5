-- The key of a point: in the order of points, one for each point in range, and below the top; and the point that has a key.
use Prim.Native.Nat.{ℕ, suc, ◌+◌, ◌*◌, ◌/◌, ◌%◌, ◌<◌, ◌≤◌}
use native.Mathlib.Nat.{eq-or-lt_of_le}
use native.Mathlib.Omega.{arith}
use Rattle.std.proofs.lemmas.Int.{ints}
use mathlib.Core.Path.{◌≡◌, refl, sym, ap, subst, ◌∙◌}
use mathlib.Core.Logic.{◌⊎◌, inl, inr}
use mathlib.Core.Bool.{Bool, true, false, ◌&&◌, ◌||◌}
use lib.Dec.{T, ltb, eqb, lt→ltb, lit≤}
use lib.IntN.{ℤ, pos, negsuc, nat_abs, ◌+ℤ◌}
use lib.Signed.{lt_z}
use borrow.Author.Tests.{ltb-true, ltb-false, lt-ltb, le-ltb, le-leb, lt-leb, eq-eqb, eqb-true}
use Rattle.whole.specs.Count.{eq_z}
use Rattle.whole.proofs.Logic.{less_or_not, is_true, true_is, or_left, or_right, and_make, same_test}
use Rattle.plane.specs.declared.Point.{Point}
use Rattle.plane.specs.Plane.{limit, in_range, before, is_same_point}
use Rattle.plane.proofs.Equal.{point_eq, same_point_read, same_point_refl}
use Rattle.plane.proofs.Order.{before_irreflexive, before_trans}
use Rattle.plane.proofs.Machine.{eq_z_yes, within_x, within_y, is_within}
use Rattle.scene_keys.specs.Keyed.{raised, room, key, lowered, IsKey, keyed_point, top, next}

-- ---- a coordinate in range

pub raised_is : (z : ℤ) → nat_abs z ≤ limit → z +ℤ pos limit ≡ pos (raised z)
raised_is (pos n) h = ap pos (omega arith)
raised_is (negsuc n) h = rw (le-ltb limit (suc n) h)

pub raised_most : (z : ℤ) → nat_abs z ≤ limit → raised z ≤ 2 * limit
raised_most (pos n) h = omega arith
raised_most (negsuc n) h = omega arith

-- and back
pub lowered_is : (z : ℤ) → nat_abs z ≤ limit → lowered (raised z) ≡ z
lowered_is z h = omega (arith, ints, raised_is z h)

lowered_good : (n : ℕ) → n ≤ 2 * limit → (nat_abs (lowered n) ≤ limit) × (raised (lowered n) ≡ n)
lowered_good n h = go (less_or_not n limit)
  where
    go : (n < limit) ⊎ (limit ≤ n) → (nat_abs (lowered n) ≤ limit) × (raised (lowered n) ≡ n)
    go (inl l) = rw (le-leb (suc n) limit l) (omega arith, omega arith)
    go (inr g) = rw (lt-leb (suc n) limit (omega arith)) (omega arith, omega arith)

raised_once : (a b : ℤ) → nat_abs a ≤ limit → nat_abs b ≤ limit → raised a ≡ raised b → a ≡ b
raised_once (pos a) (pos b) h k e = ap pos (omega arith)
raised_once (pos a) (negsuc b) h k e = absurd (omega arith)
raised_once (negsuc a) (pos b) h k e = absurd (omega arith)
raised_once (negsuc a) (negsuc b) h k e = ap negsuc (omega arith)

raised_less : (a b : ℤ) → nat_abs a ≤ limit → nat_abs b ≤ limit → raised a < raised b → T (lt_z a b)
raised_less (pos a) (pos b) h k l = lt→ltb a b (omega arith)
raised_less (pos a) (negsuc b) h k l = absurd (omega arith)
raised_less (negsuc a) (pos b) h k l = tt
raised_less (negsuc a) (negsuc b) h k l = lt→ltb b a (omega arith)

-- ---- two digits: the one place that asks whether the radix is large enough for the limit

room_enough : 2 * limit < room
room_enough = lit≤ tt

pub raised_digit : (z : ℤ) → nat_abs z ≤ limit → raised z < room
raised_digit z h = omega (arith, raised_most z h, room_enough)

digits_first : (x y u v : ℕ) → y < room → v < room → room * x + y ≡ room * u + v → x ≡ u
digits_first x y u v h k e = omega arith

digits_second : (x y u v : ℕ) → y < room → v < room → room * x + y ≡ room * u + v → y ≡ v
digits_second x y u v h k e = omega arith

-- the digits come back by division
digits_back : (x y : ℕ) → y < room → ((room * x + y) / room ≡ x) × ((room * x + y) % room ≡ y)
digits_back x y h = (omega arith, omega arith)

-- ---- points in range

module _ (p : Point) (h : T (in_range p)) where
  pub key_below : key p < top
  unfolding key
  key_below = omega (arith, raised_digit p.x (within_x limit p h), raised_digit p.y (within_y limit p h))

  -- the digits of a key are the raised coordinates
  pub key_digits : (key p / room ≡ raised p.x) × (key p % room ≡ raised p.y)
  unfolding key
  key_digits = digits_back (raised p.x) (raised p.y) (raised_digit p.y (within_y limit p h))

  pub key_good : IsKey (key p)
  key_good = (omega (arith, key_digits.0, raised_most p.x (within_x limit p h)), omega (arith, key_digits.1, raised_most p.y (within_y limit p h)))

  -- the point that has the key of a point is that point
  pub key_back : keyed_point (key p) ≡ p
  unfolding keyed_point
  key_back =
      point_eq (ap lowered key_digits.0 ∙ lowered_is p.x (within_x limit p h)) (ap lowered key_digits.1 ∙ lowered_is p.y (within_y limit p h))

module _ (k : ℕ) (h : IsKey k) where
  pub keyed_in_range : T (in_range (keyed_point k))
  unfolding keyed_point
  keyed_in_range = is_within limit (keyed_point k) (lowered_good (k / room) h.0).0 (lowered_good (k % room) h.1).0

  pub keyed_key : key (keyed_point k) ≡ k
  unfolding key keyed_point
  keyed_key = rw ((lowered_good (k / room) h.0).1, (lowered_good (k % room) h.1).1) (omega arith)

module _ (p q : Point) (h : T (in_range p)) (k : T (in_range q)) where
  pub key_once : key p ≡ key q → p ≡ q
  unfolding key
  key_once e =
      point_eq (raised_once p.x q.x (within_x limit p h) (within_x limit q k) (digits_first (raised p.x) (raised p.y) (raised q.x) (raised q.y) y v e))
      (raised_once p.y q.y (within_y limit p h) (within_y limit q k) (digits_second (raised p.x) (raised p.y) (raised q.x) (raised q.y) y v e))
    where
      y : raised p.y < room
      y = raised_digit p.y (within_y limit p h)

      v : raised q.y < room
      v = raised_digit q.y (within_y limit q k)

  pub same_key : is_same_point p q ≡ eqb (key p) (key q)
  same_key =
      same_test (is_same_point p q) (eqb (key p) (key q)) (λ t. is_true (eqb (key p) (key q)) (eq-eqb (key p) (key q) (ap key (same_point_read p q t))))
      (λ t. is_true (is_same_point p q) (rw (key_once (eqb-true (key p) (key q) (true_is (eqb (key p) (key q)) t))) (true_is (is_same_point q q) (same_point_refl q))))

  pub key_less : key p < key q → T (before p q)
  unfolding key before
  key_less l = go (ltb (raised p.x) (raised q.x)) refl
    where
      y : raised p.y < room
      y = raised_digit p.y (within_y limit p h)

      v : raised q.y < room
      v = raised_digit q.y (within_y limit q k)

      level : (x y u v : ℕ) → y < room → v < room → room * x + y < room * u + v → u ≤ x → (x ≡ u) × (y < v)
      level x y u v h k l g = (omega arith, omega arith)

      go : (b : Bool) → ltb (raised p.x) (raised q.x) ≡ b → T (lt_z p.x q.x || (eq_z p.x q.x && lt_z p.y q.y))
      go true e = or_left (lt_z p.x q.x) _ (raised_less p.x q.x (within_x limit p h) (within_x limit q k) (ltb-true (raised p.x) (raised q.x) e))
      go false e =
          let w = level (raised p.x) (raised p.y) (raised q.x) (raised q.y) y v l (ltb-false (raised p.x) (raised q.x) e) in
          or_right (lt_z p.x q.x) (eq_z p.x q.x && lt_z p.y q.y)
          (and_make (eq_z p.x q.x) (lt_z p.y q.y) (is_true (eq_z p.x q.x) (eq_z_yes p.x q.x (raised_once p.x q.x (within_x limit p h) (within_x limit q k) w.0)))
          (raised_less p.y q.y (within_y limit p h) (within_y limit q k) w.1))

module _ (p q : Point) (h : T (in_range p)) (k : T (in_range q)) where
  pub less_key : T (before p q) → key p < key q
  less_key b = go (less_or_not (key p) (key q))
    where
      never : (key q ≡ key p) ⊎ (key q < key p) → ⊥
      never (inl e) = before_irreflexive p (subst (λ (r : Point). T (before p r)) (sym (key_once p q h k (sym e))) b)
      never (inr l) = before_irreflexive p (before_trans p q p b (key_less q p k h l))

      go : (key p < key q) ⊎ (key q ≤ key p) → key p < key q
      go (inl l) = l
      go (inr g) = absurd (never (eq-or-lt_of_le g))

-- ---- the key of the next element, or the top

module _ (n : ℕ) (u : ℕ → ℕ) where
  pub next_in : (i : ℕ) → i < n → next n u i ≡ u i
  next_in i h = rw (lt-ltb i n h)

  pub next_end : (i : ℕ) → n ≤ i → next n u i ≡ top
  next_end i h = rw (le-ltb i n h)

  pub next_low : (i : ℕ) → next n u i < top → i < n
  next_low i h = go (ltb i n) refl
    where
      go : (b : Bool) → ltb i n ≡ b → i < n
      go true e = ltb-true i n e
      go false e = absurd (omega (arith, next_end i (ltb-false i n e)))
