-- Small steps: what holds for all large n is closed under "and" and "for every segment of a list"; n p + d is the point p moved by d/n. Every
-- strict inequality survives a small step, in any direction; a count below survives a step up, down or to the right.
use Prim.Native.Nat.{ℕ, zero, suc, ◌*◌, ◌≤◌, ◌<◌, max}
use native.Mathlib.Omega.{arith}
use mathlib.Core.Path.{◌≡◌, refl, sym, ap, ap₂, ◌∙◌, subst}
use mathlib.Core.Logic.{⊎_elim}
use mathlib.Core.Bool.{Bool, true, false, ◌&&◌}
use mathlib.Core.List.{List, [], ◌∷◌}
use lib.Dec.{T}
use lib.IntN.{ℤ, pos, negsuc, neg_ℤ, ◌+ℤ◌, ◌-ℤ◌, ◌*ℤ◌, +ℤ_idl}
use lib.Signed.{lt_z, le_z}
use Rattle.whole.specs.Count.{◌∈◌, here, there}
use Rattle.whole.proofs.Balance.{P, N, add_balance}
use Rattle.whole.proofs.Solver.{var, opp, ◌:+◌, ◌:-◌, ◌:*◌, solve}
use Rattle.whole.proofs.Sign.{Pos, NonNeg, Neg, NonPos, neg_nonpos, zero_nonpos, nonpos_clash, Sign, minus, nought, plus, sign, pos_nonneg, zero_nonneg, neg_pos, neg_of_pos, nonneg_clash, zero_pos, pos_add_nonneg, nonneg_add_pos, nonneg_mul, nonneg_add, lit_nonneg, mul_zero_left, mul_zero_right, lt_z0_pos, pos_lt_z0, le_z0_nonneg, nonneg_le_z0, lt_z_shift, le_z_shift}
use Rattle.whole.proofs.Logic.{in_nil, in_cons, true_is, refute, and_left, and_right, and_never}
use Rattle.plane.specs.declared.Segment.{Segment}
use Rattle.plane.specs.Plane.{HPoint, side_at, counts_below, counts_below_left}
use Rattle.plane.proofs.Homogeneous.{◌⋆◌, ◌⊞◌, side_atᵉ, triple, Triple, first, second}
use Rattle.plane.proofs.OnSegment.{Away, over, beneath, leftward, rightward, short, past}

-- ---- for all large n

pub record Large (F : ℕ → Type 0) : Type 0 where
  pub from : ℕ
  pub holds : (n : ℕ) → from ≤ n → F n

pub large_all : {F : ℕ → Type 0} → ((n : ℕ) → F n) → Large F
large_all f = record { from = 0; holds = λ n h. f n }

pub large_map : {F G : ℕ → Type 0} → ((n : ℕ) → F n → G n) → Large F → Large G
large_map f a = record { from = a.from; holds = λ n h. f n (a.holds n h) }

pub large_and : {F G : ℕ → Type 0} → Large F → Large G → Large (λ n. F n × G n)
large_and a b =
    record { from = max a.from b.from; holds = λ n h. (a.holds n (omega arith), b.holds n (omega arith)) }

pub large_each : {A : Type 0} {F : A → ℕ → Type 0} (l : List A) → ((a : A) → a ∈ l → Large (F a)) → Large (λ n. (a : A) → a ∈ l → F a n)
large_each [] f = large_all (λ n a m. absurd (in_nil m))
large_each {A} {F} (b ∷ l) f = large_map join (large_and (f b here) (large_each l (λ a m. f a (there m))))
  where
    join : (n : ℕ) → F b n × ((a : A) → a ∈ l → F a n) → (a : A) → a ∈ (b ∷ l) → F a n
    join n h a m = ⊎_elim (λ e. subst (λ c. F c n) (sym e) h.0) (h.1 a) (in_cons m)

pub large_one : {F : ℕ → Type 0} → Large F → (n : ℕ) × F (suc n)
large_one a = (a.from, a.holds (suc a.from) (omega arith))

-- ---- n z + e, for large n, has the sign of z, and that of e where z is zero

pub grows : {z : ℤ} (e : ℤ) → Pos z → Large (λ n. Pos (pos n *ℤ z +ℤ e))
unfolding P N
grows {z = pos zero} e h = zero_pos refl h
grows {z = pos (suc k)} e h = record { from = suc (N e); holds = λ n b. record { above = enough n b } }
  where
    times : (n : ℕ) → n ≤ n * suc k
    times n = omega arith

    enough : (n : ℕ) → suc (N e) ≤ n → N (pos (n * suc k) +ℤ e) < P (pos (n * suc k) +ℤ e)
    enough n b = omega (arith, add_balance (pos (n * suc k)) e, times n)
grows {z = negsuc k} e h = absurd (below h)
  where
    below : Pos (negsuc k) → ⊥
    below h = omega arith

pub shrinks : {z : ℤ} (e : ℤ) → Neg z → Large (λ n. Neg (pos n *ℤ z +ℤ e))
shrinks {z} e h =
    large_map (λ n k. neg_of_pos (pos n *ℤ z +ℤ e) (subst Pos (solve (pos n ∷ z ∷ e ∷ []) (var 0 :* opp (var 1) :+ opp (var 2)) (opp (var 0 :* var 1 :+ var 2)) tt) k))
    (grows (neg_ℤ e) (neg_pos h))

pub stays : {z : ℤ} (n : ℕ) (e : ℤ) → z ≡ pos 0 → pos n *ℤ z +ℤ e ≡ e
stays n e h = ap (λ x. x +ℤ e) (mul_zero_right (pos n) h) ∙ +ℤ_idl e

-- ---- so its tests are those of z, moved by the sign of e

unfoldable pub positive : ℤ → Bool
positive z = lt_z (pos 0) z

unfoldable pub at_least : ℤ → Bool
at_least z = le_z (pos 0) z

module _ {z : ℤ} where
  pub positive_yes : Pos z → positive z ≡ true
  unfolding positive
  positive_yes h = true_is (lt_z (pos 0) z) (pos_lt_z0 z h)

  pub positive_no : NonPos z → positive z ≡ false
  unfolding positive
  positive_no h = refute (lt_z (pos 0) z) (λ t. nonpos_clash h (lt_z0_pos z t))

  pub at_least_yes : NonNeg z → at_least z ≡ true
  unfolding at_least
  at_least_yes h = true_is (le_z (pos 0) z) (nonneg_le_z0 z h)

  pub at_least_no : Neg z → at_least z ≡ false
  unfolding at_least
  at_least_no h = refute (le_z (pos 0) z) (λ t. nonneg_clash (le_z0_nonneg z t) h)

module _ (z e : ℤ) where
  keeps_at_least : NonNeg e → Large (λ n. at_least (pos n *ℤ z +ℤ e) ≡ at_least z)
  keeps_at_least h = go (sign z)
    where
      go : Sign z → Large (λ n. at_least (pos n *ℤ z +ℤ e) ≡ at_least z)
      go (minus m) = large_map (λ n k. at_least_no k ∙ sym (at_least_no m)) (shrinks e m)
      go (nought m) = large_all (λ n. at_least_yes (subst NonNeg (sym (stays n e m)) h) ∙ sym (at_least_yes (zero_nonneg m)))
      go (plus m) = large_all (λ n. at_least_yes (nonneg_add (nonneg_mul (lit_nonneg n) (pos_nonneg m)) h) ∙ sym (at_least_yes (pos_nonneg m)))

  keeps_positive : NonPos e → Large (λ n. positive (pos n *ℤ z +ℤ e) ≡ positive z)
  keeps_positive h = go (sign z)
    where
      go : Sign z → Large (λ n. positive (pos n *ℤ z +ℤ e) ≡ positive z)
      go (minus m) = large_map (λ n k. positive_no (neg_nonpos k) ∙ sym (positive_no (neg_nonpos m))) (shrinks e m)
      go (nought m) = large_all (λ n. positive_no (subst NonPos (sym (stays n e m)) h) ∙ sym (positive_no (zero_nonpos m)))
      go (plus m) = large_map (λ n k. positive_yes k ∙ sym (positive_yes m)) (grows e m)

  at_least_to_positive : Neg e → Large (λ n. at_least (pos n *ℤ z +ℤ e) ≡ positive z)
  at_least_to_positive h = go (sign z)
    where
      go : Sign z → Large (λ n. at_least (pos n *ℤ z +ℤ e) ≡ positive z)
      go (minus m) = large_map (λ n k. at_least_no k ∙ sym (positive_no (neg_nonpos m))) (shrinks e m)
      go (nought m) = large_all (λ n. at_least_no (subst Neg (sym (stays n e m)) h) ∙ sym (positive_no (zero_nonpos m)))
      go (plus m) = large_map (λ n k. at_least_yes (pos_nonneg k) ∙ sym (positive_yes m)) (grows e m)

  positive_to_at_least : Pos e → Large (λ n. positive (pos n *ℤ z +ℤ e) ≡ at_least z)
  positive_to_at_least h = go (sign z)
    where
      go : Sign z → Large (λ n. positive (pos n *ℤ z +ℤ e) ≡ at_least z)
      go (minus m) = large_map (λ n k. positive_no (neg_nonpos k) ∙ sym (at_least_no m)) (shrinks e m)
      go (nought m) = large_all (λ n. positive_yes (subst Pos (sym (stays n e m)) h) ∙ sym (at_least_yes (zero_nonneg m)))
      go (plus m) = large_map (λ n k. positive_yes k ∙ sym (at_least_yes (pos_nonneg m))) (grows e m)

-- ---- a point moved by d/n

abbrev pub step : HPoint → HPoint → ℕ → HPoint
step d p n = pos n ⋆ p ⊞ d

-- what a segment sees of it: each is linear
module _ (s : Segment) (d p : HPoint) (n : ℕ) where
  moved : List ℤ
  moved = s.left.x ∷ s.left.y ∷ s.right.x ∷ s.right.y ∷ p.X ∷ p.Y ∷ p.W ∷ d.X ∷ d.Y ∷ d.W ∷ pos n ∷ []

  abbrev stepᵉ : Triple
  stepᵉ = triple (var 10 :* var 4 :+ var 7) (var 10 :* var 5 :+ var 8) (var 10 :* var 6 :+ var 9)

  pub side_moved : side_at s (step d p n) ≡ pos n *ℤ side_at s p +ℤ side_at s d
  unfolding side_at moved
  side_moved = solve moved (side_atᵉ stepᵉ) (var 10 :* side_atᵉ first :+ side_atᵉ second) tt

  pub past_left_moved : (step d p n).X -ℤ s.left.x *ℤ (step d p n).W ≡ pos n *ℤ (p.X -ℤ s.left.x *ℤ p.W) +ℤ (d.X -ℤ s.left.x *ℤ d.W)
  unfolding moved
  past_left_moved = solve moved (var 10 :* var 4 :+ var 7 :- var 0 :* (var 10 :* var 6 :+ var 9)) (var 10 :* (var 4 :- var 0 :* var 6) :+ (var 7 :- var 0 :* var 9)) tt

  pub to_right_moved : s.right.x *ℤ (step d p n).W -ℤ (step d p n).X ≡ pos n *ℤ (s.right.x *ℤ p.W -ℤ p.X) +ℤ (s.right.x *ℤ d.W -ℤ d.X)
  unfolding moved
  to_right_moved = solve moved (var 2 :* (var 10 :* var 6 :+ var 9) :- (var 10 :* var 4 :+ var 7)) (var 10 :* (var 2 :* var 6 :- var 4) :+ (var 2 :* var 9 :- var 7)) tt

  pub over_left_moved : (step d p n).Y -ℤ s.left.y *ℤ (step d p n).W ≡ pos n *ℤ (p.Y -ℤ s.left.y *ℤ p.W) +ℤ (d.Y -ℤ s.left.y *ℤ d.W)
  unfolding moved
  over_left_moved = solve moved (var 10 :* var 5 :+ var 8 :- var 1 :* (var 10 :* var 6 :+ var 9)) (var 10 :* (var 5 :- var 1 :* var 6) :+ (var 8 :- var 1 :* var 9)) tt

  pub under_right_moved : s.right.y *ℤ (step d p n).W -ℤ (step d p n).Y ≡ pos n *ℤ (s.right.y *ℤ p.W -ℤ p.Y) +ℤ (s.right.y *ℤ d.W -ℤ d.Y)
  unfolding moved
  under_right_moved = solve moved (var 3 :* (var 10 :* var 6 :+ var 9) :- (var 10 :* var 5 :+ var 8)) (var 10 :* (var 3 :* var 6 :- var 5) :+ (var 3 :* var 9 :- var 8)) tt

-- away stays away, in any direction
pub away_moved : (s : Segment) (d p : HPoint) → Away s p → Large (λ n. Away s (step d p n))
away_moved s d p (over h) = large_map (λ n k. over (subst Pos (sym (side_moved s d p n)) k)) (grows (side_at s d) h)
away_moved s d p (beneath h) = large_map (λ n k. beneath (subst Neg (sym (side_moved s d p n)) k)) (shrinks (side_at s d) h)
away_moved s d p (leftward h) = large_map (λ n k. leftward (subst Neg (sym (past_left_moved s d p n)) k)) (shrinks (d.X -ℤ s.left.x *ℤ d.W) h)
away_moved s d p (rightward h) = large_map (λ n k. rightward (subst Neg (sym (to_right_moved s d p n)) k)) (shrinks (s.right.x *ℤ d.W -ℤ d.X) h)
away_moved s d p (short e h) = large_map (λ n k. short e (subst Neg (sym (over_left_moved s d p n)) k)) (shrinks (d.Y -ℤ s.left.y *ℤ d.W) h)
away_moved s d p (past e h) = large_map (λ n k. past e (subst Neg (sym (under_right_moved s d p n)) k)) (shrinks (s.right.y *ℤ d.W -ℤ d.Y) h)

-- ---- a count below, moved

-- p's x is within the segment's, which is not upright
pub record InRange (s : Segment) (p : HPoint) : Type 0 where
  pub from_left : NonNeg (p.X -ℤ s.left.x *ℤ p.W)
  pub to_right : NonNeg (s.right.x *ℤ p.W -ℤ p.X)
  pub wide : Pos (p.X -ℤ s.left.x *ℤ p.W +ℤ (s.right.x *ℤ p.W -ℤ p.X))

-- an upright segment has no width
no_width : (s : Segment) (p : HPoint) → s.right.x -ℤ s.left.x ≡ pos 0 → p.X -ℤ s.left.x *ℤ p.W +ℤ (s.right.x *ℤ p.W -ℤ p.X) ≡ pos 0
no_width s p e =
    solve (s.left.x ∷ s.right.x ∷ p.X ∷ p.W ∷ []) (var 2 :- var 0 :* var 3 :+ (var 1 :* var 3 :- var 2)) ((var 1 :- var 0) :* var 3) tt
    ∙ mul_zero_left p.W e

-- there a point away from s is over it or beneath it, and stays so
side_stable : (s : Segment) (d p : HPoint) → Away s p → (r : Bool) → (T r → InRange s p)
    → Large (λ n. T r → positive (side_at s (step d p n)) ≡ positive (side_at s p))
side_stable s d p away r f = go away
  where
    go : Away s p → Large (λ n. T r → positive (side_at s (step d p n)) ≡ positive (side_at s p))
    go (over h) = large_map (λ n k t. positive_yes (subst Pos (sym (side_moved s d p n)) k) ∙ sym (positive_yes h)) (grows (side_at s d) h)
    go (beneath h) = large_map (λ n k t. positive_no (neg_nonpos (subst Neg (sym (side_moved s d p n)) k)) ∙ sym (positive_no (neg_nonpos h))) (shrinks (side_at s d) h)
    go (leftward h) = large_all (λ n t. nonneg_clash (f t).from_left h)
    go (rightward h) = large_all (λ n t. nonneg_clash (f t).to_right h)
    go (short e h) = large_all (λ n t. zero_pos (no_width s p e) (f t).wide)
    go (past e h) = large_all (λ n t. zero_pos (no_width s p e) (f t).wide)

pub positive_is : (z : ℤ) → T (positive z) → Pos z
unfolding positive
positive_is z t = lt_z0_pos z t

pub at_least_is : (z : ℤ) → T (at_least z) → NonNeg z
unfolding at_least
at_least_is z t = le_z0_nonneg z t

-- the counts, as tests of signs: one of the two ends of the range is strict
unfoldable pub in_count : Segment → HPoint → Bool
in_count s p = at_least (p.X -ℤ s.left.x *ℤ p.W) && positive (s.right.x *ℤ p.W -ℤ p.X)

unfoldable pub in_left_count : Segment → HPoint → Bool
in_left_count s p = positive (p.X -ℤ s.left.x *ℤ p.W) && at_least (s.right.x *ℤ p.W -ℤ p.X)

pub count_tests : (s : Segment) (p : HPoint) → counts_below p s ≡ in_count s p && positive (side_at s p)
unfolding counts_below in_count positive at_least
count_tests s p =
    ap₂ (λ a b. a && b && lt_z (pos 0) (side_at s p)) (le_z_shift (s.left.x *ℤ p.W) p.X) (lt_z_shift p.X (s.right.x *ℤ p.W))

pub left_count_tests : (s : Segment) (p : HPoint) → counts_below_left p s ≡ in_left_count s p && positive (side_at s p)
unfolding counts_below_left in_left_count positive at_least
left_count_tests s p =
    ap₂ (λ a b. a && b && lt_z (pos 0) (side_at s p)) (lt_z_shift (s.left.x *ℤ p.W) p.X) (le_z_shift p.X (s.right.x *ℤ p.W))

pub count_range : (s : Segment) (p : HPoint) → T (in_count s p) → InRange s p
unfolding in_count
count_range s p t =
    let a = at_least_is (p.X -ℤ s.left.x *ℤ p.W) (and_left (at_least (p.X -ℤ s.left.x *ℤ p.W)) (positive (s.right.x *ℤ p.W -ℤ p.X)) t) in
    let b = positive_is (s.right.x *ℤ p.W -ℤ p.X) (and_right (at_least (p.X -ℤ s.left.x *ℤ p.W)) (positive (s.right.x *ℤ p.W -ℤ p.X)) t) in
    record { from_left = a; to_right = pos_nonneg b; wide = nonneg_add_pos a b }

pub left_count_range : (s : Segment) (p : HPoint) → T (in_left_count s p) → InRange s p
unfolding in_left_count
left_count_range s p t =
    let a = positive_is (p.X -ℤ s.left.x *ℤ p.W) (and_left (positive (p.X -ℤ s.left.x *ℤ p.W)) (at_least (s.right.x *ℤ p.W -ℤ p.X)) t) in
    let b = at_least_is (s.right.x *ℤ p.W -ℤ p.X) (and_right (positive (p.X -ℤ s.left.x *ℤ p.W)) (at_least (s.right.x *ℤ p.W -ℤ p.X)) t) in
    record { from_left = pos_nonneg a; to_right = b; wide = pos_add_nonneg a b }

-- an upright segment never counts
module _ (s : Segment) (p : HPoint) (e : s.right.x -ℤ s.left.x ≡ pos 0) where
  pub upright_never : counts_below p s ≡ false
  upright_never = count_tests s p ∙ and_never (in_count s p) (positive (side_at s p)) (λ t u. zero_pos (no_width s p e) (count_range s p t).wide)

  pub upright_never_left : counts_below_left p s ≡ false
  upright_never_left =
      left_count_tests s p ∙ and_never (in_left_count s p) (positive (side_at s p)) (λ t u. zero_pos (no_width s p e) (left_count_range s p t).wide)

module _ (s : Segment) (d p : HPoint) (away : Away s p) where
  -- a count of the moved point is a count of p, if its range is
  counted : (at : ℕ → Bool) (was : Bool) → (T was → InRange s p) → Large (λ n. at n ≡ was)
      → Large (λ n. at n && positive (side_at s (step d p n)) ≡ was && positive (side_at s p))
  counted at was f range = large_map (λ n h. both (at n) was _ _ h.0 h.1) (large_and range (side_stable s d p away was f))
    where
      both : (q r a b : Bool) → q ≡ r → (T r → a ≡ b) → q && a ≡ r && b
      both q true a b e f = ap (λ x. x && a) e ∙ f tt
      both q false a b e f = ap (λ x. x && a) e

  -- a step up, down or to the right
  pub count_moved : NonNeg (d.X -ℤ s.left.x *ℤ d.W) → NonPos (s.right.x *ℤ d.W -ℤ d.X) → Large (λ n. counts_below (step d p n) s ≡ counts_below p s)
  unfolding in_count
  count_moved l r =
      large_map (λ n h. count_tests s (step d p n) ∙ h ∙ sym (count_tests s p))
      (counted (λ n. in_count s (step d p n)) (in_count s p) (count_range s p)
      (large_map (λ n h. ap₂ (λ a b. at_least a && positive b) (past_left_moved s d p n) (to_right_moved s d p n) ∙ ap₂ (λ a b. a && b) h.0 h.1)
      (large_and (keeps_at_least (p.X -ℤ s.left.x *ℤ p.W) (d.X -ℤ s.left.x *ℤ d.W) l) (keeps_positive (s.right.x *ℤ p.W -ℤ p.X) (s.right.x *ℤ d.W -ℤ d.X) r))))

  -- a step to the left
  pub count_moved_left : Neg (d.X -ℤ s.left.x *ℤ d.W) → Pos (s.right.x *ℤ d.W -ℤ d.X) → Large (λ n. counts_below (step d p n) s ≡ counts_below_left p s)
  unfolding in_count in_left_count
  count_moved_left l r =
      large_map (λ n h. count_tests s (step d p n) ∙ h ∙ sym (left_count_tests s p))
      (counted (λ n. in_count s (step d p n)) (in_left_count s p) (left_count_range s p)
      (large_map (λ n h. ap₂ (λ a b. at_least a && positive b) (past_left_moved s d p n) (to_right_moved s d p n) ∙ ap₂ (λ a b. a && b) h.0 h.1)
      (large_and (at_least_to_positive (p.X -ℤ s.left.x *ℤ p.W) (d.X -ℤ s.left.x *ℤ d.W) l) (positive_to_at_least (s.right.x *ℤ p.W -ℤ p.X) (s.right.x *ℤ d.W -ℤ d.X) r))))
