-- The order of the events in full: no event to come comes before one that has been taken, nor before the one that is next.
use Rattle.std.specs.Prelude.{None}
use Prim.Native.Nat.{ℕ, ◌<◌, ◌≤◌}
use native.Mathlib.Nat.{eq-or-lt_of_le, not-suc-le-zero}
use native.Mathlib.Omega.{arith}
use mathlib.Core.Path.{◌≡◌, refl, sym, ap, subst}
use mathlib.Core.Logic.{⊎_elim}
use mathlib.Core.Bool.{Bool, true, false, not, ◌&&◌, ◌||◌, true≢false}
use mathlib.Core.List.{List}
use lib.Dec.{T, T_not, ltb}
use borrow.Author.Tests.{ltb-false, lt-ltb}
use Rattle.whole.proofs.Sign.{Pos, pos_lt_z0}
use Rattle.whole.proofs.Logic.{or_right, and_make, and_right, or_cases, is_true}
use Rattle.plane.specs.declared.Point.{Point}
use Rattle.plane.specs.declared.Segment.{Segment}
use Rattle.plane.specs.declared.Halfsegment.{Halfsegment}
use Rattle.plane.specs.Plane.{before, is_same_point, side, dominating, far_end, comes_before}
use Rattle.plane.proofs.Equal.{same_point_refl}
use Rattle.plane.proofs.Order.{comes_irreflexive, comes_trans, half_of}
use Rattle.scene.specs.declared.Scene.{Scene}
use Rattle.scene.specs.Read.{IsScene}
use Rattle.scene.specs.Conditions.{half, out_of_order}
use Rattle.scene_segments.proofs.Indices.{halves_rise}
use Rattle.sweep_laws.specs.Swept.{object_of, is_beginning, total, takes_first}
use Rattle.sweep_laws.proofs.Objects.{has, read}
use Rattle.sweep_laws.proofs.Begun.{reached, Next}
use Rattle.sweep_laws.proofs.Run.{Orderly}

-- ---- at one point

same : {p q : Point} → p ≡ q → T (is_same_point p q)
same {p} e = subst (λ r. T (is_same_point p r)) e (same_point_refl p)

module _ (s t : Segment) where
  pub right_left : s.right ≡ t.left → T (comes_before (half_of false s) (half_of true t))
  unfolding comes_before dominating
  right_left e = or_right (before s.right t.left) _ (and_make (is_same_point s.right t.left) true (same e) tt)

  pub left_left : s.left ≡ t.left → Pos (side s.left s.right t.right) → T (comes_before (half_of true s) (half_of true t))
  unfolding comes_before dominating far_end
  left_left e h = or_right (before s.left t.left) _ (and_make (is_same_point s.left t.left) _ (same e) (pos_lt_z0 (side s.left s.right t.right) h))

  pub right_right : s.right ≡ t.right → Pos (side s.right s.left t.left) → T (comes_before (half_of false s) (half_of false t))
  unfolding comes_before dominating far_end
  right_right e h = or_right (before s.right t.right) _ (and_make (is_same_point s.right t.right) _ (same e) (pos_lt_z0 (side s.right s.left t.left) h))

module _ (s : List ℕ) (sc : Scene) where
  abbrev pub half_by : Bool → ℕ → Halfsegment
  half_by first k = half s (object_of s sc first) k

  pub as_half : (first : Bool) (k : ℕ) (b : Bool) → is_beginning s sc first k ≡ b → half_by first k ≡ half_of b (half_by first k).segment
  as_half first k b e = ap (λ (b : Bool). half_of b (half_by first k).segment) e

  abbrev pub Rises : Type 0
  Rises = (first : Bool) (k m : ℕ) → k < m → m < total s sc first → T (comes_before (half_by first k) (half_by first m))

  pub rises : IsScene s sc → ((first : Bool) → out_of_order s (object_of s sc first) ≡ None) → Rises
  rises is order first k m h l = halves_rise s (object_of s sc first) (read s sc is first) (order first) (has s sc first m l).0 k m h (has s sc first m l).1

  -- of the events to come, none comes before one that has been taken
  abbrev pub After : ℕ → ℕ → Type 0
  After i j = (first other : Bool) (k m : ℕ) → k < reached s sc i j first → reached s sc i j other ≤ m → m < total s sc other → T (comes_before (half_by other m) (half_by first k)) → ⊥

  -- nor before the next
  abbrev pub Earliest : ℕ → ℕ → Bool → Type 0
  Earliest i j first = (other : Bool) (m : ℕ) → reached s sc i j other ≤ m → m < total s sc other → T (comes_before (half_by other m) (half_by first (reached s sc i j first))) → ⊥

  pub after_start : After 0 0
  after_start first other k m h = absurd (none first h)
    where
      none : (b : Bool) → k < reached s sc 0 0 b → ⊥
      none true h = not-suc-le-zero h
      none false h = not-suc-le-zero h

  pub after_next : {i j i' j' : ℕ} {first : Bool} → After i j → Earliest i j first → Next s sc first i j i' j' → After i' j'
  after_next {i} {j} {first = first} after earliest next b other k m h l w t =
      ⊎_elim (λ g. after b other k m g low w t)
      (λ q. earliest other m low w (subst (λ (n : ℕ). T (comes_before (half_by other m) (half_by first n))) q.1 (subst (λ (c : Bool). T (comes_before (half_by other m) (half_by c k))) q.0 t))) (next.by_one b k h)
    where
      low : reached s sc i j other ≤ m
      low = omega (arith, next.grows other, l)

  module _ (o : Orderly s sc) (rise : Rises) where
    -- of one object
    pub not_earlier : (first : Bool) (k m : ℕ) → k ≤ m → m < total s sc first → T (comes_before (half_by first m) (half_by first k)) → ⊥
    not_earlier first k m h l t =
        ⊎_elim (λ e. comes_irreflexive (half_by first m) (subst (λ (n : ℕ). T (comes_before (half_by first m) (half_by first n))) e t))
        (λ g. comes_irreflexive (half_by first m) (comes_trans (half_by first m) (half_by first k) (half_by first m) (o.sound first m l) (o.sound first k (omega arith)) (o.sound first m l) t (rise first k m g l))) (eq-or-lt_of_le h)

    abbrev comes : ℕ → ℕ → Bool
    comes i j = comes_before (half_by false j) (half_by true i)

    -- G's first one to come does not come before a later one
    from_first : (i j m : ℕ) → i < total s sc true → j ≤ m → m < total s sc false → T (comes_before (half_by false m) (half_by true i)) → T (comes i j)
    from_first i j m g h l t =
        ⊎_elim (λ e. subst (λ (n : ℕ). T (comes_before (half_by false n) (half_by true i))) (sym e) t)
        (λ k. comes_trans (half_by false j) (half_by false m) (half_by true i) (o.sound false j (omega arith)) (o.sound false m l) (o.sound true i g) (rise false j m k l) t) (eq-or-lt_of_le h)

    pub earliest : (i j : ℕ) → (first : Bool) → reached s sc i j first < total s sc first → takes_first s sc i j ≡ first → Earliest i j first
    earliest i j true g e true m h l t = not_earlier true i m h l t
    earliest i j true g e false m h l t =
        ⊎_elim (λ n. T_not (ltb j (total s sc false)) n (is_true (ltb j (total s sc false)) (lt-ltb j (total s sc false) (omega arith)))) (λ n. T_not (comes i j) n (from_first i j m g h l t))
        (or_cases (not (ltb j (total s sc false))) (not (comes i j)) (and_right (ltb i (total s sc true)) (not (ltb j (total s sc false)) || not (comes i j)) (is_true _ e)))
    earliest i j false g e false m h l t = not_earlier false j m h l t
    earliest i j false g e true m h l t = go (ltb i (total s sc true)) (ltb j (total s sc false)) (comes i j) refl refl refl e
      where
        go : (a b c : Bool) → ltb i (total s sc true) ≡ a → ltb j (total s sc false) ≡ b → comes i j ≡ c → a && (not b || not c) ≡ false → ⊥
        go true true true p q r x =
            not_earlier true i m h l
            (comes_trans (half_by true m) (half_by false j) (half_by true i) (o.sound true m l) (o.sound false j g) (o.sound true i (omega arith)) t (is_true (comes i j) r))
        go true true false p q r x = true≢false x
        go true false c p q r x = true≢false x
        go false b c p q r x = past (ltb-false i (total s sc true) p) h l
          where
            past : total s sc true ≤ i → i ≤ m → m < total s sc true → ⊥
            past x y z = omega arith
