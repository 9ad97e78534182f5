-- Condition 13 by pairs of halfsegments: what is left of a parity from the element i on; that in a region where the
-- conditions 10 to 14 find no fault each point is the dominating point of an even number of halfsegments; and that then, in order, two by two they
-- share it.
use Rattle.std.specs.Prelude.{None}
use Prim.Native.Nat.{ℕ, suc, ◌+◌, ◌-◌, ◌<◌, ◌≤◌, zero, ◌%◌}
use native.Mathlib.Omega.{arith}
use native.Mathlib.Nat.{eq-or-lt_of_le}
use mathlib.Core.Path.{◌≡◌, sym, ap, ap₂, ◌∙◌, refl, subst, subst₂}
use mathlib.Core.Bool.{Bool, false, true, not, ◌&&◌, cond, true≢false}
use mathlib.Core.List.{List, ◌∷◌, [], map}
use mathlib.Core.Logic.{⊎_elim}
use lib.Dec.{T, not_T}
use borrow.Author.Tests.{eqb-false}
use Rattle.whole.proofs.Parity.{◌⊻◌, xor_same, xor_assoc, parity, parity_nil, parity_cons, xor_none, xor_false, parity_same, parity_xor, parity_none, odd_count, even_all, sorted_once}
use Rattle.whole.specs.Count.{◌∈◌, odd, count}
use Rattle.whole.proofs.Logic.{refute, true_is, in_map, map_in, Sorted, sorted_map}
use Rattle.plane.specs.declared.Point.{Point}
use Rattle.plane.specs.Plane.{is_same_point, dominating, before, is_same_segment, choose, comes_before}
use Rattle.plane.proofs.Equal.{same_point_read, same_segment_read, same_segment_refl, same_point_refl}
use Rattle.plane.specs.declared.Segment.{Segment}
use Rattle.plane.specs.declared.Halfsegment.{Halfsegment}
use Rattle.plane.proofs.Order.{before_irreflexive, comes_irreflexive, half_of}
use Rattle.scene.specs.declared.Layout.{Layout}
use Rattle.scene.specs.Read.{place, halfsegment_at, IsObject}
use Rattle.scene.specs.Conditions.{indices, has_segments, elements, keep, is_region, half, left_test, segments, out_of_order}
use Rattle.scene_segments.proofs.Indices.{element_in, in_element, keep_in, in_keep, kept_rise, indices_in, halves_rise}
use Rattle.scene_segments.proofs.Elements.{region_segments}
use Rattle.sweep_laws.specs.Evenly.{dominated_by, EndsEvenly}
use Rattle.sweep_laws.proofs.Under.{NotBefore, not_before_both}
use Rattle.sweep_laws.proofs.Ordered.{not_after}
use Rattle.sweep_laws.proofs.SoundObject.{SoundObject, regular, segment_in, half_of_lem}

-- ---- a parity from the number i on

module _ (f : ℕ → Bool) where
  abbrev pub parity_from : ℕ → ℕ → Bool
  parity_from i n = parity f (indices (n - i) i)

  pub parity_all : (n : ℕ) → parity f (indices n 0) ≡ parity_from 0 n
  parity_all n = ap (λ (m : ℕ). parity f (indices m 0)) all
    where
      all : n ≡ n - 0
      all = omega arith

  pub parity_end : (i n : ℕ) → n ≤ i → parity_from i n ≡ false
  parity_end i n h = ap (λ (m : ℕ). parity f (indices m i)) none ∙ parity_nil f
    where
      none : n - i ≡ 0
      none = omega arith

  -- a pair that adds up to none
  pub parity_pair : (i n : ℕ) → i + 1 < n → f i ⊻ f (i + 1) ≡ false → parity_from i n ≡ parity_from (i + 2) n
  parity_pair i n h e =
      ap (λ (m : ℕ). parity f (indices m i)) left
      ∙ parity_cons f i (suc i ∷ later)
      ∙ ap (λ (b : Bool). f i ⊻ b) (parity_cons f (suc i) later)
      ∙ sym (xor_assoc (f i) (f (suc i)) (parity f later))
      ∙ ap (λ (b : Bool). b ⊻ parity f later) (ap (λ (m : ℕ). f i ⊻ f m) one ∙ e)
      ∙ ap (λ (m : ℕ). parity f (indices (n - (i + 2)) m)) two
    where
      left : n - i ≡ suc (suc (n - (i + 2)))
      left = omega arith

      one : suc i ≡ i + 1
      one = omega arith

      two : suc (suc i) ≡ i + 2
      two = omega arith

      later : List ℕ
      later = indices (n - (i + 2)) (suc (suc i))

-- two records that share their dominating point
pub shared : (s : List ℕ) (l : Layout) (i : ℕ) {at next : ℕ} → at ≡ place l i → next ≡ place l (i + 1)
    → T (is_same_point (dominating (halfsegment_at s at)) (dominating (halfsegment_at s next)))
    → (v : Point) → dominated_by s l v i ⊻ dominated_by s l v (i + 1) ≡ false
shared s l i {at} {next} e f t v =
    ap₂ (λ (a b : ℕ). is_same_point (dominating (halfsegment_at s a)) v ⊻ is_same_point (dominating (halfsegment_at s b)) v) (sym e) (sym f)
    ∙ ap (λ (p : Point). is_same_point p v ⊻ is_same_point q v) (same_point_read p q t)
    ∙ xor_same (is_same_point q v)
  where
    p : Point
    p = dominating (halfsegment_at s at)

    q : Point
    q = dominating (halfsegment_at s next)

-- ---- parities

module _ {A : Type 0} (f : A → Bool) (g : ℕ → A) where
  parity_map : (l : List ℕ) → parity f (map g l) ≡ parity (λ i. f (g i)) l
  unfolding parity
  parity_map [] = refl
  parity_map (i ∷ l) = ap (λ b. f (g i) ⊻ b) (parity_map l)

  parity_keep : (p : ℕ → Bool) (l : List ℕ) → parity f (map g (keep p l)) ≡ parity (λ i. p i && f (g i)) l
  unfolding parity
  parity_keep p [] = refl
  parity_keep p (i ∷ l) = go (p i) (parity_keep p l)
    where
      go : (b : Bool) → parity f (map g (keep p l)) ≡ parity (λ i. p i && f (g i)) l → parity f (map g (cond b (i ∷ keep p l) (keep p l))) ≡ (b && f (g i)) ⊻ parity (λ i. p i && f (g i)) l
      go true e = ap (λ b. f (g i) ⊻ b) e
      go false e = e

module _ {s : List ℕ} {l : Layout} (o : SoundObject s l) (region : T (is_region l.shape)) where
  has : has_segments l.shape ≡ true
  has = region_segments l.shape (true_is _ region)

  abbrev seg : ℕ → Segment
  seg i = (half s l i).segment

  abbrev left : ℕ → Bool
  left i = (half s l i).is_left

  abbrev rights : List Segment
  rights = map seg (keep (λ i. not (left i)) (elements l))

  by_left : (f : Segment → Bool) → parity f (segments s l) ≡ parity (λ i. left i && f (seg i)) (elements l)
  unfolding segments
  by_left f = parity_keep f seg (left_test s l) (elements l) ∙ parity_same (λ i. left_test s l i && f (seg i)) (λ i. left i && f (seg i)) (elements l) (λ i m. ap (λ b. (b && left i) && f (seg i)) has)

  by_right : (f : Segment → Bool) → parity f rights ≡ parity (λ i. not (left i) && f (seg i)) (elements l)
  by_right f = parity_keep f seg (λ i. not (left i)) (elements l)

  both : (f : Segment → Bool) → parity (λ i. f (seg i)) (elements l) ≡ parity f (segments s l) ⊻ parity f rights
  both f =
      parity_same (λ i. f (seg i)) (λ i. (left i && f (seg i)) ⊻ (not (left i) && f (seg i))) (elements l) (λ i m. split (left i) (f (seg i)))
      ∙ parity_xor (λ i. left i && f (seg i)) (λ i. not (left i) && f (seg i)) (elements l)
      ∙ sym (ap₂ (λ a b. a ⊻ b) (by_left f) (by_right f))
    where
      split : (a b : Bool) → b ≡ (a && b) ⊻ (not a && b)
      split true true = refl
      split true false = refl
      split false b = refl

  RightBefore : Segment → Segment → Type 0
  RightBefore t u = T (comes_before (half_of false t) (half_of false u))

  as_right : (i : ℕ) → not (left i) ≡ true → half s l i ≡ half_of false (seg i)
  as_right i e = ap (λ (b : Bool). half_of b (seg i)) (go (left i) e)
    where
      go : (b : Bool) → not b ≡ true → b ≡ false
      go true e = sym e
      go false e = refl

  rights_sorted : Sorted RightBefore rights
  unfolding RightBefore
  rights_sorted = sorted_map seg (kept_rise (λ i. not (left i)) l.count 0) rise
    where
      rise : (i j : ℕ) → i ∈ keep (λ i. not (left i)) (elements l) → j ∈ keep (λ i. not (left i)) (elements l) → i < j → RightBefore (seg i) (seg j)
      rise i j m k h =
          let a = keep_in (λ i. not (left i)) (elements l) m in
          let b = keep_in (λ i. not (left i)) (elements l) k in
          subst₂ (λ (h k : Halfsegment). T (comes_before h k)) (as_right i a.1) (as_right j b.1) (halves_rise s l o.read o.order has i j h (in_element l j b.0))

  -- each segment comes once as a right one
  right_in : {t : Segment} → t ∈ segments s l → t ∈ rights
  right_in {t} m =
      let w = half_of_lem o false m in
      subst (λ (u : Segment). u ∈ rights) (ap (λ (h : Halfsegment). h.segment) w.2) (in_map seg (in_keep (λ i. not (left i)) (element_in l w.0 w.1) (ap (λ (h : Halfsegment). not h.is_left) w.2)))

  twice : (t : Segment) → t ∈ map seg (elements l) → parity (is_same_segment t) (map seg (elements l)) ≡ false
  unfolding RightBefore
  twice t m =
      let w = map_in seg (elements l) m in
      let k = subst (λ (u : Segment). u ∈ segments s l) w.2 (segment_in o has w.0 (in_element l w.0 w.1)) in
      parity_map (is_same_segment t) seg (elements l) ∙ both (is_same_segment t)
      ∙ ap₂ (λ a b. a ⊻ b) ((regular o (true_is _ region)).split.once t k) (sorted_once is_same_segment same_segment_read same_segment_refl RightBefore rights_sorted (λ u n. comes_irreflexive (half_of false u)) t (right_in k))

  none_odd : (f : Segment → Bool) → parity f (segments s l) ⊻ parity f rights ≡ false
  none_odd f = sym (both f) ∙ sym (parity_map f seg (elements l)) ∙ even_all is_same_segment same_segment_read same_segment_refl (map seg (elements l)) twice f

  pub ends_evenly : EndsEvenly s l
  unfolding dominating
  ends_evenly v =
      parity_same (dominated_by s l v) (λ i. (left i && is_same_point (seg i).left v) ⊻ (not (left i) && is_same_point (seg i).right v)) (elements l) (λ i m. at (left i) (seg i).left (seg i).right)
      ∙ parity_xor (λ i. left i && is_same_point (seg i).left v) (λ i. not (left i) && is_same_point (seg i).right v) (elements l)
      ∙ sym (ap₂ (λ a b. a ⊻ b) (by_left (λ (t : Segment). is_same_point t.left v)) (xor_none _ _ (none_odd (λ (t : Segment). is_same_point t.right v)) ∙ by_right (λ (t : Segment). is_same_point t.right v)))
      ∙ sym (parity_xor (λ (t : Segment). is_same_point t.left v) (λ (t : Segment). is_same_point t.right v) (segments s l))
      ∙ (regular o (true_is _ region)).even v
    where
      at : (b : Bool) (p q : Point) → is_same_point (choose b p q) v ≡ (b && is_same_point p v) ⊻ (not b && is_same_point q v)
      at true p q = sym (xor_false (is_same_point p v))
      at false p q = refl

-- ---- where each point is so evenly often

count_all : (n i : ℕ) → count (λ k. true) (indices n i) ≡ n
count_all zero i = refl
count_all (suc n) i = omega (arith, count_all n (suc i))

module _ (s : List ℕ) (l : Layout) (evenly : EndsEvenly s l) where
  -- there is an even number of halfsegments
  pub even_count : l.count % 2 ≡ 0
  unfolding odd
  even_count = go (eqb-false (l.count % 2) 1 none)
    where
      at : ℕ → Point
      at i = dominating (half s l i)

      none : odd l.count ≡ false
      none =
          ap odd (sym (count_all l.count 0)) ∙ odd_count (λ k. true) (elements l) ∙ sym (parity_map (λ (p : Point). true) at (elements l))
          ∙ even_all (λ p q. is_same_point q p) (λ p q t. sym (same_point_read q p t)) same_point_refl (map at (elements l)) (λ p m. parity_map (λ (q : Point). is_same_point q p) at (elements l) ∙ evenly p) (λ p. true)

      go : (l.count % 2 ≡ 1 → ⊥) → l.count % 2 ≡ 0
      go h = omega arith

-- and where evenly many are left at each point, and points come in order, the next two share theirs
module _ (s : List ℕ) (l : Layout) (is : IsObject s l) (has : T (has_segments l.shape)) (order : out_of_order s l ≡ None) (i : ℕ) (h : i + 1 < l.count) (left : (v : Point) → parity_from (dominated_by s l v) i l.count ≡ false) where
  abbrev at : ℕ → Point
  at k = dominating (half s l k)

  rises : (j k : ℕ) → j < k → k < l.count → NotBefore (at k) (at j)
  rises j k h b = not_after (half s l j) (half s l k) (halves_rise s l is order (true_is _ has) j k h b)

  pub next_shares : is_same_point (at i) (at (i + 1)) ≡ false → ⊥
  next_shares n = true≢false (sym (ap (λ (m : ℕ). parity f (indices m i)) more ∙ parity_cons f i (indices (l.count - (i + 1)) (suc i)) ∙ ap₂ (λ a b. a ⊻ b) own (parity_none f (indices (l.count - (i + 1)) (suc i)) later)) ∙ left (at i))
    where
      f : ℕ → Bool
      f = dominated_by s l (at i)

      more : l.count - i ≡ suc (l.count - (i + 1))
      more = omega arith

      own : f i ≡ true
      own = true_is (f i) (same_point_refl (at i))

      later : (k : ℕ) → k ∈ indices (l.count - (i + 1)) (suc i) → f k ≡ false
      later k m = refute (f k) (λ t. subst T n (subst (λ (q : Point). T (is_same_point (at i) q)) (sym (not_before_both (at (i + 1)) (at i) (rises i (i + 1) (omega arith) h) (back (same_point_read (at k) (at i) t)))) (same_point_refl (at i))))
        where
          k_after : suc i ≤ k
          k_after = (indices_in (l.count - (i + 1)) (suc i) k m).0

          k_in : k < l.count
          k_in = omega (arith, (indices_in (l.count - (i + 1)) (suc i) k m).1)

          after_next : i + 1 ≤ k
          after_next = omega (arith, k_after)

          back : at k ≡ at i → NotBefore (at i) (at (i + 1))
          back e =
              subst (λ (q : Point). NotBefore q (at (i + 1))) e
              (⊎_elim (λ q. subst (λ (m : ℕ). NotBefore (at m) (at (i + 1))) q (not_T (before (at (i + 1)) (at (i + 1))) (before_irreflexive (at (i + 1))))) (λ g. rises (i + 1) k g k_in) (eq-or-lt_of_le after_next))
