-- The two kinds of event keep what the sweep keeps: a strand that begins between those under its left end and those over it, and a strand that ends
-- between those under its right end and those over it.
use native.Mathlib.Omega.{arith}
use mathlib.Core.Path.{◌≡◌, refl, sym, ap, ◌∙◌, subst}
use mathlib.Core.Logic.{◌⊎◌, inl, inr, ⊎_elim}
use mathlib.Core.Bool.{Bool, true, false, not, ◌&&◌, ◌||◌, beq, true≢false}
use mathlib.Core.List.{List, [], ◌∷◌, ◌++◌}
use lib.Dec.{T, T_not}
use lib.IntN.{pos}
use Rattle.whole.specs.Count.{◌∈◌, here, there, bit, odd, count}
use Rattle.whole.proofs.Sign.{Pos, neg_of_pos, pos_clash, zero_pos, zero_neg, lt_z0_pos, lt_z0_neg}
use Rattle.whole.proofs.Logic.{Sorted, sorted_cons, in_cons, in_append, in_left, in_right, or_left, or_right, and_make, and_right, and_left, and_follows, true_is, refute}
use Rattle.plane.specs.declared.Point.{Point}
use Rattle.plane.specs.declared.Segment.{Segment}
use Rattle.plane.specs.Plane.{before, ordered, is_same_point, is_same_segment, side, counts_below, grid, touch}
use Rattle.plane.proofs.OnSegment.{Ordered, ordered_read}
use Rattle.plane.proofs.Equal.{same_point_refl, same_segment_refl, same_segment_read}
use Rattle.sweep_laws.specs.Lower.{passes_under, passes_over, lower_at_right, under}
use Rattle.sweep_laws.specs.Kept.{Strand, is_of, same_object, under_of, NoneEqual, own_equal, Lower, Kept}
use Rattle.sweep_laws.proofs.NoTouch.{ordered_clear, after_clear}
use Rattle.whole.proofs.Counted.{count_append, count_between, count_none, count_same, in_between, at_between, or_between}
use Rattle.sweep_laws.proofs.Under.{NotBefore, side_left, side_right, side_turned, under_lower, under_over, under_ended, under_later, under_itself}

-- what has gone before an event at p, and what is active there
pub record Reached (p : Point) (begun ended active : List Strand) : Type 0 where
  pub begun_before : (a : Strand) → a ∈ begun → NotBefore p a.segment.left
  pub ended_before : (a : Strand) → a ∈ ended → NotBefore p a.segment.right
  pub active_on : (a : Strand) → a ∈ active → NotBefore a.segment.right p

-- under a strand that begins are those that pass under its left end, those that begin there and turn left into it, and its equal of the other object
pub data UnderBeginning (a b : Strand) : Type 0 where
  passing : T (passes_under b.segment a.segment.left) → UnderBeginning a b
  turning : b.segment.left ≡ a.segment.left → T (passes_under b.segment a.segment.right) → UnderBeginning a b
  equal : b.segment ≡ a.segment → same_object a b ≡ false → UnderBeginning a b

-- under a strand that ends are those that pass under its right end and those that end there; over it those that pass over, and its equal
pub data UnderEnd (a b : Strand) : Type 0 where
  passing_end : T (passes_under b.segment a.segment.right) → UnderEnd a b
  ending : b.segment.right ≡ a.segment.right → UnderEnd a b

pub data OverEnd (a b : Strand) : Type 0 where
  passing_over : T (passes_over b.segment a.segment.right) → OverEnd a b
  equal_over : b.segment ≡ a.segment → OverEnd a b

-- ---- lists in order

module _ {A : Type 0} {R : A → A → Type 0} where
  sorted_insert : (l : List A) (a : A) (m : List A) → Sorted R (l ++ m) → ((b : A) → b ∈ l → R b a) → ((b : A) → b ∈ m → R a b) → Sorted R (l ++ (a ∷ m))
  sorted_insert [] a m h f g = sorted_cons g h
  sorted_insert (c ∷ l) a m (sorted_cons first rest) f g =
      sorted_cons (λ b k. ⊎_elim (λ e. subst (R c) (sym e) (f c here)) (first b) (or_between l a m k)) (sorted_insert l a m rest (λ b k. f b (there k)) g)

  sorted_drop : (l : List A) (a : A) (m : List A) → Sorted R (l ++ (a ∷ m)) → Sorted R (l ++ m)
  sorted_drop [] a m (sorted_cons first rest) = rest
  sorted_drop (c ∷ l) a m (sorted_cons first rest) = sorted_cons (λ b k. first b (in_between l a m k)) (sorted_drop l a m rest)

  sorted_before : (l : List A) (a : A) (m : List A) → Sorted R (l ++ (a ∷ m)) → (b : A) → b ∈ l → R b a
  sorted_before [] a m s b k = elim k [ ]
  sorted_before (c ∷ l) a m (sorted_cons first rest) b here = first a (at_between l a m)
  sorted_before (c ∷ l) a m (sorted_cons first rest) b (there k) = sorted_before l a m rest b k

  pub sorted_after : (l : List A) (a : A) (m : List A) → Sorted R (l ++ (a ∷ m)) → (b : A) → b ∈ m → R a b
  sorted_after [] a m (sorted_cons first rest) b k = first b k
  sorted_after (c ∷ l) a m (sorted_cons first rest) b k = sorted_after l a m rest b k

same_clear : (s t : Segment) → s ≡ t → touch s t ≡ false
unfolding touch
same_clear s t e = rw (true_is (is_same_segment s t) (subst (λ r. T (is_same_segment s r)) e (same_segment_refl s)))

pub no_and : (x y : Bool) → y ≡ false → x && y ≡ false
no_and true y e = e
no_and false y e = refl

same_left : (s t : Segment) → s.left ≡ t.left → T (is_same_point s.left t.left)
same_left s t e = subst (λ p. T (is_same_point s.left p)) e (same_point_refl s.left)

-- ---- the order of two strands, from the test at the later beginning or at the earlier end

module _ (a b : Strand) where
  abbrev s : Segment
  s = a.segment

  abbrev t : Segment
  t = b.segment

  under_lower_left : UnderBeginning a b → Lower b a
  under_lower_left (passing h) =
      inr (or_left (passes_under t s.left || passes_over s t.left) _ (or_left (passes_under t s.left) _ h))
  under_lower_left (turning e h) =
      inr (or_right (passes_under t s.left || passes_over s t.left) _ (and_make (is_same_point t.left s.left) (passes_under t s.right) (same_left t s e) h))
  under_lower_left (equal e d) = inl e

  over_lower_left : T (passes_over t s.left) → Lower a b
  over_lower_left h = inr (or_left (passes_under s t.left || passes_over t s.left) _ (or_right (passes_under s t.left) _ h))

  -- of two strands that begin at one point, only one is under the other
  turns_once : t.left ≡ s.left → UnderBeginning b a → T (passes_under t s.right) → ⊥
  turns_once e (passing h) u = zero_pos (ap (side s.left s.right) e ∙ side_left s) (lt_z0_pos (side s.left s.right t.left) h)
  turns_once e (turning f h) u =
      pos_clash (lt_z0_pos (side t.left t.right s.right) u)
      (neg_of_pos (side t.left t.right s.right)
      (subst Pos (ap (λ p. side p s.right t.right) (sym e) ∙ side_turned t.left s.right t.right) (lt_z0_pos (side s.left s.right t.right) h)))
  turns_once e (equal f g) u = zero_pos (ap (λ (r : Segment). side t.left t.right r.right) f ∙ side_right t) (lt_z0_pos (side t.left t.right s.right) u)

module _ (is_region : Bool → Bool) where
  -- a strand begins between those under its left end and those over it
  pub record Beginning (begun ended : List Strand) (a : Strand) (low high : List Strand) : Type 0 where
    pub in_order : T (ordered a.segment)
    pub kept : Kept is_region begun ended (low ++ high)
    pub reached : Reached a.segment.left begun ended (low ++ high)
    pub under_it : (b : Strand) → b ∈ low → UnderBeginning a b
    pub over_it : (b : Strand) → b ∈ high → T (passes_over b.segment a.segment.left)

  module _ {begun ended : List Strand} {a : Strand} {low high : List Strand} (g : Beginning begun ended a low high) where
    abbrev k : Kept is_region begun ended (low ++ high)
    k = g.kept

    abbrev r : Reached a.segment.left begun ended (low ++ high)
    r = g.reached

    -- of an object without its equal, what is under it is what stands below it
    of_low : (object : Bool) → NoneEqual object a begun → (b : Strand) → b ∈ low → under_of object a b ≡ is_of object b
    of_low object none b m = and_follows (is_of object b) (under a.segment b.segment) (λ t. go t (g.under_it b m))
      where
        has_begun : b ∈ begun
        has_begun = k.active_begun b (in_left high m)

        go : T (is_of object b) → UnderBeginning a b → T (under a.segment b.segment)
        go t (passing h) = under_lower a.segment b.segment (ordered_read b.segment (k.sound b has_begun)) (r.begun_before b has_begun) (r.active_on b (in_left high m)) h
        go t (turning e h) =
            or_right (counts_below (grid a.segment.left) b.segment) (is_same_point b.segment.left a.segment.left && passes_under b.segment a.segment.right) (and_make (is_same_point b.segment.left a.segment.left) (passes_under b.segment a.segment.right) (same_left b.segment a.segment e) h)
        go t (equal e d) = absurd (none b has_begun (true_is (is_of object b) t) (sym e))

    pub now_under : (object : Bool) → NoneEqual object a begun → count (under_of object a) (a ∷ begun) ≡ count (is_of object) low
    now_under object none =
        omega (
          arith,
          ap bit (no_and (is_of object a) (under a.segment a.segment) (under_itself a.segment)),
          k.counts (under_of object a),
          count_append (under_of object a) low high,
          count_same (under_of object a) (is_of object) low (of_low object none),
          count_none (under_of object a) high (λ b m. no_and (is_of object b) (under a.segment b.segment) (under_over a.segment b.segment (g.over_it b m))),
          count_none (under_of object a) ended (λ b m. no_and (is_of object b) (under a.segment b.segment) (under_ended a.segment b.segment (k.sound b (k.ended_begun b m)) (r.ended_before b m))),
        )

    -- it is not under one that has begun
    not_under : (b : Strand) → b ∈ begun → under b.segment a.segment ≡ false
    unfolding ordered
    not_under b m = under_later b.segment a.segment (ordered_read a.segment g.in_order) (r.begun_before b m) turns
      where
        ended_clash : b ∈ ended → a.segment.left ≡ b.segment.left → ⊥
        ended_clash n e =
            T_not (before a.segment.left b.segment.right) (r.ended_before b n)
            (subst (λ p. T (before p b.segment.right)) (sym e) (k.sound b m))

        turns : a.segment.left ≡ b.segment.left → T (passes_under a.segment b.segment.right) → ⊥
        turns e u =
            ⊎_elim
            (λ n. ⊎_elim (λ l. turns_once b a e (g.under_it b l) u)
            (λ h. zero_neg (ap (side b.segment.left b.segment.right) e ∙ side_left b.segment) (lt_z0_neg (side b.segment.left b.segment.right a.segment.left) (g.over_it b h))) (in_append low n))
            (λ n. ended_clash n e) (k.placed b m)

    pub still_under : (object : Bool) (b : Strand) → b ∈ begun → count (under_of object b) (a ∷ begun) ≡ count (under_of object b) begun
    still_under object b m = omega (arith, ap bit (no_and (is_of object a) (under b.segment a.segment) (not_under b m)))

    -- nor is it the same segment of the same object as one that has
    pub new_segment : NoneEqual a.first a begun
    unfolding ordered
    new_segment b m d e = ⊎_elim (λ n. ⊎_elim (λ l. below (g.under_it b l)) (λ h. above (g.over_it b h)) (in_append low n)) past (k.placed b m)
      where
        at_left : side b.segment.left b.segment.right a.segment.left ≡ pos 0
        at_left = ap (λ (t : Segment). side b.segment.left b.segment.right t.left) e ∙ side_left b.segment

        at_right : side b.segment.left b.segment.right a.segment.right ≡ pos 0
        at_right = ap (λ (t : Segment). side b.segment.left b.segment.right t.right) e ∙ side_right b.segment

        below : UnderBeginning a b → ⊥
        below (passing h) = zero_pos at_left (lt_z0_pos (side b.segment.left b.segment.right a.segment.left) h)
        below (turning f h) = zero_pos at_right (lt_z0_pos (side b.segment.left b.segment.right a.segment.right) h)
        below (equal f g) = true≢false (sym d ∙ g)

        above : T (passes_over b.segment a.segment.left) → ⊥
        above h = zero_neg at_left (lt_z0_neg (side b.segment.left b.segment.right a.segment.left) h)

        past : b ∈ ended → ⊥
        past n =
            T_not (before a.segment.left b.segment.right) (r.ended_before b n)
            (subst (λ (t : Segment). T (before t.left b.segment.right)) (sym e) (k.sound b m))

    not_equal : (b : Strand) → b ∈ begun → (own_equal a b ≡ false) × (own_equal b a ≡ false)
    not_equal b m = (
      refute (own_equal a b) (λ t. clash (and_left (same_object a b) (is_same_segment a.segment b.segment) t) (same_segment_read a.segment b.segment (and_right (same_object a b) (is_same_segment a.segment b.segment) t))),
      refute (own_equal b a) (λ t. clash (turned b.first a.first (and_left (same_object b a) (is_same_segment b.segment a.segment) t)) (sym (same_segment_read b.segment a.segment (and_right (same_object b a) (is_same_segment b.segment a.segment) t)))),
    )
      where
        clash : T (same_object a b) → a.segment ≡ b.segment → ⊥
        clash d e = new_segment b m (true_is (same_object a b) d) e

        turned : (x y : Bool) → T (beq x y) → T (beq y x)
        turned true true t = tt
        turned true false t = absurd t
        turned false true t = absurd t
        turned false false t = tt

    pub begins : (T (is_region a.first) → odd (count (same_object a) low) ≡ not a.ia) → Kept is_region (a ∷ begun) ended (low ++ (a ∷ high))
    begins right_ia =
        record {
          counts = λ f. omega (arith, k.counts f, count_between f low a high);
          placed = λ b m. ⊎_elim (λ e. inl (subst (λ c. c ∈ (low ++ (a ∷ high))) (sym e) (at_between low a high))) (λ n. ⊎_elim (λ h. inl (in_between low a high h)) inr (k.placed b n)) (in_cons m);
          active_begun = λ b m. ⊎_elim (λ e. subst (λ c. c ∈ (a ∷ begun)) (sym e) here) (λ n. there (k.active_begun b n)) (or_between low a high m);
          ended_begun = λ b m. there (k.ended_begun b m);
          sound = λ b m. ⊎_elim (λ e. subst (λ (c : Strand). T (ordered c.segment)) (sym e) g.in_order) (k.sound b) (in_cons m);
          once = λ b m. ⊎_elim (λ e. subst (λ c. count (own_equal c) (a ∷ begun) ≡ 1) (sym e) (omega (arith, ap bit itself, count_none (own_equal a) begun (λ c n. (not_equal c n).0)))) (λ n. omega (arith, ap bit (not_equal b n).1, k.once b n)) (in_cons m);
          clear_ended = k.clear_ended;
          clear_active = λ b c m n. ⊎_elim (λ e. subst (λ (d : Strand). (touch b.segment d.segment ≡ false) × (touch d.segment b.segment ≡ false)) (sym e) (past b m)) (k.clear_active b c m) (or_between low a high n);
          rising = sorted_insert low a high k.rising (λ b m. under_lower_left a b (g.under_it b m)) (λ b m. over_lower_left a b (g.over_it b m));
          interior = λ b m i. ⊎_elim (λ e. subst (λ c. odd (count (under_of c.first c) (a ∷ begun)) ≡ not c.ia) (sym e) (own (subst (λ (c : Strand). T (is_region c.first)) e i))) (λ n. other b n i) (in_cons m);
        }
      where
        itself : own_equal a a ≡ true
        itself = true_is (own_equal a a) (and_make (same_object a a) (is_same_segment a.segment a.segment) (self a.first) (same_segment_refl a.segment))
          where
            self : (x : Bool) → T (beq x x)
            self true = tt
            self false = tt

        past : (b : Strand) → b ∈ ended → (touch b.segment a.segment ≡ false) × (touch a.segment b.segment ≡ false)
        past b m =
            let c = after_clear a.segment b.segment (ordered_read a.segment g.in_order) (ordered_read b.segment (k.sound b (k.ended_begun b m))) (r.ended_before b m) in
            (c.1, c.0)

        own : T (is_region a.first) → odd (count (under_of a.first a) (a ∷ begun)) ≡ not a.ia
        own i = ap odd (now_under a.first new_segment) ∙ right_ia i

        other : (b : Strand) → b ∈ begun → T (is_region b.first) → odd (count (under_of b.first b) (a ∷ begun)) ≡ not b.ia
        other b m i = ap odd (still_under b.first b m) ∙ k.interior b m i

  -- ---- a strand ends

  pub ends : {begun ended : List Strand} (a : Strand) → T (ordered a.segment) → (low high : List Strand) → Kept is_region begun ended (low ++ (a ∷ high))
      → ((b : Strand) → b ∈ low → UnderEnd a b) → ((b : Strand) → b ∈ high → OverEnd a b) → Kept is_region begun (a ∷ ended) (low ++ high)
  ends {begun} {ended} a o low high k under_it over_it =
      record {
        counts = λ f. omega (arith, k.counts f, count_between f low a high);
        placed = λ b m. ⊎_elim (λ h. ⊎_elim (λ e. inr (subst (λ c. c ∈ (a ∷ ended)) (sym e) here)) inl (or_between low a high h)) (λ h. inr (there h)) (k.placed b m);
        active_begun = λ b m. k.active_begun b (in_between low a high m);
        ended_begun = λ b m. ⊎_elim (λ e. subst (λ c. c ∈ begun) (sym e) own) (k.ended_begun b) (in_cons m);
        sound = k.sound;
        once = k.once;
        clear_ended = λ b c m n. ended_pair b c (in_cons m) (in_cons n);
        clear_active = λ b c m n. ⊎_elim (λ e. subst (λ (d : Strand). (touch d.segment c.segment ≡ false) × (touch c.segment d.segment ≡ false)) (sym e) (beside c n)) (λ h. k.clear_active b c h (in_between low a high n)) (in_cons m);
        rising = sorted_drop low a high k.rising;
        interior = k.interior;
      }
    where
      own : a ∈ begun
      own = k.active_begun a (at_between low a high)

      in_order : (b : Strand) → b ∈ (low ++ high) → Ordered b.segment
      in_order b m = ordered_read b.segment (k.sound b (k.active_begun b (in_between low a high m)))

      own_order : Ordered a.segment
      own_order = ordered_read a.segment o

      equal_clear : (b : Strand) → b.segment ≡ a.segment → (touch a.segment b.segment ≡ false) × (touch b.segment a.segment ≡ false)
      equal_clear b e = (same_clear a.segment b.segment (sym e), same_clear b.segment a.segment e)

      below : (b : Strand) → b ∈ low → (touch a.segment b.segment ≡ false) × (touch b.segment a.segment ≡ false)
      below b m = ⊎_elim (equal_clear b) (λ l. let c = ordered_clear b.segment a.segment (in_order b (in_left high m)) own_order l (right (under_it b m)) in (c.1, c.0)) (sorted_before low a high k.rising b m)
        where
          right : UnderEnd a b → T (lower_at_right b.segment a.segment)
          right (passing_end h) =
              or_left (passes_under b.segment a.segment.right || passes_over a.segment b.segment.right) _ (or_left (passes_under b.segment a.segment.right) _ h)
          right (ending e) =
              or_right (passes_under b.segment a.segment.right || passes_over a.segment b.segment.right) (is_same_point b.segment.right a.segment.right) (subst (λ p. T (is_same_point b.segment.right p)) e (same_point_refl b.segment.right))

      above : (b : Strand) → b ∈ high → (touch a.segment b.segment ≡ false) × (touch b.segment a.segment ≡ false)
      above b m = go (over_it b m) (sorted_after low a high k.rising b m)
        where
          go : OverEnd a b → Lower a b → (touch a.segment b.segment ≡ false) × (touch b.segment a.segment ≡ false)
          go (equal_over e) l = equal_clear b e
          go (passing_over h) (inl e) = equal_clear b (sym e)
          go (passing_over h) (inr l) =
              ordered_clear a.segment b.segment own_order (in_order b (in_right low m)) l
              (or_left (passes_under a.segment b.segment.right || passes_over b.segment a.segment.right) _ (or_right (passes_under a.segment b.segment.right) _ h))

      beside : (b : Strand) → b ∈ (low ++ high) → (touch a.segment b.segment ≡ false) × (touch b.segment a.segment ≡ false)
      beside b m = ⊎_elim (below b) (above b) (in_append low m)

      ended_pair : (b c : Strand) → (b ≡ a) ⊎ (b ∈ ended) → (c ≡ a) ⊎ (c ∈ ended) → touch b.segment c.segment ≡ false
      ended_pair b c (inl e) (inl f) = same_clear b.segment c.segment (ap (λ (d : Strand). d.segment) (e ∙ sym f))
      ended_pair b c (inl e) (inr n) = subst (λ (d : Strand). touch d.segment c.segment ≡ false) (sym e) (k.clear_active c a n (at_between low a high)).1
      ended_pair b c (inr m) (inl f) = subst (λ (d : Strand). touch b.segment d.segment ≡ false) (sym f) (k.clear_active b a m (at_between low a high)).0
      ended_pair b c (inr m) (inr n) = k.clear_ended b c m n
