-- "the count of added segments": a segment has one piece more than it has different cuts.
use Prim.Native.Nat.{ℕ, zero, suc, ◌+◌, ◌≤◌}
use native.Mathlib.Omega.{arith}
use mathlib.Core.Path.{◌≡◌, refl, sym, ap, ap₂, ◌∙◌, subst}
use mathlib.Core.Logic.{◌⊎◌, ⊎_elim}
use mathlib.Core.Bool.{Bool, true, false, not, ◌||◌, cond, true≢false}
use mathlib.Core.List.{List, [], ◌∷◌}
use lib.Dec.{T}
use lib.ListN.{length, length-append}
use Rattle.whole.specs.Count.{bit, some, count, ◌∈◌, here, there}
use Rattle.whole.proofs.Logic.{is_true, true_is, refute, same_test, or_cases, or_left, or_right, some_make}
use Rattle.whole.proofs.Counted.{count_fewer, none_of_count, count_length}
use Rattle.whole.proofs.Sorted.{kept}
use Rattle.plane.specs.declared.Point.{Point}
use Rattle.plane.specs.declared.Segment.{Segment}
use Rattle.plane.specs.Plane.{before, is_same_point, end_within, ordered}
use Rattle.plane.proofs.OnSegment.{Ordered}
use Rattle.plane.proofs.Equal.{same_point_read, same_point_refl}
use Rattle.plane.proofs.Order.{ordered_make, before_irreflexive, before_trans, before_cases}
use Rattle.split_pieces.specs.Pieces.{between, next_cut, pieces_from, pieces, split_all, different, added}
use Rattle.split_pieces.proofs.Chain.{inside_after, inside_before, next_after, next_member, next_least}
use Rattle.split_pieces.proofs.Unchanged.{AllInside, AllOrdered}

-- ---- what a test keeps of the cuts

kept_none : {A : Type 0} (f : A → Bool) (l : List A) → ((a : A) → a ∈ l → f a ≡ false) → kept f l ≡ []
kept_none f [] h = refl
kept_none f (a ∷ l) h = ap (λ b. cond b (a ∷ kept f l) (kept f l)) (h a here) ∙ kept_none f l (λ b m. h b (there m))

kept_all : {A : Type 0} (f : A → Bool) (l : List A) → ((a : A) → a ∈ l → f a ≡ true) → kept f l ≡ l
kept_all f [] h = refl
kept_all f (a ∷ l) h = ap (λ b. cond b (a ∷ kept f l) (kept f l)) (h a here) ∙ ap (λ k. a ∷ k) (kept_all f l (λ b m. h b (there m)))

-- what is kept stands there as often as before
some_kept : (f : Point → Bool) (c : Point) (l : List Point) → f c ≡ true → some (is_same_point c) (kept f l) ≡ some (is_same_point c) l
some_kept f c [] e = refl
some_kept f c (d ∷ l) e = go (f d) refl (some_kept f c l e)
  where
    go : (b : Bool) → f d ≡ b → some (is_same_point c) (kept f l) ≡ some (is_same_point c) l → some (is_same_point c) (cond b (d ∷ kept f l) (kept f l)) ≡ is_same_point c d || some (is_same_point c) l
    go true q later = ap (λ b. is_same_point c d || b) later
    go false q later = later ∙ ap (λ b. b || some (is_same_point c) l) (sym (refute (is_same_point c d) (λ h. clash (same_point_read c d h))))
      where
        clash : c ≡ d → ⊥
        clash k = let z : ◌≡◌ {A = ℕ} 1 0 = ap bit (sym e ∙ ap f k ∙ q) in omega arith

-- of two tests, of which the first holds of one point more
one_more : (f g : Point → Bool) (q : Point) (l : List Point) → ((c : Point) → c ∈ l → f c ≡ is_same_point q c || g c) → g q ≡ false
    → different (kept f l) ≡ bit (some (is_same_point q) l) + different (kept g l)
one_more f g q [] h k = refl
one_more f g q (c ∷ l) h k = go (is_same_point q c) (g c) (f c) refl refl refl (h c here) (one_more f g q l (λ d m. h d (there m)) k)
  where
    bits : (b : Bool) (n : ℕ) → bit (not b) + (bit b + n) ≡ 1 + n
    bits true n = omega arith
    bits false n = omega arith

    go : (a b d : Bool) → is_same_point q c ≡ a → g c ≡ b → f c ≡ d → f c ≡ is_same_point q c || g c → different (kept f l) ≡ bit (some (is_same_point q) l) + different (kept g l)
        → different (cond d (c ∷ kept f l) (kept f l)) ≡ bit (a || some (is_same_point q) l) + different (cond b (c ∷ kept g l) (kept g l))
    go true true d e i j w later = absurd (true≢false (sym i ∙ ap g (sym (same_point_read q c (is_true (is_same_point q c) e))) ∙ k))
    go true false false e i j w later = absurd (true≢false (sym (w ∙ ap (λ a. a || g c) e) ∙ j))
    go true false true e i j w later =
        ap₂ (λ a n. bit (not a) + n) (some_kept f c l j ∙ ap (λ p. some (is_same_point p) l) (sym (same_point_read q c (is_true (is_same_point q c) e)))) later
        ∙ bits (some (is_same_point q) l) (different (kept g l))
    go false true false e i j w later = absurd (true≢false (sym (w ∙ ap₂ (λ a b. a || b) e i) ∙ j))
    go false true true e i j w later =
        ap₂ (λ a n. bit (not a) + n) (some_kept f c l j ∙ sym (some_kept g c l i)) later
        ∙ omega arith
    go false false false e i j w later = later
    go false false true e i j w later = absurd (true≢false (sym j ∙ w ∙ ap₂ (λ a b. a || b) e i))

-- ---- the pieces of a segment

-- one piece, up to the next cut q
module _ (cuts : List Point) (p r q : Point) (f : (c : Point) → c ∈ cuts → T (before c r)) (after : T (before p q)) (found : (q ≡ r) ⊎ (q ∈ cuts))
    (least : (c : Point) → c ∈ cuts → T (before p c) → T (before c q) → ⊥) where
  one_left : q ≡ r → different (kept (before p) cuts) ≡ 0
  one_left e = ap different (kept_none (before p) cuts (λ c m. refute (before p c) (λ k. least c m k (subst (λ x. T (before c x)) (sym e) (f c m)))))

  self : before q q ≡ false
  self = refute (before q q) (before_irreflexive q)

  fewer : {n : ℕ} → q ∈ cuts → count (before p) cuts ≤ suc n → count (before q) cuts ≤ n
  fewer m h = omega (arith, h, count_fewer (before q) (before p) cuts (λ d w. before_trans p q d after w) q m after self)

  from_p : (c : Point) → c ∈ cuts → before p c ≡ is_same_point q c || before q c
  from_p c m = same_test (before p c) (is_same_point q c || before q c) onwards back
    where
      onwards : T (before p c) → T (is_same_point q c || before q c)
      onwards k =
          ⊎_elim (λ w. or_right (is_same_point q c) (before q c) w)
          (λ w. ⊎_elim (λ e. or_left (is_same_point q c) (before q c) (subst (λ x. T (is_same_point q x)) e (same_point_refl q))) (λ w. absurd (least c m k w)) w) (before_cases q c)

      back : T (is_same_point q c || before q c) → T (before p c)
      back k = ⊎_elim (λ w. subst (λ x. T (before p x)) (same_point_read q c w) after) (λ w. before_trans p q c after w) (or_cases (is_same_point q c) (before q c) k)

  one_cut_more : q ∈ cuts → different (kept (before p) cuts) ≡ 1 + different (kept (before q) cuts)
  one_cut_more m =
      one_more (before p) (before q) q cuts from_p self
      ∙ ap (λ b. bit b + different (kept (before q) cuts)) (true_is (some (is_same_point q) cuts) (some_make (is_same_point q) m (same_point_refl q)))

  step : (n : ℕ) → count (before p) cuts ≤ suc n → (T (before q r) → count (before q) cuts ≤ n → length (pieces_from n cuts q r) ≡ 1 + different (kept (before q) cuts))
      → length (cond (is_same_point q r) (between p r ∷ []) (between p q ∷ pieces_from n cuts q r)) ≡ 1 + different (kept (before p) cuts)
  step n h rest = go (is_same_point q r) refl
    where
      go : (b : Bool) → is_same_point q r ≡ b → length (cond b (between p r ∷ []) (between p q ∷ pieces_from n cuts q r)) ≡ 1 + different (kept (before p) cuts)
      go true e = ap (λ m. 1 + m) (sym (one_left (same_point_read q r (is_true (is_same_point q r) e))))
      go false e = omega (arith, rest (f q is_cut) (fewer is_cut h), one_cut_more is_cut)
        where
          is_cut : q ∈ cuts
          is_cut = ⊎_elim (λ k. absurd (true≢false (sym (true_is (is_same_point q r) (subst (λ x. T (is_same_point q x)) k (same_point_refl q))) ∙ e))) (λ m. m) found

pieces_counted : (n : ℕ) (cuts : List Point) (p r : Point) → T (before p r) → ((c : Point) → c ∈ cuts → T (before c r)) → count (before p) cuts ≤ n
    → length (pieces_from n cuts p r) ≡ 1 + different (kept (before p) cuts)
pieces_counted zero cuts p r o f h =
    ap (λ l. 1 + different l) (sym (kept_none (before p) cuts (λ c m. refute (before p c) (λ k. none_of_count (before p) cuts h c m k))))
pieces_counted (suc n) cuts p r o f h =
    step cuts p r (next_cut cuts p r) f (next_after p cuts r o) (next_member p cuts r) (next_least p cuts r) n h
    (λ u less. pieces_counted n cuts (next_cut cuts p r) r u f less)

-- ---- of a segment, and of all segments of an object

module _ (cuts : Segment → List Point) where
  piece_count : (s : Segment) → Ordered s → ((c : Point) → c ∈ cuts s → T (end_within s c)) → length (pieces cuts s) ≡ 1 + different (cuts s)
  unfolding ordered
  piece_count s o i =
      pieces_counted (length (cuts s)) (cuts s) s.left s.right (ordered_make s o) (λ c m. inside_before s c (i c m) o) (count_length (before s.left) (cuts s))
      ∙ ap (λ l. 1 + different l) (kept_all (before s.left) (cuts s) (λ c m. true_is (before s.left c) (inside_after s c (i c m) o)))

  pub split_length : (l : List Segment) → AllOrdered l → AllInside cuts l → length (split_all cuts l) ≡ length l + added cuts l
  split_length [] o i = refl
  split_length (s ∷ l) o i =
      omega (arith, length-append (pieces cuts s) (split_all cuts l), piece_count s (o s here) (i s here), split_length l (λ t m. o t (there m)) (λ t m. i t (there m)))
