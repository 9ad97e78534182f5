-- The segments of an object from an element on, and what comes next of two merged objects.
use Prim.Native.Nat.{ℕ, zero, suc, ◌+◌, ◌-◌, ◌<◌, ◌≤◌}
use native.Mathlib.Decide.{dec_lt}
use native.Mathlib.Omega.{arith}
use mathlib.Core.Path.{◌≡◌, refl, sym, ap, ap₂, subst, ◌∙◌}
use mathlib.Core.Bool.{true, false}
use mathlib.Core.List.{List, [], ◌∷◌, map}
use lib.Dec.{T}
use Rattle.plane.specs.declared.Segment.{Segment}
use Rattle.plane.specs.Plane.{segment_in_range}
use Rattle.scene.specs.declared.Layout.{Layout}
use Rattle.whole.proofs.Logic.{true_is}
use Rattle.scene.specs.Read.{IsObject}
use Rattle.scene.specs.Conditions.{keep, half, has_segments, left_test, segments}
use Rattle.scene_segments.proofs.Elements.{half_good}
use Rattle.flags_classes.proofs.Merging.{left_has}
use Rattle.scene_segments.proofs.Walk.{all_between, between_next, between_none}
use Rattle.flags_classes.specs.Walked.{NoneLeft, NextLeft, Nexts, NextOfF, NextOfG, NextOfBoth}
use Rattle.overlap.specs.Bytes.{merge}
use Rattle.overlap.specs.Walked.{segments_from, merged_from, NextIs}

-- ---- the segments from an element on

module _ (s : List ℕ) (l : Layout) where
  pub from_start : segments s l ≡ segments_from s l 0
  unfolding segments segments_from
  from_start = ap (λ is. map (λ k. (half s l k).segment) (keep (left_test s l) is)) (all_between l.count)

  module _ (i : ℕ) where
    from_left : i < l.count → left_test s l i ≡ true → segments_from s l i ≡ (half s l i).segment ∷ segments_from s l (i + 1)
    unfolding segments_from
    from_left h e = rw (between_next i l.count h, e)

    from_right : i < l.count → left_test s l i ≡ false → segments_from s l i ≡ segments_from s l (i + 1)
    unfolding segments_from
    from_right h e = rw (between_next i l.count h, e)

    from_none : l.count ≤ i → segments_from s l i ≡ []
    unfolding segments_from
    from_none h = rw (between_none i l.count h)

  from_passed : (i d : ℕ) → i + d ≤ l.count → NoneLeft s l i (i + d) → segments_from s l i ≡ segments_from s l (i + d)
  from_passed i zero h n = ap (segments_from s l) (omega arith)
  from_passed i (suc d) h n =
      from_passed i d (omega arith) (λ m k g. n m k (omega arith)) ∙ from_right (i + d) (omega arith) (n (i + d) (omega arith) (omega arith)) ∙ ap (segments_from s l) (omega arith)

  -- from the first left halfsegment on
  module _ {i k : ℕ} (n : NextLeft s l i k) where
    next_same : segments_from s l i ≡ segments_from s l k
    next_same =
        let e : i + (k - i) ≡ k = omega (arith, n.onwards) in
        from_passed i (k - i) (omega (arith, n.within)) (subst (NoneLeft s l i) (sym e) n.passed) ∙ ap (segments_from s l) e

-- ---- merging

merge_none : (F : List Segment) → merge F [] ≡ F
merge_none [] = refl
merge_none (f ∷ F) = refl

module _ (s : List ℕ) (f g : Layout) {i j a b : ℕ} where
  merged_next : Nexts s f g i j a b → merged_from s f g i j ≡ merged_from s f g a b
  merged_next n = ap₂ merge (next_same s f n.of_f_lem) (next_same s g n.of_g_lem)

  taken : Nexts s f g i j a b → {t : Segment} → T (segment_in_range t) → {k m : ℕ} → a + b < k + m → merged_from s f g a b ≡ t ∷ merged_from s f g k m → NextIs s f g i j t k m
  taken n r h e = record {
    merged = merged_next n ∙ e;
    in_range_lem = r;
    further = omega (arith, n.of_f_lem.onwards, n.of_g_lem.onwards);
  }

  -- the lists from there on, by their heads
  module _ (n : Nexts s f g i j a b) where
    first_f : a < f.count → segments_from s f a ≡ (half s f a).segment ∷ segments_from s f (a + 1)
    first_f h = from_left s f a h (n.of_f_lem.there h)

    first_g : b < g.count → segments_from s g b ≡ (half s g b).segment ∷ segments_from s g (b + 1)
    first_g k = from_left s g b k (n.of_g_lem.there k)

  module _ {t : Segment} (r : T (segment_in_range t)) where
    pub list_f : NextOfF s f g i j a b → t ≡ (half s f a).segment → NextIs s f g i j t (a + 1) b
    list_f n e = taken n.nexts r (omega arith) (go (dec_lt b g.count) ∙ ap (λ (t : Segment). t ∷ merged_from s f g (a + 1) b) (sym e))
      where
        go : Dec (b < g.count) → merged_from s f g a b ≡ (half s f a).segment ∷ merged_from s f g (a + 1) b
        go (yes k) =
            ap₂ merge (first_f n.nexts n.there) (first_g n.nexts k)
            ∙ rw ((n.compared k).0, (n.compared k).1) (ap (λ (G : List Segment). (half s f a).segment ∷ merge (segments_from s f (a + 1)) G) (sym (first_g n.nexts k)))
        go (no k) =
            let none = from_none s g b (omega arith) in
            ap₂ merge (first_f n.nexts n.there) none
            ∙ ap (λ (F : List Segment). (half s f a).segment ∷ F) (sym (merge_none (segments_from s f (a + 1))) ∙ ap (merge (segments_from s f (a + 1))) (sym none))

    pub list_g : NextOfG s f g i j a b → t ≡ (half s g b).segment → NextIs s f g i j t a (b + 1)
    list_g n e = taken n.nexts r (omega arith) (go (dec_lt a f.count) ∙ ap (λ (t : Segment). t ∷ merged_from s f g a (b + 1)) (sym e))
      where
        go : Dec (a < f.count) → merged_from s f g a b ≡ (half s g b).segment ∷ merged_from s f g a (b + 1)
        go (yes k) =
            ap₂ merge (first_f n.nexts k) (first_g n.nexts n.there)
            ∙ rw ((n.compared k).0, (n.compared k).1) (ap (λ (F : List Segment). (half s g b).segment ∷ merge F (segments_from s g (b + 1))) (sym (first_f n.nexts k)))
        go (no k) =
            let none = from_none s f a (omega arith) in
            ap₂ merge none (first_g n.nexts n.there)
            ∙ ap (λ (F : List Segment). (half s g b).segment ∷ merge F (segments_from s g (b + 1))) (sym none)

    pub list_both : NextOfBoth s f g i j a b → t ≡ (half s f a).segment → NextIs s f g i j t (a + 1) (b + 1)
    list_both n e =
        taken n.nexts r (omega arith)
        (ap₂ merge (first_f n.nexts n.there_f) (first_g n.nexts n.there_g) ∙ rw n.compared (ap (λ (t : Segment). t ∷ merged_from s f g (a + 1) (b + 1)) (sym e)))

pub list_end : (s : List ℕ) (f g : Layout) {i j : ℕ} → Nexts s f g i j f.count g.count → merged_from s f g i j ≡ []
list_end s f g n = merged_next s f g n ∙ ap₂ merge (from_none s f f.count (omega arith)) (from_none s g g.count (omega arith))

-- what comes next, with its own segment
good : (s : List ℕ) (l : Layout) (k : ℕ) → IsObject s l → k < l.count → left_test s l k ≡ true → T (segment_in_range (half s l k).segment)
good s l k is h e = (half_good s l is k h (true_is (has_segments l.shape) (left_has s l k e))).in_range_lem

module _ (s : List ℕ) (f g : Layout) {i j a b : ℕ} where
  pub next_f : IsObject s f → NextOfF s f g i j a b → NextIs s f g i j (half s f a).segment (a + 1) b
  next_f is n = list_f s f g (good s f a is n.there (n.nexts.of_f_lem.there n.there)) n refl

  pub next_g : IsObject s g → NextOfG s f g i j a b → NextIs s f g i j (half s g b).segment a (b + 1)
  next_g is n = list_g s f g (good s g b is n.there (n.nexts.of_g_lem.there n.there)) n refl

  pub next_both : IsObject s f → NextOfBoth s f g i j a b → NextIs s f g i j (half s f a).segment (a + 1) (b + 1)
  next_both is n = list_both s f g (good s f a is n.there_f (n.nexts.of_f_lem.there n.there_f)) n refl
