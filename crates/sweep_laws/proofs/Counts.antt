-- How often a test holds of the strands of an object, counted over its elements, and of its segments.
use Prim.Native.Nat.{ℕ, zero, suc, ◌+◌, ◌<◌, ◌≤◌}
use native.Mathlib.Nat.{add-zero, le_of_suc-le-suc, eq-or-lt_of_le}
use native.Mathlib.Omega.{arith}
use mathlib.Core.Path.{◌≡◌, refl, sym, ap, ap₂, ◌∙◌, subst}
use mathlib.Core.Logic.{⊎_elim}
use mathlib.Core.Bool.{Bool, true, false, ◌&&◌, cond, beq}
use mathlib.Core.List.{List, [], ◌∷◌, map}
use Rattle.whole.specs.Count.{◌∈◌, bit, count}
use Rattle.whole.proofs.Logic.{beq_same, in_map}
use Rattle.plane.specs.declared.Segment.{Segment}
use Rattle.scene.specs.declared.Scene.{Scene}
use Rattle.scene.specs.Conditions.{indices, elements, keep, has_segments, left_test, half, segments}
use Rattle.sweep_laws.specs.Kept.{Strand}
use Rattle.sweep_laws.specs.Swept.{object_of, is_beginning, strands_by, total}
use Rattle.whole.proofs.Counted.{count_append, count_none, count_same}
use Rattle.scene_segments.proofs.Indices.{element_in, in_keep}
use Rattle.sweep_laws.proofs.Objects.{has}
use Rattle.sweep_laws.proofs.Begun.{strand_by, find_by, reached, strands}

-- the last index
indices_last : (f : ℕ → Bool) (n i : ℕ) → count f (indices (suc n) i) ≡ count f (indices n i) + bit (f (i + n))
indices_last f zero i = subst (λ (m : ℕ). bit (f i) + 0 ≡ 0 + bit (f m)) (sym (add-zero i)) (omega arith)
indices_last f (suc n) i =
    subst (λ (m : ℕ). bit (f i) + count f (indices (suc n) (suc i)) ≡ bit (f i) + count f (indices n (suc i)) + bit (f m)) shift (omega (arith, indices_last f n (suc i)))
  where
    shift : suc i + n ≡ i + suc n
    shift = omega arith

keep_count : {A : Type 0} (f : A → Bool) (g : ℕ → A) (p : ℕ → Bool) (is : List ℕ) → count f (map g (keep p is)) ≡ count (λ i. p i && f (g i)) is
keep_count f g p [] = refl
keep_count f g p (i ∷ is) = go (p i) (keep_count f g p is)
  where
    go : (b : Bool) → count f (map g (keep p is)) ≡ count (λ i. p i && f (g i)) is
        → count f (map g (cond b (i ∷ keep p is) (keep p is))) ≡ bit (b && f (g i)) + count (λ i. p i && f (g i)) is
    go true e = omega (arith, e)
    go false e = omega (arith, e)

module _ (s : List ℕ) (sc : Scene) where
  -- over the elements that begin, or that end, a strand
  pub count_by : (g : Strand → Bool) (begins first : Bool) (n : ℕ)
      → count g (strands_by s sc begins first n) ≡ count (λ i. beq (is_beginning s sc first i) begins && g (strand_by s sc first i)) (indices n 0)
  count_by g begins first zero = refl
  count_by g begins first (suc n) = go (beq (is_beginning s sc first n) begins) refl (count_by g begins first n)
    where
      test : ℕ → Bool
      test i = beq (is_beginning s sc first i) begins && g (strand_by s sc first i)

      last : count test (indices (suc n) 0) ≡ count test (indices n 0) + bit (test n)
      last = subst (λ (m : ℕ). count test (indices (suc n) 0) ≡ count test (indices n 0) + bit (test m)) zero_plus (indices_last test n 0)
        where
          zero_plus : 0 + n ≡ n
          zero_plus = omega arith

      go : (b : Bool) → beq (is_beginning s sc first n) begins ≡ b → count g (strands_by s sc begins first n) ≡ count test (indices n 0)
          → count g (cond b (strand_by s sc first n ∷ strands_by s sc begins first n) (strands_by s sc begins first n)) ≡ count test (indices (suc n) 0)
      go true q e = omega (arith, e, last, ap (λ b. bit (b && g (strand_by s sc first n))) q)
      go false q e = omega (arith, e, last, ap (λ b. bit (b && g (strand_by s sc first n))) q)

  -- of more elements none of which counts
  pub count_first : (g : Strand → Bool) (begins first : Bool) (m n : ℕ) → m ≤ n
      → ((k : ℕ) → m ≤ k → k < n → is_beginning s sc first k ≡ begins → g (strand_by s sc first k) ≡ false)
      → count g (strands_by s sc begins first n) ≡ count g (strands_by s sc begins first m)
  count_first g begins first m zero h none = let z : 0 ≡ m = omega arith in ap (λ (k : ℕ). count g (strands_by s sc begins first k)) z
  count_first g begins first m (suc n) h none =
      ⊎_elim (λ e. ap (λ (k : ℕ). count g (strands_by s sc begins first k)) (sym e))
      (λ l. go (beq (is_beginning s sc first n) begins) refl (le_of_suc-le-suc l) (count_first g begins first m n (le_of_suc-le-suc l) (λ k a b. none k a (omega arith)))) (eq-or-lt_of_le h)
    where
      go : (b : Bool) → beq (is_beginning s sc first n) begins ≡ b → m ≤ n → count g (strands_by s sc begins first n) ≡ count g (strands_by s sc begins first m)
          → count g (cond b (strand_by s sc first n ∷ strands_by s sc begins first n) (strands_by s sc begins first n)) ≡ count g (strands_by s sc begins first m)
      go true q l e = omega (arith, e, ap bit (none n l (omega arith) (beq_same (is_beginning s sc first n) begins q)))
      go false q l e = e

  -- of the strands of both objects, those of one
  pub count_own : (g : Strand → Bool) (begins first : Bool) (i j : ℕ)
      → count (λ a. beq first a.first && g a) (strands s sc begins i j) ≡ count g (strands_by s sc begins first (reached s sc i j first))
  count_own g begins true i j =
      omega (
        arith,
        count_append (λ (a : Strand). beq true a.first && g a) (strands_by s sc begins true i) (strands_by s sc begins false j),
        count_same (λ (a : Strand). beq true a.first && g a) g (strands_by s sc begins true i) (λ a m. ap (λ (b : Strand). beq true b.first && g a) (find_by s sc begins true i a m).is),
        count_none (λ (a : Strand). beq true a.first && g a) (strands_by s sc begins false j) (λ a m. ap (λ (b : Strand). beq true b.first && g a) (find_by s sc begins false j a m).is),
      )
  count_own g begins false i j =
      omega (
        arith,
        count_append (λ (a : Strand). beq false a.first && g a) (strands_by s sc begins true i) (strands_by s sc begins false j),
        count_none (λ (a : Strand). beq false a.first && g a) (strands_by s sc begins true i) (λ a m. ap (λ (b : Strand). beq false b.first && g a) (find_by s sc begins true i a m).is),
        count_same (λ (a : Strand). beq false a.first && g a) g (strands_by s sc begins false j) (λ a m. ap (λ (b : Strand). beq false b.first && g a) (find_by s sc begins false j a m).is),
      )

  -- the segments of an object are those that its elements begin
  pub count_segments : (f : Segment → Bool) (first : Bool) → has_segments (object_of s sc first).shape ≡ true
      → count f (segments s (object_of s sc first)) ≡ count (λ (a : Strand). f a.segment) (strands_by s sc true first (object_of s sc first).count)
  unfolding segments
  count_segments f first e =
      keep_count f (λ i. (half s (object_of s sc first) i).segment) (left_test s (object_of s sc first)) (elements (object_of s sc first))
      ∙ count_same (λ i. left_test s (object_of s sc first) i && f (half s (object_of s sc first) i).segment) (λ i. beq (is_beginning s sc first i) true && f (strand_by s sc first i).segment) (elements (object_of s sc first))
      (λ i m. ap (λ b. b && f (half s (object_of s sc first) i).segment) (ap (λ b. b && is_beginning s sc first i) e ∙ sym (beq_true (is_beginning s sc first i))))
      ∙ sym (count_by (λ (a : Strand). f a.segment) true first (object_of s sc first).count)
    where
      beq_true : (b : Bool) → beq b true ≡ b
      beq_true true = refl
      beq_true false = refl

  pub in_segments : (first : Bool) (k : ℕ) → k < total s sc first → is_beginning s sc first k ≡ true → (strand_by s sc first k).segment ∈ segments s (object_of s sc first)
  unfolding segments
  in_segments first k h e =
      in_map (λ i. (half s (object_of s sc first) i).segment)
      (in_keep (left_test s (object_of s sc first)) (element_in (object_of s sc first) k (has s sc first k h).1) (ap₂ ◌&&◌ (has s sc first k h).0 e))
