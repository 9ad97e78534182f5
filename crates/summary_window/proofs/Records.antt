-- The bytes of a summary that stands among others: cut out, they are a good summary exactly if they are one where they stand, and they hold the same.
use Rattle.std.proofs.Common.{◌≡◌, ℕ, ◌+◌, ◌*◌, ◌-◌, ◌≤◌, ◌<◌, true, ◌&&◌, List, ◌++◌, length, drop, min, ◌≢◌, ◌⊎◌, inl, inr, length-drop, refl, sym, ap, ap₂, ◌∙◌, eqb, arith}
use Rattle.std.proofs.Math.ListN.{get_or-append}
use Rattle.std.proofs.Math.Seq.{drop-append_seam}
use Rattle.std.proofs.lemmas.List.{get_or-drop, drop-drop}
use borrow.Author.Tests.{eqb-true, eq-eqb, ne_eqb, le-leb, lt-leb}
use Rattle.whole.proofs.Logic.{and_left, is_true, true_is, less_or_not}
use Rattle.scene.specs.Read.{byte, word, coordinate}
use Rattle.scene.specs.Read as Read
use Rattle.summary.specs.Summary.{size, summary_at, is_good, good_at, good_bytes}
use Rattle.summary_window.specs.Window.{good_from, good_one}

-- ---- the same 20 bytes, at 0 in one string and at an offset in another
module _ (x s : List ℕ) (at : ℕ) (same : (i : ℕ) → i < 20 → byte x i ≡ byte s (at + i)) where
  byte_same : (i j : ℕ) → i < 20 → j ≡ at + i → byte x i ≡ byte s j
  byte_same i j h e = same i h ∙ ap (byte s) (sym e)

  coordinate_same : (i j : ℕ) → i + 4 ≤ 20 → j ≡ at + i → coordinate x i ≡ coordinate s j
  unfolding coordinate
  coordinate_same i j h e =
      let a = byte_same i j (omega arith) e in
      let b = byte_same (i + 1) (j + 1) (omega arith) (omega arith) in
      let c = byte_same (i + 2) (j + 2) (omega arith) (omega arith) in
      let d = byte_same (i + 3) (j + 3) (omega arith) (omega arith) in
      rw (a, b, c, d)

  pub summary_same : summary_at x 0 ≡ summary_at s at
  summary_same = λ i. record {
    shape = Read.shape_of (byte_same 1 (at + 1) (omega arith) refl i);
    empty = eqb (byte_same 2 (at + 2) (omega arith) refl i) 1;
    bounds = record {
      least = record {
        x = coordinate_same 3 (at + 2 + 1) (omega arith) (omega arith) i;
        y = coordinate_same 7 (at + 2 + 1 + 4) (omega arith) (omega arith) i;
      };
      greatest = record {
        x = coordinate_same 11 (at + 10 + 1) (omega arith) (omega arith) i;
        y = coordinate_same 15 (at + 10 + 1 + 4) (omega arith) (omega arith) i;
      };
    };
    boundary = eqb (byte_same 19 (at + 19) (omega arith) refl i) 1;
  }

  pub good_same : good_at x 0 ≡ good_at s at
  unfolding good_at
  good_same =
      let a = byte_same 0 at (omega arith) (omega arith) in
      let b = byte_same 1 (at + 1) (omega arith) refl in
      let c = byte_same 2 (at + 2) (omega arith) refl in
      let d = byte_same 19 (at + 19) (omega arith) refl in
      ap₂ ◌&&◌ (rw (a, b, c, d)) (ap is_good summary_same)

-- ---- the next at most 20 bytes of what stands from summary k on
module _ (s x rest : List ℕ) (k : ℕ) (is : drop (20 * k) s ≡ x ++ rest) (long : length x ≡ min 20 (length (drop (20 * k) s))) where
  read : (i : ℕ) → i < length x → byte x i ≡ byte s (20 * k + i)
  read i h = sym (get_or-append x rest 0 i h) ∙ ap (λ (l : List ℕ). byte l i) (sym is) ∙ get_or-drop (20 * k) s i 0

  left : length x ≡ min 20 (length s - 20 * k)
  left = long ∙ ap (min 20) (length-drop (20 * k) s)

  pub good_is : good_bytes x ≡ good_one s k
  unfolding good_bytes good_from
  good_is = go (less_or_not (length s) (20 * k + 20))
    where
      go : (length s < 20 * k + 20) ⊎ (20 * k + 20 ≤ length s) → good_bytes x ≡ good_one s k
      go (inl h) = let a : length x ≢ 20 = omega (arith, left) in rw (ne_eqb (length x) size a, lt-leb (20 * k + size) (length s) h)
      go (inr h) =
          let a : length x ≡ 20 = omega (arith, left) in
          rw (eq-eqb (length x) size a, le-leb (20 * k + size) (length s) h) (good_same x s (20 * k) (λ i l. read i (omega (arith, a))))

  module _ (e : good_bytes x ≡ true) where
    whole : length x ≡ 20
    unfolding good_bytes
    whole = eqb-true (length x) size (true_is _ (and_left (eqb (length x) size) (good_at x 0) (is_true _ e)))

    pub holds : summary_at x 0 ≡ summary_at s (20 * k)
    holds = summary_same x s (20 * k) (λ i l. read i (omega (arith, whole)))

    pub within : 20 * (k + 1) ≤ length s
    within = omega (arith, whole, left)

    pub next : rest ≡ drop (20 * (k + 1)) s
    next =
        let n : 20 * (k + 1) ≡ 20 * k + length x = omega (arith, whole) in
        sym (drop-append_seam x rest) ∙ ap (drop (length x)) (sym is) ∙ drop-drop (length x) (20 * k) s ∙ ap (λ (n : ℕ). drop n s) (sym n)
