-- What counts of the segments in a row from an index on.
use Prim.Native.Nat.{ℕ, zero, suc, ◌+◌, ◌≤◌, ◌<◌}
use native.Mathlib.Numerals.{add-one}
use native.Mathlib.Omega.{arith}
use mathlib.Core.Path.{◌≡◌, sym, ap, ◌∙◌, subst}
use mathlib.Core.Logic.{⊎_elim}
use mathlib.Core.Bool.{false}
use mathlib.Core.List.{List, ◌∷◌, map}
use lib.Dec.{T}
use lib.ListN.{length, take, drop, get_or, take-append-drop}
use lib.Seq.{drop-cons}
use Rattle.whole.specs.Count.{◌∈◌, bit, count}
use Rattle.whole.proofs.Logic.{in_cons, in_right, map_in, Sorted, sorted_nil, sorted_cons}
use Rattle.whole.proofs.Counted.{count_none}
use Rattle.plane.specs.declared.Segment.{Segment}
use Rattle.plane.specs.Plane.{segment_in_range}
use Rattle.scene_segments.specs.Walked.{is_below}
use Rattle.scene_keys.specs.declared.Ends.{Ends}
use Rattle.scene_keys.specs.Keyed.{room, keyed_segment}
use Rattle.scene_writing.specs.Rows.{AreGood}
use Rattle.wkb_rows.specs.Rows.{Rises, ends_cmp}
use Rattle.wkb_rows.proofs.Keyed.{ends_left}
use Rattle.wkb_interiors.specs.Interiors.{column_of}
use Rattle.wkb_interiors.proofs.Columns.{not_reached}

sorted_later : {A : Type 0} {R : A → A → Type 0} {l : List A} → Sorted R l → (k : ℕ) → Sorted R (drop k l)
sorted_later s zero = s
sorted_later sorted_nil (suc k) = sorted_nil
sorted_later (sorted_cons first rest) (suc k) = sorted_later rest k

after_first : {A : Type 0} {R : A → A → Type 0} {a : A} {l : List A} → Sorted R (a ∷ l) → (b : A) → b ∈ l → R a b
after_first (sorted_cons first rest) = first

module _ {row : List Ends} (good : AreGood row) (rises : Rises ends_cmp row) (t : Segment) (h : T (segment_in_range t)) (d : Ends) (i : ℕ) (within : i < length row) where
  abbrev it : Ends
  it = get_or row i d

  apart : drop i row ≡ it ∷ drop (suc i) row
  apart = drop-cons row i d within

  -- where one begins beyond the column of t, it does not count, and so does none after it
  pub none_later : column_of t + room ≤ it.left → count (is_below t) (map keyed_segment (drop i row)) ≡ 0
  none_later k =
      count_none (is_below t) (map keyed_segment (drop i row))
      (λ b m. let w = map_in keyed_segment (drop i row) m in subst (λ u. is_below t u ≡ false) w.2 (apiece w.0 w.1))
    where
      from_it : (e : Ends) → e ∈ drop i row → it.left ≤ e.left
      from_it e m = ⊎_elim (λ q. same q) (λ n. ends_left it e (after_first (subst (Rises ends_cmp) apart (sorted_later rises i)) e n)) (in_cons (subst (λ (r : List Ends). e ∈ r) apart m))
        where
          same : e ≡ it → it.left ≤ e.left
          same q = let p : e.left ≡ it.left = ap (λ (x : Ends). x.left) q in omega arith

      apiece : (e : Ends) → e ∈ drop i row → is_below t (keyed_segment e) ≡ false
      apiece e m =
          let more : column_of t + room ≤ e.left = omega (arith, k, from_it e m) in
          not_reached e (good e (subst (λ (r : List Ends). e ∈ r) (take-append-drop i row) (in_right (take i row) m))) t h more

  -- one more
  pub next : count (is_below t) (map keyed_segment (drop i row)) ≡ bit (is_below t (keyed_segment it)) + count (is_below t) (map keyed_segment (drop (i + 1) row))
  next =
      ap (λ (r : List Ends). count (is_below t) (map keyed_segment r)) apart
      ∙ ap (λ (j : ℕ). bit (is_below t (keyed_segment it)) + count (is_below t) (map keyed_segment (drop j row))) (sym (add-one i))
