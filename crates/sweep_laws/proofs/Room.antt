-- There is room for each segment that begins: of an object's elements, no more begin a segment than end one, so no more than half of them.
use Prim.Native.Nat.{ℕ, zero, suc, ◌+◌, ◌<◌, ◌≤◌}
use native.Mathlib.Nat.{le_refl, le_of_suc-le-suc, eq-or-lt_of_le}
use native.Mathlib.Omega.{arith}
use mathlib.Core.Path.{◌≡◌, refl, sym, ap, ◌∙◌, subst}
use mathlib.Core.Logic.{⊎_elim}
use mathlib.Core.Bool.{Bool, true, false, not, cond, beq}
use mathlib.Core.List.{List, [], ◌∷◌, map}
use lib.ListN.{length, get_or, length-append, length-take, length-drop}
use Rattle.whole.specs.Count.{◌∈◌, here, there, count}
use Rattle.whole.proofs.Logic.{Sorted, sorted_nil, sorted_cons, in_index, beq_same}
use Rattle.scene.specs.declared.Scene.{Scene}
use Rattle.sweep_laws.specs.Status.{removed}
use Rattle.sweep_laws.specs.Kept.{Strand}
use Rattle.sweep_laws.specs.Swept.{strand_at, is_beginning, strands_by, total}
use Rattle.sweep_laws.proofs.Begun.{strand_by, reached, strands, find_by, make_by}
use Rattle.sweep_laws.proofs.Shifted.{removed_rest}
use Rattle.sweep_laws.proofs.Run.{Orderly, AllEndLater, Run}
use Rattle.sweep_laws.proofs.Complete.{Fair}

-- ---- lists

length-map : {A B : Type 0} (f : A → B) (l : List A) → length (map f l) ≡ length l
length-map f [] = refl
length-map f (a ∷ l) = ap suc (length-map f l)

module _ {A : Type 0} where
  size : (l : List A) → count (λ a. true) l ≡ length l
  size [] = refl
  size (a ∷ l) = omega (arith, size l)

  -- a list without repetition that another contains
  fits : (d : A) (l m : List A) → Sorted (λ a b. a ≡ b → ⊥) l → ((a : A) → a ∈ l → a ∈ m) → length l ≤ length m
  fits d [] m n sub = omega arith
  fits d (a ∷ l) m (sorted_cons first rest) sub = omega (arith, fits d l (removed w.0 m) rest further, shorter)
    where
      w : (i : ℕ) × (i < length m) × (get_or m i d ≡ a)
      w = in_index d (sub a here)

      further : (b : A) → b ∈ l → b ∈ removed w.0 m
      further b k = ⊎_elim (λ e. absurd (first b k (sym (e ∙ w.2)))) (λ h. h) (removed_rest d w.0 m w.1 (sub b (there k)))

      shorter : suc (length (removed w.0 m)) ≡ length m
      shorter = omega (arith, length-append (lib.ListN.take w.0 m) (lib.ListN.drop (suc w.0) m), length-take w.0 m, length-drop (suc w.0) m, w.1)

module _ (s : List ℕ) (sc : Scene) where
  -- each element begins a strand or ends one
  begin_or_end : (first : Bool) (n : ℕ) → length (strands_by s sc true first n) + length (strands_by s sc false first n) ≡ n
  begin_or_end first zero = refl
  begin_or_end first (suc n) = go (is_beginning s sc first n) (begin_or_end first n)
    where
      go : (b : Bool) → length (strands_by s sc true first n) + length (strands_by s sc false first n) ≡ n
          → length (cond (beq b true) (strand_by s sc first n ∷ strands_by s sc true first n) (strands_by s sc true first n))
          + length (cond (beq b false) (strand_by s sc first n ∷ strands_by s sc false first n) (strands_by s sc false first n)) ≡ suc n
      go true e = omega arith
      go false e = omega arith

  more_begun : (first : Bool) (m n : ℕ) → m ≤ n → length (strands_by s sc true first m) ≤ length (strands_by s sc true first n)
  more_begun first m zero h = let e : m ≡ 0 = omega arith in subst (λ (k : ℕ). length (strands_by s sc true first k) ≤ 0) (sym e) (omega arith)
  more_begun first m (suc n) h =
      ⊎_elim (λ e. subst (λ (k : ℕ). length (strands_by s sc true first m) ≤ length (strands_by s sc true first k)) e (le_refl (length (strands_by s sc true first m))))
      (λ l. go (beq (is_beginning s sc first n) true) (more_begun first m n (le_of_suc-le-suc l))) (eq-or-lt_of_le h)
    where
      go : (b : Bool) → length (strands_by s sc true first m) ≤ length (strands_by s sc true first n)
          → length (strands_by s sc true first m) ≤ length (cond b (strand_by s sc first n ∷ strands_by s sc true first n) (strands_by s sc true first n))
      go true e = omega arith
      go false e = e

  one_more : (first : Bool) (n : ℕ) → is_beginning s sc first n ≡ true → length (strands_by s sc true first (suc n)) ≡ suc (length (strands_by s sc true first n))
  one_more first n e = ap (λ b. length (cond (beq b true) (strand_by s sc first n ∷ strands_by s sc true first n) (strands_by s sc true first n))) e

  module _ (o : Orderly s sc) (fair : Fair s sc) where
    once : (first : Bool) (n : ℕ) → n ≤ total s sc first → Sorted (λ a b. a ≡ b → ⊥) (strands_by s sc true first n)
    once first zero h = sorted_nil
    once first (suc n) h = go (beq (is_beginning s sc first n) true) refl (once first n (omega arith))
      where
        go : (b : Bool) → beq (is_beginning s sc first n) true ≡ b → Sorted (λ a b. a ≡ b → ⊥) (strands_by s sc true first n)
            → Sorted (λ a b. a ≡ b → ⊥) (cond b (strand_by s sc first n ∷ strands_by s sc true first n) (strands_by s sc true first n))
        go true e rest = sorted_cons (λ b m q. let w = find_by s sc true first n b m in o.differ first w.index n w.earlier h w.is_such (beq_same (is_beginning s sc first n) true e) (ap (λ (c : Strand). c.segment) (sym w.is ∙ sym q))) rest
        go false e rest = rest

    half_begin : (first : Bool) → length (strands_by s sc true first (total s sc first)) ≤ 512
    half_begin first = go (total s sc first) refl
      where
        go : (n : ℕ) → n ≡ total s sc first → length (strands_by s sc true first n) ≤ 512
        go zero e = omega arith
        go (suc n) e =
            omega (
              arith,
              begin_or_end first (suc n),
              o.few first,
              fits (strand_by s sc first 0) (strands_by s sc true first (suc n)) (strands_by s sc false first (suc n)) (once first (suc n) (omega arith))
                  (λ a m. let w = find_by s sc true first (suc n) a m in
                  let p = fair.other first w.index (omega (arith, w.earlier)) in
                  subst (λ (b : Strand). b ∈ strands_by s sc false first (suc n)) (p.is ∙ sym w.is) (make_by s sc false first (suc n) p.index (omega (arith, p.there)) (p.other_side ∙ ap not w.is_such))),
            )

    pub room_left : {i j : ℕ} {entries : List ℕ} → Run s sc i j entries → AllEndLater s sc i j entries → ((b : Bool) → reached s sc i j b ≤ total s sc b)
        → (first : Bool) → reached s sc i j first < total s sc first → is_beginning s sc first (reached s sc i j first) ≡ true → length entries < 1024
    room_left {i} {j} {entries} run later within first more begins = omega (arith, active, both, half_begin true, half_begin false)
      where
        active : length entries ≤ length (strands_by s sc true true i) + length (strands_by s sc true false j)
        active =
            omega (
              arith,
              (run.kept later).counts (λ a. true),
              size (strands s sc true i j),
              size (map (strand_at s sc) entries),
              length-append (strands_by s sc true true i) (strands_by s sc true false j),
              length-map (strand_at s sc) entries,
            )

        both : length (strands_by s sc true true i) + length (strands_by s sc true false j) < length (strands_by s sc true true (total s sc true)) + length (strands_by s sc true false (total s sc false))
        both = go first more begins
          where
            go : (b : Bool) → reached s sc i j b < total s sc b → is_beginning s sc b (reached s sc i j b) ≡ true
                → length (strands_by s sc true true i) + length (strands_by s sc true false j) < length (strands_by s sc true true (total s sc true)) + length (strands_by s sc true false (total s sc false))
            go true h e = omega (arith, one_more true i e, more_begun true (suc i) (total s sc true) h, more_begun false j (total s sc false) (within false))
            go false h e = omega (arith, one_more false j e, more_begun false (suc j) (total s sc false) h, more_begun true i (total s sc true) (within true))
