-- A key in a row that rises by a total order: where a search finds one that ties with it, it stays out, and else it goes between those below and those above.
use Prim.Native.Nat.{ℕ, zero, suc, ◌+◌, ◌-◌, ◌≤◌, ◌<◌}
use native.Mathlib.Nat.{not-suc-le-zero, le_of_suc-le-suc, eq-or-lt_of_le}
use native.Mathlib.Omega.{arith}
use mathlib.Core.Path.{◌≡◌, refl, sym, ap, subst, ◌∙◌}
use mathlib.Core.Logic.{◌⊎◌, inl, inr}
use mathlib.Core.Bool.{false}
use mathlib.Core.List.{List, [], ◌∷◌}
use lib.Dec.{T}
use lib.ListN.{length, get_or}
use Rattle.std.specs.Prelude.{Result, Ok, Err}
use Rattle.std.specs.declared.cmp.Ordering.{Ordering}
use Rattle.std.specs.declared.cmp.Ordering.TheVariants.{Less, Equal, Greater}
use Rattle.std.specs.Ordering.{is_lt, ordering_reverse}
use Rattle.std.specs.Cmp.{IsTotalOrder}
use Rattle.std.specs.List.{insert as put_at, AllWithin, HoldsAt}
use Rattle.std.specs.List.Sorted.{IsSortedBy, IsSearchInRange, IsBinarySearchResult}
use Rattle.std.specs.Result.{MatchResult}
use Rattle.std.proofs.lemmas.Cmp.{alike_right}
use Rattle.std.proofs.lemmas.List.{get_or_default}
use Rattle.std.proofs.lemmas.List.Sorted.{searchable_from_sorted}
use Rattle.whole.proofs.Logic.{in_at, Sorted, sorted_nil, sorted_cons}
use Rattle.scene_written.specs.Arranged.{insert}
use Rattle.scene_written.proofs.Arranging.{insert_sorted}
use Rattle.scene_written.proofs.Judged.{sorted_at}
use Rattle.wkb_rows.specs.Rows.{is_below, GoesTo}

module _ {K : Type 0} {cmp : K → K → Ordering} (o : IsTotalOrder cmp) where
  abbrev pub less : K → K → Type 0
  less a b = T (is_below cmp a b)

  -- an answer by its test
  read : (r : Ordering) → T (is_lt r) → r ≡ Less
  read Less t = refl
  read Equal t = absurd t
  read Greater t = absurd t

  pub below_is : {a b : K} → less a b → cmp a b ≡ Less
  below_is {a} {b} t = read (cmp a b) t

  is_below_lem : {a b : K} → cmp a b ≡ Less → less a b
  is_below_lem e = subst (λ r. T (is_lt r)) (sym e) tt

  pub trans : (a b c : K) → less a b → less b c → less a c
  trans a b c h k = is_below_lem (o.trans a b c (below_is h) (below_is k))

  turned : (a b : K) (r : Ordering) → cmp b a ≡ r → cmp a b ≡ ordering_reverse r
  turned a b r e = o.antisymm a b ∙ ap ordering_reverse e

  -- one in its place, step by step
  goes_first : (a b : K) (l : List K) → cmp b a ≡ Greater → insert (is_below cmp) a (b ∷ l) ≡ a ∷ b ∷ l
  goes_first a b l e = rw (turned a b Greater e)

  stays_out : (a b : K) (l : List K) → cmp b a ≡ Equal → insert (is_below cmp) a (b ∷ l) ≡ b ∷ l
  stays_out a b l e = rw (turned a b Equal e, e)

  goes_on : (a b : K) (l : List K) → cmp b a ≡ Less → insert (is_below cmp) a (b ∷ l) ≡ b ∷ insert (is_below cmp) a l
  goes_on a b l e = rw (turned a b Less e, e)

  pub parted : (a : K) (l : List K) (k : ℕ) → k ≤ length l → AllWithin (λ b. cmp b a ≡ Less) l 0 k → AllWithin (λ b. cmp b a ≡ Greater) l k (length l) → insert (is_below cmp) a l ≡ put_at l k a
  parted a [] zero h below above = refl
  parted a [] (suc k) h below above = absurd (omega arith)
  parted a (b ∷ l) zero h below above = goes_first a b l (above 0 b (omega arith) (omega arith))
  parted a (b ∷ l) (suc k) h below above =
      goes_on a b l (below 0 b (omega arith) (omega arith))
      ∙ ap (λ (r : List K). b ∷ r) (parted a l k (omega arith) (λ j d _ g. below (suc j) d (omega arith) (omega arith)) (λ j d f g. above (suc j) d (omega arith) (omega arith)))

  -- beside one that ties with it
  pub tied : (a : K) {l : List K} → Sorted less l → (k : ℕ) → k < length l → HoldsAt (λ b. cmp b a ≡ Equal) l k → insert (is_below cmp) a l ≡ l
  tied a sorted_nil k h e = absurd (not-suc-le-zero h)
  tied a (sorted_cons {a = b} {l = l} first rest) zero h e = stays_out a b l (e b)
  tied a (sorted_cons {a = b} {l = l} first rest) (suc k) h e =
      goes_on a b l (sym (alike_right o (get_or l k b) a b (e b)) ∙ below_is (first (get_or l k b) (in_at l b k (le_of_suc-le-suc h))))
      ∙ ap (λ (r : List K). b ∷ r) (tied a rest k (le_of_suc-le-suc h) (λ d. e d))

  -- the row still rises
  pub still_rises : (a : K) {l : List K} → Sorted less l → Sorted less (insert (is_below cmp) a l)
  still_rises a s = insert_sorted (is_below cmp) (λ b. Unit {0}) (λ b c d _ _ _. trans b c d) a tt (λ b m. tt) s

  -- as a search by halving asks it
  later_is_above : (r : Ordering) → r ≡ Less → is_lt (ordering_reverse r) ≡ false
  later_is_above r e = ap (λ q. is_lt (ordering_reverse q)) e

  pub sorted_by : {l : List K} → Sorted less l → IsSortedBy (is_below cmp) l
  sorted_by {l} s k d _ h =
      let a = get_or l k d in
      let b = get_or l (k + 1) d in
      ap is_lt (o.antisymm b a) ∙ later_is_above (cmp a b) (below_is (sorted_at s d k (k + 1) (omega arith) h))

  -- above the last, a key goes to the end
  pub at_end : (a : K) {l : List K} → Sorted less l → (d : K) → 0 < length l → cmp (get_or l (length l - 1) d) a ≡ Less → insert (is_below cmp) a l ≡ put_at l (length l) a
  at_end a {l} s d h e = parted a l (length l) (omega arith) (λ k x _ g. below k x (eq-or-lt_of_le (upto k g))) (λ k x f g. absurd (never k f g))
    where
      never : (k : ℕ) → length l ≤ k → k < length l → ⊥
      never k f g = omega arith

      upto : (k : ℕ) → k < length l → k ≤ length l - 1
      upto k g = omega arith

      at_last : (x : K) → cmp (get_or l (length l - 1) x) a ≡ Less
      at_last x = subst (λ (b : K). cmp b a ≡ Less) (get_or_default l (length l - 1) d x (omega arith)) e

      below : (k : ℕ) (x : K) → (k ≡ length l - 1) ⊎ (k < length l - 1) → cmp (get_or l k x) a ≡ Less
      below k x (inl f) = subst (λ (j : ℕ). cmp (get_or l j x) a ≡ Less) (sym f) (at_last x)
      below k x (inr g) = o.trans (get_or l k x) (get_or l (length l - 1) x) a (below_is (sorted_at s x k (length l - 1) g (omega arith))) (at_last x)

  -- what a search by halving finds
  pub searched : (a : K) {l : List K} → Sorted less l → (r : Result ℕ ℕ) → IsSearchInRange r (length l) → IsBinarySearchResult (λ b. cmp b a) l r
      → MatchResult r (λ _. insert (is_below cmp) a l ≡ l) (GoesTo cmp a l)
  searched a s (Ok k) h e = tied a s k h e
  searched a {l} s (Err k) h e = let p = e (searchable_from_sorted o (λ b. b) l a (sorted_by s)) in (h, parted a l k h p.0 p.1)
