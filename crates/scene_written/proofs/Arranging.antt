-- Elements inserted one by one are in strict order, and are those that were inserted; and so are the halfsegments of segments that share only
-- common ends.
use Prim.Native.Nat.{suc, ◌*◌, ◌≤◌}
use native.Mathlib.Omega.{arith}
use mathlib.Core.Path.{◌≡◌, refl, sym, ap, subst, ◌∙◌}
use mathlib.Core.Logic.{◌⊎◌, inl, inr, ⊎_elim}
use mathlib.Core.Bool.{Bool, true, false, cond, true≢false}
use mathlib.Core.List.{List, [], ◌∷◌}
use lib.ListN.{length}
use lib.Dec.{T}
use Rattle.whole.specs.Count.{◌∈◌, here, there}
use Rattle.whole.proofs.Logic.{is_true, true_is, in_nil, in_cons, Sorted, sorted_nil, sorted_cons}
use Rattle.plane.specs.declared.Point.{Point}
use Rattle.plane.specs.declared.Segment.{Segment}
use Rattle.plane.specs.declared.Halfsegment.{Halfsegment}
use Rattle.plane.specs.Plane.{before, ordered, comes_before}
use Rattle.plane.proofs.OnSegment.{ordered_read}
use Rattle.plane.proofs.Accepted.{Across, AllOrdered}
use Rattle.plane.proofs.Order.{half_of, before_trans, comes_trans}
use Rattle.scene_written.specs.Arranged.{insert, arrange, halves_of, point_items, line_items}
use Rattle.scene_written.proofs.Compared.{Compared, first, second, equal, compare_halves}

module _ {A : Type 0} (less : A → A → Bool) where
  -- ---- what is inserted

  -- the choice at the first element
  abbrev pub placed : Bool → Bool → A → A → List A → List A → List A
  placed x y a b l more = cond x (a ∷ b ∷ l) (cond y (b ∷ more) (b ∷ l))

  pub insert_members : (a : A) (l : List A) {c : A} → c ∈ insert less a l → (c ≡ a) ⊎ (c ∈ l)
  insert_members a [] m = in_cons m
  insert_members a (b ∷ l) {c} m = go (less a b) (less b a) m (insert_members a l)
    where
      go : (x y : Bool) → c ∈ placed x y a b l (insert less a l) → (c ∈ insert less a l → (c ≡ a) ⊎ (c ∈ l)) → (c ≡ a) ⊎ (c ∈ (b ∷ l))
      go true y m later = in_cons m
      go false true m later = ⊎_elim (λ e. inr (subst (λ (x : A). x ∈ (b ∷ l)) (sym e) here)) (λ k. ⊎_elim inl (λ n. inr (there n)) (later k)) (in_cons m)
      go false false m later = inr m

  pub insert_keeps : (a : A) (l : List A) {c : A} → c ∈ l → c ∈ insert less a l
  insert_keeps a [] m = absurd (in_nil m)
  insert_keeps a (b ∷ l) {c} m = go (less a b) (less b a) (insert_keeps a l)
    where
      go : (x y : Bool) → (c ∈ l → c ∈ insert less a l) → c ∈ placed x y a b l (insert less a l)
      go true y later = there m
      go false true later = ⊎_elim (λ e. subst (λ (x : A). x ∈ (b ∷ insert less a l)) (sym e) here) (λ k. there (later k)) (in_cons m)
      go false false later = m

  -- the new one is in, where it can be compared with all
  pub insert_new : (a : A) (l : List A) → ((b : A) → b ∈ l → Compared less a b) → a ∈ insert less a l
  insert_new a [] total = here
  insert_new a (b ∷ l) total = go (less a b) (less b a) refl refl (total b here) (insert_new a l (λ c m. total c (there m)))
    where
      go : (x y : Bool) → less a b ≡ x → less b a ≡ y → Compared less a b → a ∈ insert less a l → a ∈ placed x y a b l (insert less a l)
      go true y p q c later = here
      go false true p q c later = there later
      go false false p q (first t) later = absurd (true≢false (sym (true_is (less a b) t) ∙ p))
      go false false p q (second t) later = absurd (true≢false (sym (true_is (less b a) t) ∙ q))
      go false false p q (equal e) later = subst (λ (x : A). x ∈ (b ∷ l)) (sym e) here

  pub insert_length : (a : A) (l : List A) → length (insert less a l) ≤ suc (length l)
  insert_length a [] = omega arith
  insert_length a (b ∷ l) = go (less a b) (less b a) (insert_length a l)
    where
      go : (x y : Bool) → length (insert less a l) ≤ suc (length l) → length (placed x y a b l (insert less a l)) ≤ suc (suc (length l))
      go true y h = omega arith
      go false true h = omega arith
      go false false h = omega arith

  pub arrange_members : (l : List A) {c : A} → c ∈ arrange less l → c ∈ l
  arrange_members [] m = m
  arrange_members (a ∷ l) {c} m =
      ⊎_elim (λ e. subst (λ (x : A). x ∈ (a ∷ l)) (sym e) here) (λ k. there (arrange_members l k)) (insert_members a (arrange less l) m)

  pub arrange_length : (l : List A) → length (arrange less l) ≤ length l
  arrange_length [] = omega arith
  arrange_length (a ∷ l) = let h = arrange_length l in omega (arith, insert_length a (arrange less l))

  -- any two of them can be compared
  abbrev pub AllCompared : List A → Type 0
  AllCompared l = (a b : A) → a ∈ l → b ∈ l → Compared less a b

  pub arrange_keeps : (l : List A) → AllCompared l → {c : A} → c ∈ l → c ∈ arrange less l
  arrange_keeps [] total m = absurd (in_nil m)
  arrange_keeps (a ∷ l) total {c} m =
      ⊎_elim
      (λ e. subst (λ (x : A). x ∈ insert less a (arrange less l)) (sym e) (insert_new a (arrange less l) (λ b k. total a b here (there (arrange_members l k)))))
      (λ k. insert_keeps a (arrange less l) (arrange_keeps l (λ b d p q. total b d (there p) (there q)) k)) (in_cons m)

  -- ---- strict order

  module _ (P : A → Type 0) (trans : (a b c : A) → P a → P b → P c → T (less a b) → T (less b c) → T (less a c)) where
    pub insert_sorted : (a : A) {l : List A} → P a → ((b : A) → b ∈ l → P b) → Sorted (λ b c. T (less b c)) l → Sorted (λ b c. T (less b c)) (insert less a l)
    insert_sorted a p ps sorted_nil = sorted_cons (λ b m. absurd (in_nil m)) sorted_nil
    insert_sorted a p ps (sorted_cons {a = b} {l = l} before rest) =
        go (less a b) (less b a) refl refl (insert_sorted a p (λ c m. ps c (there m)) rest)
      where
        go : (x y : Bool) → less a b ≡ x → less b a ≡ y → Sorted (λ b c. T (less b c)) (insert less a l) → Sorted (λ b c. T (less b c)) (placed x y a b l (insert less a l))
        go true y e f later =
            sorted_cons (λ c m. ⊎_elim (λ q. subst (λ (z : A). T (less a z)) (sym q) (is_true (less a b) e)) (λ k. trans a b c p (ps b here) (ps c (there k)) (is_true (less a b) e) (before c k)) (in_cons m))
            (sorted_cons before rest)
        go false true e f later =
            sorted_cons (λ c m. ⊎_elim (λ q. subst (λ (z : A). T (less b z)) (sym q) (is_true (less b a) f)) (before c) (insert_members a l m)) later
        go false false e f later = sorted_cons before rest

    pub arrange_sorted : (l : List A) → ((b : A) → b ∈ l → P b) → Sorted (λ b c. T (less b c)) (arrange less l)
    arrange_sorted [] ps = sorted_nil
    arrange_sorted (a ∷ l) ps = insert_sorted a (ps a here) (λ b m. ps b (there (arrange_members l m))) (arrange_sorted l (λ b m. ps b (there m)))

-- what is in strict order already stays as it is
insert_earliest : {A : Type 0} (less : A → A → Bool) (a : A) (l : List A) → ((b : A) → b ∈ l → T (less a b)) → insert less a l ≡ a ∷ l
insert_earliest less a [] h = refl
insert_earliest less a (b ∷ l) h = rw (true_is (less a b) (h b here))

pub arrange_same : {A : Type 0} (less : A → A → Bool) {l : List A} → Sorted (λ a b. T (less a b)) l → arrange less l ≡ l
arrange_same less sorted_nil = refl
arrange_same less (sorted_cons {a = a} {l = l} earliest rest) = ap (insert less a) (arrange_same less rest) ∙ insert_earliest less a l earliest

-- ---- points

pub points_in_order : (l : List Point) → Sorted (λ p q. T (before p q)) (point_items l)
unfolding point_items
points_in_order l = arrange_sorted before (λ p. Unit {0}) (λ p q r _ _ _. before_trans p q r) l (λ p m. tt)

pub points_in : (l : List Point) {p : Point} → p ∈ point_items l → p ∈ l
unfolding point_items
points_in l m = arrange_members before l m

pub points_as_given : (l : List Point) → Sorted (λ p q. T (before p q)) l → point_items l ≡ l
unfolding point_items
points_as_given l h = arrange_same before h

pub points_length : (l : List Point) → length (point_items l) ≤ length l
unfolding point_items
points_length l = arrange_length before l

-- ---- halfsegments

pub halves_in : (l : List Segment) {h : Halfsegment} → h ∈ halves_of l → h.segment ∈ l
halves_in [] m = absurd (in_nil m)
halves_in (t ∷ l) {h} m = ⊎_elim (λ e. of e) (λ k. ⊎_elim (λ e. of e) (λ n. there (halves_in l n)) (in_cons k)) (in_cons m)
  where
    of : {d : Bool} → h ≡ half_of d t → h.segment ∈ (t ∷ l)
    of e = subst (λ (u : Segment). u ∈ (t ∷ l)) (sym (ap (λ (k : Halfsegment). k.segment) e)) here

pub in_halves : (d : Bool) {t : Segment} {l : List Segment} → t ∈ l → half_of d t ∈ halves_of l
in_halves true here = here
in_halves false here = there here
in_halves d (there m) = there (there (in_halves d m))

-- any two of them can be compared
pub halves_compared : (l : List Segment) → AllOrdered l → Across l l → AllCompared comes_before (halves_of l)
halves_compared l ord across h k m n =
    compare_halves h k (ordered_read h.segment (ord h.segment (halves_in l m))) (ordered_read k.segment (ord k.segment (halves_in l n)))
    (across h.segment k.segment (halves_in l m) (halves_in l n))

-- the halfsegments of a list of segments, in 01's order
pub record Halves (l : List Segment) (hs : List Halfsegment) : Type 0 where
  pub in_order : Sorted (λ h k. T (comes_before h k)) hs
  pub of_list : {h : Halfsegment} → h ∈ hs → h.segment ∈ l
  pub both : (d : Bool) {t : Segment} → t ∈ l → half_of d t ∈ hs

pub line_halves : (l : List Segment) → AllOrdered l → Across l l → Halves l (line_items l)
unfolding line_items
line_halves l ord across = record {
  in_order = arrange_sorted comes_before (λ h. T (ordered h.segment)) comes_trans (halves_of l) (λ h m. ord h.segment (halves_in l m));
  of_list = λ m. halves_in l (arrange_members comes_before (halves_of l) m);
  both = λ d m. arrange_keeps comes_before (halves_of l) (halves_compared l ord across) (in_halves d m);
}

pub halves_length : (l : List Segment) → length (halves_of l) ≡ 2 * length l
halves_length [] = refl
halves_length (t ∷ l) = let h = halves_length l in omega arith

pub line_length : (l : List Segment) → length (line_items l) ≤ 2 * length l
unfolding line_items
line_length l = omega (arith, arrange_length comes_before (halves_of l), halves_length l)
