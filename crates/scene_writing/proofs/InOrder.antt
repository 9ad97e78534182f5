-- Elements that sink one after the other are in strict order if one of every two comes before the other; and halves that are in strict order are
-- those of 01's order, so that what is written is the object's bytes.
use mathlib.Core.Path.{◌≡◌, refl, sym, ap, subst, ◌∙◌}
use mathlib.Core.Logic.{◌⊎◌, inl, inr, ⊎_elim}
use mathlib.Core.Bool.{Bool, true, false, ◌&&◌, true≢false, false≢true}
use mathlib.Core.List.{List, [], ◌∷◌, map}
use lib.Dec.{T}
use Rattle.whole.specs.Count.{every, ◌∈◌, here, there}
use Rattle.whole.proofs.Logic.{is_true, true_is, in_nil, in_cons, Sorted, sorted_nil, sorted_cons}
use Rattle.whole.proofs.Sorted.{sorted_unique}
use Rattle.plane.specs.declared.Point.{Point}
use Rattle.plane.specs.declared.Segment.{Segment}
use Rattle.plane.specs.declared.Halfsegment.{Halfsegment}
use Rattle.plane.specs.Plane.{before, ordered, comes_before, interior_above, points, line, region}
use Rattle.plane.proofs.OnSegment.{ordered_read}
use Rattle.plane.proofs.Accepted.{Across, AllOrdered}
use Rattle.plane.proofs.Order.{half_of, comes_irreflexive, comes_trans}
use Rattle.scene.specs.declared.Shape.TheVariants.{Points, Line, Region}
use Rattle.scene_written.specs.Bytes.{Edge, bytes_of}
use Rattle.scene_written.specs.Arranged.{halves_of, line_items, edge_of, region_items, object_bytes}
use Rattle.scene_written.proofs.Compared.{Compared, first, second, equal, compare_halves}
use Rattle.scene_written.proofs.Arranging.{AllCompared, arrange_members, arrange_keeps, arrange_sorted, points_as_given, halves_in}
use Rattle.scene_writing.specs.Settled.{sink, settle, edges_of, edge_before, settled_items}
use Rattle.scene_writing.proofs.Settling.{put, sink_members, settle_members, settle_keeps, settle_map}

-- ---- strict order

module _ {A : Type 0} (less : A → A → Bool) where
  -- one of the two comes first
  abbrev pub Parted : A → A → Type 0
  Parted a b = T (less a b) ⊎ T (less b a)

  every_in : (a : A) (l : List A) → every (less a) l ≡ true → (b : A) → b ∈ l → T (less a b)
  every_in a [] e b m = absurd (in_nil m)
  every_in a (c ∷ l) e b m = go (less a c) refl e (every_in a l)
    where
      go : (t : Bool) → less a c ≡ t → t && every (less a) l ≡ true → (every (less a) l ≡ true → (b : A) → b ∈ l → T (less a b)) → T (less a b)
      go true f e later = ⊎_elim (λ q. subst (λ (x : A). T (less a x)) (sym q) (is_true (less a c) f)) (later e b) (in_cons m)
      go false f e later = absurd (false≢true e)

  -- one that it does not come before
  missed : (a : A) (l : List A) → every (less a) l ≡ false → (b : A) × (b ∈ l) × (less a b ≡ false)
  missed a [] e = absurd (true≢false e)
  missed a (c ∷ l) e = go (less a c) refl e (missed a l)
    where
      go : (t : Bool) → less a c ≡ t → t && every (less a) l ≡ false → (every (less a) l ≡ false → (b : A) × (b ∈ l) × (less a b ≡ false)) → (b : A) × (b ∈ (c ∷ l)) × (less a b ≡ false)
      go true f e later = let w = later e in (w.0, there w.1, w.2)
      go false f e later = (c, here, f)

  module _ (P : A → Type 0) (trans : (a b c : A) → P a → P b → P c → T (less a b) → T (less b c) → T (less a c)) where
    sink_sorted : (a : A) {l : List A} → P a → ((b : A) → b ∈ l → P b) → ((b : A) → b ∈ l → Parted a b) → Sorted (λ b c. T (less b c)) l
        → Sorted (λ b c. T (less b c)) (sink less a l)
    sink_sorted a p ps parted sorted_nil = sorted_cons (λ b m. absurd (in_nil m)) sorted_nil
    sink_sorted a p ps parted (sorted_cons {a = b} {l = l} before rest) =
        go (every (less a) (b ∷ l)) refl (sink_sorted a p (λ c m. ps c (there m)) (λ c m. parted c (there m)) rest)
      where
        later : (c : A) → c ∈ (b ∷ l) → less a c ≡ false → T (less c a)
        later c m f = ⊎_elim (λ t. absurd (true≢false (sym (true_is (less a c) t) ∙ f))) (λ t. t) (parted c m)

        -- so the first does come before it
        earlier : every (less a) (b ∷ l) ≡ false → T (less b a)
        earlier e =
            let w = missed a (b ∷ l) e in
            ⊎_elim (λ q. subst (λ (x : A). T (less x a)) q (later w.0 w.1 w.2))
            (λ k. trans b w.0 a (ps b here) (ps w.0 (there k)) p (before w.0 k) (later w.0 w.1 w.2)) (in_cons w.1)

        go : (t : Bool) → every (less a) (b ∷ l) ≡ t → Sorted (λ b c. T (less b c)) (sink less a l) → Sorted (λ b c. T (less b c)) (put less t a b l (sink less a l))
        go true e s = sorted_cons (every_in a (b ∷ l) e) (sorted_cons before rest)
        go false e s =
            sorted_cons (λ c m. ⊎_elim (λ q. subst (λ (x : A). T (less b x)) (sym q) (earlier e)) (before c) (in_cons (sink_members less a l m))) s

    pub settle_sorted : {l rest : List A} → ((b : A) → b ∈ l → P b) → ((b : A) → b ∈ rest → P b) → ((a b : A) → a ∈ rest → b ∈ l → Parted a b)
        → Sorted (λ b a. Parted a b) rest → Sorted (λ b c. T (less b c)) l → Sorted (λ b c. T (less b c)) (settle less l rest)
    settle_sorted ps qs parted sorted_nil s = s
    settle_sorted {l} ps qs parted (sorted_cons {a = a} {l = rest} apart more) s =
        settle_sorted {l = sink less a l} {rest = rest}
        (λ b m. ⊎_elim (λ q. subst P (sym q) (qs a here)) (ps b) (in_cons (sink_members less a l m)))
        (λ b m. qs b (there m))
        (λ c b m k. ⊎_elim (λ q. subst (λ (x : A). Parted c x) (sym q) (apart c m)) (parted c b (there m)) (in_cons (sink_members less a l k)))
        more (sink_sorted a (qs a here) ps (λ b m. parted a b here m) s)

-- of two members of a list in strict order one comes first, or they are one
pub sorted_compared : {A : Type 0} (less : A → A → Bool) {l : List A} → Sorted (λ b c. T (less b c)) l → AllCompared less l
sorted_compared less sorted_nil a b m n = absurd (in_nil m)
sorted_compared {A} less (sorted_cons {a = c} {l = l} before rest) a b m n =
    ⊎_elim
    (λ p. ⊎_elim (λ q. equal (p ∙ sym q)) (λ k. first (subst (λ (x : A). T (less x b)) (sym p) (before b k))) (in_cons n))
    (λ j. ⊎_elim (λ q. second (subst (λ (x : A). T (less x a)) (sym q) (before a j))) (λ k. sorted_compared less rest a b j k) (in_cons n)) (in_cons m)

-- ---- halves

module _ (l : List Segment) (ord : AllOrdered l) where
  abbrev settled : List Halfsegment
  settled = settle comes_before [] (halves_of l)

  own : {h : Halfsegment} → h ∈ halves_of l → T (ordered h.segment)
  own {h} m = ord h.segment (halves_in l m)

  settled_in : {h : Halfsegment} → h ∈ settled → h ∈ halves_of l
  settled_in m = ⊎_elim (λ k. absurd (in_nil k)) (λ k. k) (settle_members comes_before [] (halves_of l) m)

  in_settled : {h : Halfsegment} → h ∈ halves_of l → h ∈ settled
  in_settled m = settle_keeps comes_before [] (halves_of l) (inr m)

  -- if they are in strict order, they are those of 01's order
  pub settled_arranged : Sorted (λ h k. T (comes_before h k)) settled → settled ≡ line_items l
  unfolding line_items
  settled_arranged sorted =
      sorted_unique (λ h k. T (comes_before h k))
      (λ h k m n t u. comes_irreflexive h (comes_trans h k h (own (settled_in m)) (own (settled_in n)) (own (settled_in m)) t u))
      sorted (arrange_sorted comes_before (λ h. T (ordered h.segment)) comes_trans (halves_of l) (λ h m. own m))
      (λ h m. arrange_keeps comes_before (halves_of l) (λ a b i j. sorted_compared comes_before sorted a b (in_settled i) (in_settled j)) (settled_in m))
      (λ h m. in_settled (arrange_members comes_before (halves_of l) m))

-- ---- of segments that share only common ends, and none twice

parted_halves : {h k : Halfsegment} → Compared comes_before h k → (h ≡ k → ⊥) → Parted comes_before h k
parted_halves (first t) n = inl t
parted_halves (second t) n = inr t
parted_halves (equal e) n = absurd (n e)

halves_parted : {l : List Segment} → AllOrdered l → Across l l → Sorted (λ t u. t ≡ u → ⊥) l → Sorted (λ h k. Parted comes_before k h) (halves_of l)
halves_parted ord across sorted_nil = sorted_nil
halves_parted ord across (sorted_cons {a = t} {l = l} differ rest) =
    sorted_cons (λ k m. ⊎_elim (λ e. subst (λ (x : Halfsegment). Parted comes_before x (half_of true t)) (sym e) pair) (λ n. other true k n) (in_cons m))
    (sorted_cons (λ k m. other false k m) (halves_parted (λ u m. ord u (there m)) (λ s u m n. across s u (there m) (there n)) rest))
  where
    pair : Parted comes_before (half_of false t) (half_of true t)
    pair =
        parted_halves (compare_halves (half_of false t) (half_of true t) (ordered_read t (ord t here)) (ordered_read t (ord t here)) (inl refl))
        (λ e. false≢true (ap (λ (h : Halfsegment). h.is_left) e))

    other : (d : Bool) (k : Halfsegment) → k ∈ halves_of l → Parted comes_before k (half_of d t)
    other d k m =
        parted_halves
        (compare_halves k (half_of d t) (ordered_read k.segment (ord k.segment (there (halves_in l m)))) (ordered_read t (ord t here)) (across k.segment t (there (halves_in l m)) here))
        (λ e. differ k.segment (halves_in l m) (sym (ap (λ (h : Halfsegment). h.segment) e)))

pub settled_line_sorted : (l : List Segment) → AllOrdered l → Across l l → Sorted (λ t u. t ≡ u → ⊥) l → Sorted (λ h k. T (comes_before h k)) (settle comes_before [] (halves_of l))
settled_line_sorted l ord across once =
    settle_sorted comes_before (λ h. T (ordered h.segment)) comes_trans (λ b m. absurd (in_nil m)) (λ h m. ord h.segment (halves_in l m)) (λ a b m n. absurd (in_nil n))
    (halves_parted ord across once) sorted_nil

-- ---- so the object's bytes are written

pub points_written : (l : List Point) → Sorted (λ p q. T (before p q)) l → bytes_of Points l ≡ object_bytes (points l)
points_written l sorted = ap (bytes_of Points) (sym (points_as_given l sorted))

pub edges_of_lem : (f : Segment → Bool) (l : List Segment) → map (λ h. record { half = h; ia = f h.segment }) (halves_of l) ≡ edges_of l (map f l)
edges_of_lem f [] = refl
edges_of_lem f (t ∷ l) = ap (λ (r : List Edge). record { half = half_of true t; ia = f t } ∷ record { half = half_of false t; ia = f t } ∷ r) (edges_of_lem f l)

module _ (l : List Segment) (ord : AllOrdered l) (sorted : Sorted (λ h k. T (comes_before h k)) (settle comes_before [] (halves_of l))) where
  pub settled_line : (ias : List Bool) → settled_items Line l ias ≡ line_items l
  unfolding settled_items
  settled_line ias = settled_arranged l ord sorted

  pub settled_region : settled_items Region l (map (interior_above l) l) ≡ region_items l
  unfolding settled_items region_items
  settled_region =
      ap (settle edge_before []) (sym (edges_of_lem (interior_above l) l)) ∙ sym (settle_map (edge_of l) edge_before [] (halves_of l)) ∙ ap (map (edge_of l)) (settled_arranged l ord sorted)

  pub line_written : (ias : List Bool) → bytes_of Line (settled_items Line l ias) ≡ object_bytes (line l)
  line_written ias = ap (bytes_of Line) (settled_line ias)

  pub region_written : bytes_of Region (settled_items Region l (map (interior_above l) l)) ≡ object_bytes (region l)
  region_written = ap (bytes_of Region) settled_region

-- of segments that share only common ends, and none twice
module _ (l : List Segment) (ord : AllOrdered l) (across : Across l l) (once : Sorted (λ t u. t ≡ u → ⊥) l) where
  pub apart_line_written : (ias : List Bool) → bytes_of Line (settled_items Line l ias) ≡ object_bytes (line l)
  apart_line_written = line_written l ord (settled_line_sorted l ord across once)

  pub apart_region_written : bytes_of Region (settled_items Region l (map (interior_above l) l)) ≡ object_bytes (region l)
  apart_region_written = region_written l ord (settled_line_sorted l ord across once)
