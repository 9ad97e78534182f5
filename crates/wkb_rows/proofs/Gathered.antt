-- What is gathered of a list rises strictly and has the members of the list, and it is the only such row. So are the points and the segments of what was read.
use Prim.Native.Nat.{suc, ◌≤◌}
use native.Mathlib.Omega.{arith}
use mathlib.Core.Path.{◌≡◌, refl, sym, subst}
use mathlib.Core.Logic.{◌⊎◌, inl, inr, ⊎_elim}
use mathlib.Core.Bool.{Bool, true, false, cond}
use mathlib.Core.List.{List, [], ◌∷◌}
use lib.Dec.{T}
use lib.ListN.{length}
use Rattle.std.specs.List.{flat_map}
use Rattle.whole.specs.Count.{◌∈◌, here, there}
use Rattle.whole.proofs.Logic.{is_true, in_nil, in_cons, in_left, in_right, in_append, Sorted, sorted_nil}
use Rattle.whole.proofs.Sorted.{Among, sorted_unique}
use Rattle.plane.specs.declared.Point.{Point}
use Rattle.plane.specs.declared.Segment.{Segment}
use Rattle.plane.specs.Plane.{before, ordered}
use Rattle.scene_written.specs.Arranged.{insert, arrange, point_items}
use Rattle.scene_written.proofs.Arranging.{placed, insert_members, insert_keeps, insert_new, insert_sorted, arrange_members, arrange_keeps, arrange_sorted}
use Rattle.wkb_rows.specs.Rows.{gathered, between, along, neighbours, segment_before, all_points, all_segments, points_of, segments_of}
use Rattle.wkb_rows.proofs.Orders.{Order, points, segments}

module _ {A : Type 0} (less : A → A → Bool) where
  pub gathered_members : (row l : List A) {c : A} → c ∈ gathered less row l → (c ∈ row) ⊎ (c ∈ l)
  gathered_members row [] k = inl k
  gathered_members row (a ∷ l) {c} k =
      ⊎_elim (λ j. ⊎_elim (λ e. inr (subst (λ (d : A). d ∈ (a ∷ l)) (sym e) here)) inl (insert_members less a row j)) (λ j. inr (there j)) (gathered_members (insert less a row) l k)

  pub gathered_keeps : (row l : List A) {c : A} → c ∈ row → c ∈ gathered less row l
  gathered_keeps row [] k = k
  gathered_keeps row (a ∷ l) k = gathered_keeps (insert less a row) l (insert_keeps less a row k)

  -- nothing goes out of a row
  insert_longer : (a : A) (l : List A) → length l ≤ length (insert less a l)
  insert_longer a [] = omega arith
  insert_longer a (b ∷ l) = go (less a b) (less b a) (insert_longer a l)
    where
      go : (x y : Bool) → length l ≤ length (insert less a l) → suc (length l) ≤ length (placed less x y a b l (insert less a l))
      go true y h = omega arith
      go false true h = omega arith
      go false false h = omega arith

  pub gathered_longer : (row l : List A) → length row ≤ length (gathered less row l)
  gathered_longer row [] = omega arith
  gathered_longer row (a ∷ l) = omega (arith, insert_longer a row, gathered_longer (insert less a row) l)

module _ {A : Type 0} {less : A → A → Bool} (o : Order less) where
  abbrev Rises : List A → Type 0
  Rises = Sorted (λ a b. T (less a b))

  pub gathered_in : (row l : List A) {c : A} → c ∈ l → c ∈ gathered less row l
  gathered_in row [] k = absurd (in_nil k)
  gathered_in row (a ∷ l) {c} k =
      ⊎_elim (λ e. gathered_keeps less (insert less a row) l (subst (λ (d : A). d ∈ insert less a row) (sym e) (insert_new less a row (λ b _. o.compare a b))))
      (λ j. gathered_in (insert less a row) l j) (in_cons k)

  pub gathered_sorted : (row l : List A) → Rises row → Rises (gathered less row l)
  gathered_sorted row [] s = s
  gathered_sorted row (a ∷ l) s = gathered_sorted (insert less a row) l (insert_sorted less (λ b. Unit {0}) (λ b c e _ _ _. o.trans b c e) a tt (λ b m. tt) s)

  -- from nothing
  module _ (l : List A) where
    pub rises : Rises (gathered less [] l)
    rises = gathered_sorted [] l sorted_nil

    pub only_read : Among (gathered less [] l) l
    only_read c k = ⊎_elim (λ j. absurd (in_nil j)) (λ j. j) (gathered_members less [] l k)

    pub all_read : Among l (gathered less [] l)
    all_read c k = gathered_in [] l k

    pub only_row : {row : List A} → Rises row → Among row l → Among l row → gathered less [] l ≡ row
    only_row s from to =
        sorted_unique (λ a b. T (less a b)) (λ a b _ _ h k. o.irreflexive a (o.trans a b a h k)) rises s (λ c k. to c (only_read c k)) (λ c k. all_read c (from c k))

  -- in whichever order they go in
  pub gathered_arranged : (l : List A) → gathered less [] l ≡ arrange less l
  gathered_arranged l =
      only_row l (arrange_sorted less (λ b. Unit {0}) (λ b c e _ _ _. o.trans b c e) l (λ b m. tt)) (λ c k. arrange_members less l k)
      (λ c k. arrange_keeps less l (λ a b _ _. o.compare a b) k)

-- ---- what was read

module _ (parts : List (List (List Point))) where
  pub points_rise : Sorted (λ p q. T (before p q)) (points_of parts)
  unfolding points_of
  points_rise = rises points (all_points parts)

  pub points_read : Among (points_of parts) (all_points parts)
  unfolding points_of
  points_read = only_read points (all_points parts)

  pub points_all : Among (all_points parts) (points_of parts)
  unfolding points_of
  points_all = all_read points (all_points parts)

  -- a row that rises and has the members of what was read is what was gathered: "what is written is read back as the same object"
  pub points_fixed : {row : List Point} → Sorted (λ p q. T (before p q)) row → Among row (all_points parts) → Among (all_points parts) row → points_of parts ≡ row
  unfolding points_of
  points_fixed = only_row points (all_points parts)

  -- and these are the elements of the points object that has them
  pub points_written : points_of parts ≡ point_items (all_points parts)
  unfolding points_of point_items
  points_written = gathered_arranged points (all_points parts)

  pub segments_rise : Sorted (λ s t. T (segment_before s t)) (segments_of parts)
  unfolding segments_of
  segments_rise = rises segments (all_segments parts)

  pub segments_read : Among (segments_of parts) (all_segments parts)
  unfolding segments_of
  segments_read = only_read segments (all_segments parts)

  pub segments_all : Among (all_segments parts) (segments_of parts)
  unfolding segments_of
  segments_all = all_read segments (all_segments parts)

  pub segments_fixed : {row : List Segment} → Sorted (λ s t. T (segment_before s t)) row → Among row (all_segments parts) → Among (all_segments parts) row → segments_of parts ≡ row
  unfolding segments_of
  segments_fixed = only_row segments (all_segments parts)

-- ---- segments between neighbours: their ends are points that were read, the left one first

pub record Joins (p q : Point) (s : Segment) : Type 0 where
  pub in_order : T (ordered s)
  pub ends : ((s.left ≡ p) × (s.right ≡ q)) ⊎ ((s.left ≡ q) × (s.right ≡ p))

one_in : {A : Type 0} {a b : A} → a ∈ (b ∷ []) → a ≡ b
one_in m = ⊎_elim (λ e. e) (λ k. absurd (in_nil k)) (in_cons m)

pub between_joins : (p q : Point) {s : Segment} → s ∈ between p q → Joins p q s
unfolding ordered
between_joins p q {s} = go (before p q) refl (before q p) refl
  where
    go : (x : Bool) → before p q ≡ x → (y : Bool) → before q p ≡ y → s ∈ cond x (record { left = p; right = q } ∷ []) (cond y (record { left = q; right = p } ∷ []) []) → Joins p q s
    go true e y f m = subst (Joins p q) (sym (one_in m)) (record { in_order = is_true (before p q) e; ends = inl (refl, refl) })
    go false e true f m = subst (Joins p q) (sym (one_in m)) (record { in_order = is_true (before q p) f; ends = inr (refl, refl) })
    go false e false f m = absurd (in_nil m)

-- a segment with both ends in a list
pub record Within (l : List Point) (s : Segment) : Type 0 where
  pub in_order : T (ordered s)
  pub left_in : s.left ∈ l
  pub right_in : s.right ∈ l

widened : {l m : List Point} {s : Segment} → Among l m → Within l s → Within m s
widened {s = s} f w = record { in_order = w.in_order; left_in = f s.left w.left_in; right_in = f s.right w.right_in }

joined_within : {p q : Point} {s : Segment} {l : List Point} → p ∈ l → q ∈ l → Joins p q s → Within l s
joined_within {l = l} h k j =
    ⊎_elim (λ e. record { in_order = j.in_order; left_in = subst (λ (r : Point). r ∈ l) (sym e.0) h; right_in = subst (λ (r : Point). r ∈ l) (sym e.1) k })
    (λ e. record { in_order = j.in_order; left_in = subst (λ (r : Point). r ∈ l) (sym e.0) k; right_in = subst (λ (r : Point). r ∈ l) (sym e.1) h }) j.ends

along_within : (p : Point) (row : List Point) {s : Segment} → s ∈ along p row → Within (p ∷ row) s
along_within p [] m = absurd (in_nil m)
along_within p (q ∷ row) m =
    ⊎_elim (λ k. joined_within here (there here) (between_joins p q k)) (λ k. widened (λ r h. there h) (along_within q row k)) (in_append (between p q) m)

neighbours_within : (row : List Point) {s : Segment} → s ∈ neighbours row → Within row s
neighbours_within [] m = absurd (in_nil m)
neighbours_within (p ∷ row) m = along_within p row m

-- what is within each of the lists is within all of them
module _ {A : Type 0} (points_in : A → List Point) (segments_in : A → List Segment) (each : (a : A) (s : Segment) → s ∈ segments_in a → Within (points_in a) s) where
  all_within : (l : List A) (s : Segment) → s ∈ flat_map segments_in l → Within (flat_map points_in l) s
  all_within [] s m = absurd (in_nil m)
  all_within (a ∷ l) s m =
      ⊎_elim (λ k. widened (λ r h. in_left (flat_map points_in l) h) (each a s k)) (λ k. widened (λ r h. in_right (points_in a) h) (all_within l s k)) (in_append (segments_in a) m)

pub read_within : (parts : List (List (List Point))) (s : Segment) → s ∈ all_segments parts → Within (all_points parts) s
read_within = all_within (flat_map (λ row. row)) (flat_map neighbours) (all_within (λ row. row) neighbours (λ row s m. neighbours_within row m))

pub segments_within : (parts : List (List (List Point))) {s : Segment} → s ∈ segments_of parts → Within (all_points parts) s
segments_within parts {s} m = read_within parts s (segments_read parts s m)
