-- Keys of what is put into a row: a point is its key put into the row of keys, a segment its ends put into the row of ends.
use Prim.Native.Nat.{◌≤◌, ◌<◌}
use native.Mathlib.Nat.{lt_of_not-le, eq-or-lt_of_le}
use native.Mathlib.Omega.{arith}
use mathlib.Core.Path.{◌≡◌, refl, sym, ap, ap₂, ◌∙◌, subst}
use mathlib.Core.Logic.{◌⊎◌, inl, inr, ⊎_elim}
use mathlib.Core.Bool.{Bool, true, false, cond, ◌&&◌, ◌||◌}
use mathlib.Core.List.{List, [], ◌∷◌, map}
use lib.Dec.{T, ltb, eqb, ltb→lt, lt→ltb, eqb→eq}
use Rattle.std.specs.declared.cmp.Ordering.TheVariants.{Less, Equal, Greater}
use Rattle.std.specs.Ordering.{is_lt, nat_cmp, ordering_then}
use borrow.Author.Tests.{eq-eqb}
use Rattle.whole.specs.Count.{◌∈◌, here, there}
use Rattle.whole.proofs.Logic.{and_left, and_make, or_cases, is_true, same_test, in_nil}
use Rattle.plane.specs.declared.Point.{Point}
use Rattle.plane.specs.declared.Segment.{Segment}
use Rattle.plane.specs.Plane.{before, in_range, segment_in_range}
use Rattle.plane.proofs.Equal.{same_point_read}
use Rattle.plane.proofs.Order.{before_irreflexive, before_trans}
use Rattle.plane.proofs.Machine.{left_in_range, right_in_range}
use Rattle.scene_keys.specs.declared.Ends.{Ends}
use Rattle.scene_keys.specs.Keyed.{key, ends_of}
use Rattle.scene_keys.proofs.Keys.{same_key, key_less}
use Rattle.scene_written.specs.Arranged.{insert}
use Rattle.scene_written.proofs.Arranging.{placed, insert_members}
use Rattle.wkb_rows.specs.Rows.{gathered, segment_before, all_points, all_segments, points_of, segments_of, is_below, ends_cmp}
use Rattle.wkb_rows.proofs.Gathered.{Within, read_within, segments_within}

-- ---- keys have the order

pub key_test : (p q : Point) → T (in_range p) → T (in_range q) → before p q ≡ ltb (key p) (key q)
key_test p q h k =
    same_test (before p q) (ltb (key p) (key q)) (λ t. lt→ltb (key p) (key q) (lt_of_not-le (λ (g : key q ≤ key p). never t (eq-or-lt_of_le g))))
    (λ t. key_less p q h k (ltb→lt (key p) (key q) t))
  where
    never : T (before p q) → (key q ≡ key p) ⊎ (key q < key p) → ⊥
    never t (inl e) = before_irreflexive q (subst (λ (r : Point). T (before r q)) (same_point_read p q (is_true _ (same_key p q h k ∙ eq-eqb (key p) (key q) (sym e)))) t)
    never t (inr l) = before_irreflexive p (before_trans p q p t (key_less q p k h l))

-- the tests of an order
first_test : (a b : Bool) → is_lt (cond a Less (cond b Equal Greater)) ≡ a
first_test true b = refl
first_test false true = refl
first_test false false = refl

both_tests : (a b c d : Bool) → is_lt (ordering_then (cond a Less (cond b Equal Greater)) (cond c Less (cond d Equal Greater))) ≡ a || (b && c)
both_tests true b c d = refl
both_tests false true c d = first_test c d
both_tests false false c d = refl

pub key_order : (p q : Point) → T (in_range p) → T (in_range q) → before p q ≡ is_below nat_cmp (key p) (key q)
key_order p q h k = key_test p q h k ∙ sym (first_test (ltb (key p) (key q)) (eqb (key p) (key q)))

pub ends_order : (s t : Segment) → T (segment_in_range s) → T (segment_in_range t) → segment_before s t ≡ is_below ends_cmp (ends_of s) (ends_of t)
unfolding segment_before
ends_order s t h k =
    let l = left_in_range s h in
    let m = left_in_range t k in
    ap₂ (λ (x y : Bool). x || y) (key_test s.left t.left l m)
    (ap₂ (λ (x y : Bool). x && y) (same_key s.left t.left l m) (key_test s.right t.right (right_in_range s h) (right_in_range t k)))
    ∙ sym (both_tests (ltb (key s.left) (key t.left)) (eqb (key s.left) (key t.left)) (ltb (key s.right) (key t.right)) (eqb (key s.right) (key t.right)))

-- of two in order, the first begins no later
pub ends_left : (d e : Ends) → T (is_below ends_cmp d e) → d.left ≤ e.left
ends_left d e t =
    ⊎_elim (λ h. earlier (ltb→lt d.left e.left h)) (λ h. level (eqb→eq d.left e.left (and_left (eqb d.left e.left) (ltb d.right e.right) h)))
    (or_cases (ltb d.left e.left) (eqb d.left e.left && ltb d.right e.right) (subst T (both_tests (ltb d.left e.left) (eqb d.left e.left) (ltb d.right e.right) (eqb d.right e.right)) t))
  where
    earlier : d.left < e.left → d.left ≤ e.left
    earlier h = omega arith

    level : d.left ≡ e.left → d.left ≤ e.left
    level h = omega arith

-- ---- rows by a map that has the order, on what P holds of
module _ {A B : Type 0} (less : A → A → Bool) (below : B → B → Bool) (f : A → B) (P : A → Type 0) (same : (a b : A) → P a → P b → less a b ≡ below (f a) (f b)) where
  map_insert : (a : A) (l : List A) → P a → ((b : A) → b ∈ l → P b) → map f (insert less a l) ≡ insert below (f a) (map f l)
  map_insert a [] h g = refl
  map_insert a (b ∷ l) h g =
      rw (same a b h (g b here), same b a (g b here) h) (go (below (f a) (f b)) (below (f b) (f a)) (map_insert a l h (λ c k. g c (there k))))
    where
      go : (x y : Bool) → map f (insert less a l) ≡ insert below (f a) (map f l) → map f (placed less x y a b l (insert less a l)) ≡ placed below x y (f a) (f b) (map f l) (insert below (f a) (map f l))
      go true y e = refl
      go false true e = ap (λ (r : List B). f b ∷ r) e
      go false false e = refl

  map_gathered : (row l : List A) → ((b : A) → b ∈ row → P b) → ((b : A) → b ∈ l → P b) → map f (gathered less row l) ≡ gathered below (map f row) (map f l)
  map_gathered row [] h g = refl
  map_gathered row (a ∷ l) h g =
      map_gathered (insert less a row) l (λ b m. ⊎_elim (λ e. subst P (sym e) (g a here)) (h b) (insert_members less a row m)) (λ b m. g b (there m))
      ∙ ap (λ (r : List B). gathered below r (map f l)) (map_insert a row (g a here) h)

abbrev pub AllInRange : List Point → Type 0
AllInRange l = (p : Point) → p ∈ l → T (in_range p)

abbrev pub SegmentsInRange : List Segment → Type 0
SegmentsInRange l = (s : Segment) → s ∈ l → T (segment_in_range s)

-- the segments of what was read are in range if its points are
within_range : {l : List Point} {s : Segment} → AllInRange l → Within l s → T (segment_in_range s)
within_range {s = s} h w = and_make (in_range s.left) (in_range s.right) (h s.left w.left_in) (h s.right w.right_in)

-- what was read, by its keys
module _ (parts : List (List (List Point))) (good : AllInRange (all_points parts)) where
  pub segments_in_range : SegmentsInRange (segments_of parts)
  segments_in_range s m = within_range good (segments_within parts m)

  pub points_keyed : gathered (is_below nat_cmp) [] (map key (all_points parts)) ≡ map key (points_of parts)
  unfolding points_of
  points_keyed = sym (map_gathered before (is_below nat_cmp) key (λ p. T (in_range p)) key_order [] (all_points parts) (λ p m. absurd (in_nil m)) good)

  pub segments_keyed : gathered (is_below ends_cmp) [] (map ends_of (all_segments parts)) ≡ map ends_of (segments_of parts)
  unfolding segments_of
  segments_keyed =
      sym (map_gathered segment_before (is_below ends_cmp) ends_of (λ s. T (segment_in_range s)) ends_order [] (all_segments parts) (λ s m. absurd (in_nil m)) (λ s m. within_range good (read_within parts s m)))
