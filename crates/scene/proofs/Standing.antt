-- What an object's bytes stand for does not depend on where they stand: its elements, its segments, the object, and the conditions 10 to 14 and 15,
-- whose faults have their places raised with the bytes.
use Rattle.std.specs.Prelude.{None, Some}
use Rattle.scene.specs.Read.{Fault}
use Prim.Native.Nat.{ℕ, ◌+◌, ◌-◌, ◌<◌, ◌≤◌}
use native.Mathlib.Omega.{arith}
use mathlib.Core.Path.{◌≡◌, refl, sym, ap, ap₂, ◌∙◌}
use mathlib.Core.Bool.{Bool, true, false, not, ◌&&◌, cond, beq, false≢true}
use mathlib.Core.List.{List, [], ◌∷◌}
use lib.Dec.{ltb, eqb}
use Rattle.whole.specs.Count.{◌∈◌, here, there, odd, some}
use Rattle.whole.proofs.Logic.{and_left, is_true, true_is}
use Rattle.whole.proofs.Counted.{some_count, count_same}
use Rattle.plane.specs.declared.Segment.{Segment}
use Rattle.plane.specs.declared.Halfsegment.{Halfsegment}
use Rattle.plane.specs.Plane.{before, comes_before, dominating, ends_at, grid, interior_above, is_same_segment, touch, points, line, region}
use Rattle.scene.specs.declared.Shape.{Shape}
use Rattle.scene.specs.declared.Shape.TheVariants.{Points, Line, Region}
use Rattle.scene.specs.declared.Layout.{Layout}
use Rattle.scene.specs.Read.{point_at, size, place, end_place}
use Rattle.scene.specs.Conditions.{elements, has_segments, is_region, half, ia, left_test, segments, object, earliest, is_in_order, is_misplaced, out_of_order, partner, is_unpaired, unpaired, is_touching, touching, touching_itself, ends_oddly, odd_end, has_wrong_ia, wrong_ia, Rule, object_rules}
use Rattle.scene.proofs.Taken.{layout}
use Rattle.scene.proofs.Given.{NoFault, region_segments}
use Rattle.scene.proofs.Indices.{in_element, map_same, kept_same, not_nothing}
use Rattle.scene.proofs.Moved.{placed, moved_fault, Agree, same_byte, same_point, same_segment, room_for}

-- the records of the object l of s stand in t too, d higher than in s: there the object starts at `to`
pub record Stands (d : ℕ) (s : List ℕ) (l : Layout) (t : List ℕ) (to : ℕ) : Type 0 where
  pub reach : ℕ
  pub agree : Agree d reach s t
  pub within : end_place l ≤ reach
  pub start : to ≡ l.start + d

-- the second of two tests matters where the first holds
and_same : {a a' b b' : Bool} → a ≡ a' → (a' ≡ true → b ≡ b') → a && b ≡ a' && b'
and_same {a} {a'} {b} {b'} e h = ap (λ (x : Bool). x && b) e ∙ go a' h
  where
    go : (x : Bool) → (x ≡ true → b ≡ b') → x && b ≡ x && b'
    go true h = h refl
    go false h = refl

moved_cond : (d : ℕ) (b : Bool) (p : ℕ) (f : Fault) → cond b (Some (p + d)) (moved_fault d f) ≡ moved_fault d (cond b (Some p) f)
moved_cond d true p f = refl
moved_cond d false p f = refl

-- the room that a halfsegment takes, and ia
half_size : (k : Shape) → has_segments k ≡ true → 18 ≤ size k
half_size Points e = absurd (false≢true e)
half_size Line e = omega arith
half_size Region e = omega arith

ia_size : (k : Shape) → is_region k ≡ true → 19 ≤ size k
ia_size Points e = absurd (false≢true e)
ia_size Line e = absurd (false≢true e)
ia_size Region e = omega arith

module _ {d : ℕ} {s : List ℕ} {l : Layout} {t : List ℕ} {to : ℕ} (o : Stands d s l t to) where
  -- ---- the elements

  place_moved : (i : ℕ) → place (placed to l) i ≡ place l i + d
  place_moved i = omega (arith, o.start)

  module _ (i : ℕ) (h : i < l.count) where
    in_reach : place l i + size l.shape ≤ o.reach
    in_reach = omega (arith, o.within, room_for l.shape l.start i l.count h)

    pub point_stays : l.shape ≡ Points → point_at t (place (placed to l) i) ≡ point_at s (place l i)
    point_stays e = same_point o.agree (place l i + 1) (place (placed to l) i + 1) (omega (arith, place_moved i)) (omega (arith, in_reach, ap size e))

    pub half_stays : has_segments l.shape ≡ true → half t (placed to l) i ≡ half s l i
    half_stays e =
        ap₂ (λ (x : Segment) (b : ℕ). record { segment = x; is_left = eqb b 1 })
        (same_segment o.agree (place l i) (place (placed to l) i) (place_moved i) (omega (arith, in_reach, half_size l.shape e)))
        (same_byte o.agree (place l i + 17) (place (placed to l) i + 17) (omega (arith, place_moved i)) (omega (arith, in_reach, half_size l.shape e)))

    pub ia_stays : ia t (placed to l) i ≡ ia s l i
    ia_stays = and_same {a = is_region l.shape} refl (λ e.
        ap (λ (b : ℕ). eqb b 1) (same_byte o.agree (place l i + 18) (place (placed to l) i + 18) (omega (arith, place_moved i)) (omega (arith, in_reach, ia_size l.shape e))))

    pub left_stays : left_test t (placed to l) i ≡ left_test s l i
    left_stays = and_same {a = has_segments l.shape} refl (λ e. ap (λ (k : Halfsegment). k.is_left) (half_stays e))

    pub left_half_stays : left_test s l i ≡ true → half t (placed to l) i ≡ half s l i
    left_half_stays e = half_stays (true_is (has_segments l.shape) (and_left (has_segments l.shape) (half s l i).is_left (is_true (left_test s l i) e)))

  -- ---- the segments

  pub segments_stay : segments t (placed to l) ≡ segments s l
  unfolding segments
  segments_stay =
      kept_same (λ i. (half t (placed to l) i).segment) (λ i. (half s l i).segment) (left_test t (placed to l)) (left_test s l) (elements l)
      (λ i m. left_stays i (in_element l i m))
      (λ i m e. ap (λ (k : Halfsegment). k.segment) (left_half_stays i (in_element l i m) e))

  -- ---- the earliest at fault

  moved_earliest : (f g : ℕ → Bool) → ((i : ℕ) → i < l.count → f i ≡ g i) → earliest (placed to l) f (elements l) ≡ moved_fault d (earliest l g (elements l))
  moved_earliest f g same = go (elements l) (λ i m. same i (in_element l i m))
    where
      go : (is : List ℕ) → ((i : ℕ) → i ∈ is → f i ≡ g i) → earliest (placed to l) f is ≡ moved_fault d (earliest l g is)
      go [] h = refl
      go (i ∷ is) h = (λ x. cond (h i here x) (Some (place_moved i x)) (go is (λ j m. h j (there m)) x)) ∙ moved_cond d (g i) (place l i) (earliest l g is)

  -- 11
  partner_stays : has_segments l.shape ≡ true → (i j : ℕ) → i < l.count → j < l.count → partner t (placed to l) i j ≡ partner s l i j
  unfolding partner
  partner_stays e i j h g =
      λ x.
      not (beq (half_stays i h e x).is_left (half_stays j g e x).is_left)
      && is_same_segment (half_stays i h e x).segment (half_stays j g e x).segment
      && beq (ia_stays i h x) (ia_stays j g x)

  pub moved_unpaired : unpaired t (placed to l) ≡ moved_fault d (unpaired s l)
  unfolding unpaired
  moved_unpaired = moved_earliest (is_unpaired t (placed to l)) (is_unpaired s l) (λ i h. and_same {a = has_segments l.shape} refl (λ e. ap not (same i h e)))
    where
      same : (i : ℕ) → i < l.count → has_segments l.shape ≡ true → some (partner t (placed to l) i) (elements l) ≡ some (partner s l i) (elements l)
      same i h e =
          some_count (partner t (placed to l) i) (elements l)
          ∙ ap (ltb 0) (count_same (partner t (placed to l) i) (partner s l i) (elements l) (λ j m. partner_stays e i j h (in_element l j m)))
          ∙ sym (some_count (partner s l i) (elements l))

  -- 12 and 15
  pub moved_touching : (others : List Segment) → touching t (placed to l) others ≡ moved_fault d (touching s l others)
  unfolding touching
  moved_touching others =
      moved_earliest (is_touching t (placed to l) others) (is_touching s l others)
      (λ i h. and_same (left_stays i h) (λ e. ap (λ (k : Halfsegment). some (touch k.segment) others) (left_half_stays i h e)))

  pub moved_touching_itself : touching_itself t (placed to l) ≡ moved_fault d (touching_itself s l)
  unfolding touching_itself
  moved_touching_itself = ap (touching t (placed to l)) segments_stay ∙ moved_touching (segments s l)

  -- 13
  pub moved_odd_end : odd_end t (placed to l) ≡ moved_fault d (odd_end s l)
  unfolding odd_end
  moved_odd_end =
      moved_earliest (ends_oddly t (placed to l)) (ends_oddly s l)
      (λ i h. and_same {a = is_region l.shape} refl (λ e. ap₂ (λ (x : List Segment) (k : Halfsegment). odd (ends_at x (grid (dominating k)))) segments_stay (half_stays i h (region_segments l.shape e))))

  -- 14
  pub moved_wrong_ia : wrong_ia t (placed to l) ≡ moved_fault d (wrong_ia s l)
  unfolding wrong_ia
  moved_wrong_ia =
      moved_earliest (has_wrong_ia t (placed to l)) (has_wrong_ia s l)
      (λ i h. and_same {a = is_region l.shape} refl (λ e.
      λ x. not (beq (ia_stays i h x) (interior_above (segments_stay x) (half_stays i h (region_segments l.shape e) x).segment))))

-- ---- by type: the object, and 10

module _ {d : ℕ} {s : List ℕ} {l : Layout} {t : List ℕ} {to : ℕ} where
  pub object_stays : Stands d s l t to → object t (placed to l) ≡ object s l
  unfolding object
  object_stays = go l.shape
    where
      go : (k : Shape) → Stands d s (layout k l.start l.count) t to → object t (layout k to l.count) ≡ object s (layout k l.start l.count)
      go Points o = ap points (map_same _ _ (elements l) (λ i m. point_stays o i (in_element l i m) refl))
      go Line o = ap line (segments_stay o)
      go Region o = ap region (segments_stay o)

  order_stays : Stands d s l t to → (i j : ℕ) → i < l.count → j < l.count → is_in_order t (placed to l) i j ≡ is_in_order s l i j
  unfolding is_in_order
  order_stays o i j h g = go l.shape o
    where
      go : (k : Shape) → Stands d s (layout k l.start l.count) t to → is_in_order t (layout k to l.count) i j ≡ is_in_order s (layout k l.start l.count) i j
      go Points o = ap₂ before (point_stays o i h refl) (point_stays o j g refl)
      go Line o = ap₂ comes_before (half_stays o i h refl) (half_stays o j g refl)
      go Region o = ap₂ comes_before (half_stays o i h refl) (half_stays o j g refl)

  pub moved_out_of_order : Stands d s l t to → out_of_order t (placed to l) ≡ moved_fault d (out_of_order s l)
  unfolding out_of_order
  moved_out_of_order o =
      moved_earliest o (is_misplaced t (placed to l)) (is_misplaced s l) (λ i h. ap (λ (b : Bool). ltb 0 i && not b) (order_stays o (i - 1) i (omega arith) h))

-- ---- 10 to 14: each finds in t the fault that it finds in s, moved

module _ {d : ℕ} {s : List ℕ} {l : Layout} {t : List ℕ} {to : ℕ} (o : Stands d s l t to) where
  abbrev pub Moves : List (Rule Layout) → Type 0
  Moves [] = Unit {0}
  Moves (r ∷ rules) = (r.fault t (placed to l) ≡ moved_fault d (r.fault s l)) × Moves rules

  pub moved_faults : Moves object_rules
  moved_faults = (moved_out_of_order o, (moved_unpaired o, (moved_touching_itself o, (moved_odd_end o, (moved_wrong_ia o, tt)))))

  pub faultless_there : NoFault s l object_rules → NoFault t (placed to l) object_rules
  faultless_there = go object_rules moved_faults
    where
      go : (rules : List (Rule Layout)) → Moves rules → NoFault s l rules → NoFault t (placed to l) rules
      go [] m n = tt
      go (r ∷ rules) m n = (m.0 ∙ ap (moved_fault d) n.0, go rules m.1 n.1)

  pub faultless_here : NoFault t (placed to l) object_rules → NoFault s l object_rules
  faultless_here = go object_rules moved_faults
    where
      still : (f : Fault) → moved_fault d f ≡ None → f ≡ None
      still (Some p) e = absurd (not_nothing e)
      still None e = refl

      go : (rules : List (Rule Layout)) → Moves rules → NoFault t (placed to l) rules → NoFault s l rules
      go [] m n = tt
      go (r ∷ rules) m n = (still (r.fault s l) (sym m.0 ∙ n.0), go rules m.1 n.1)
