-- Bytes that stand elsewhere: where t from offset d on reads as s does, a record, and with it an object, is read in t as in s, each place raised by d.
use Rattle.std.specs.Prelude.{Err, None, Ok, Some}
use Rattle.scene.specs.Read.{CheckedObject, Fault, Record}
use Prim.Native.Nat.{ℕ, zero, suc, ◌+◌, ◌<◌, ◌≤◌}
use native.Mathlib.Nat.{add-zero, mul-le-mul_right}
use native.Mathlib.Omega.{arith}
use mathlib.Core.Path.{◌≡◌, refl, sym, ap, ap₂, subst, ◌∙◌}
use mathlib.Core.Bool.{Bool, true, false, false≢true}
use mathlib.Core.List.{List, [], ◌∷◌}
use lib.ListN.{length}
use lib.Dec.{eqb}
use borrow.Author.Tests.{eqb-true, eqb-false, not-true}
use Rattle.plane.specs.Plane.{in_range, segment_in_range, ordered}
use Rattle.scene.specs.declared.Reason.TheVariants.{WrongKind, WrongField, OutOfRange, EndsReversed, TooMany}
use Rattle.scene.specs.declared.Shape.{Shape}
use Rattle.scene.specs.declared.Shape.TheVariants.{Points, Line, Region}
use Rattle.scene.specs.declared.Kind.{Kind}
use Rattle.scene.specs.declared.Kind.TheVariants.{Start, Element, End, Unknown}
use Rattle.scene.specs.declared.Layout.{Layout}
use Rattle.scene.specs.declared.Refusal.{Refusal}
use Rattle.scene.specs.Read.{byte, coordinate, point_from, segment_at, kind_of, kind_at, shape_number, shape_of, body_length, has_room, stands_in, starts_object, is_end, unless, condition, judge, fields_good, coordinates_good, ends_good, record_at, size, place, end_place, after, most, begun, read_object}
use Rattle.scene.specs.Inner.{fields_at}
use Rattle.scene.proofs.Passed.{refusal, not_allowed, no_room, whole_body, same_shape}
use Rattle.scene.proofs.Taken.{layout, rest, record_of, stops, ends_here, GoesOn, goes_on, TakenObject}

-- ---- places raised by d

abbrev pub placed : ℕ → Layout → Layout
placed to l = layout l.shape to l.count

module _ (d : ℕ) where
  abbrev pub moved : Layout → Layout
  moved l = placed (l.start + d) l

  abbrev pub moved_fault : Fault → Fault
  moved_fault (Some p) = Some (p + d)
  moved_fault None = None

  abbrev pub moved_refusal : Refusal → Refusal
  moved_refusal r = refusal r.reason (r.place + d)

  abbrev pub moved_record : Record → Record
  moved_record (Ok k) = Ok k
  moved_record (Err r) = Err (moved_refusal r)

  abbrev pub moved_object : CheckedObject → CheckedObject
  moved_object (Ok l) = Ok (moved l)
  moved_object (Err r) = Err (moved_refusal r)

  moved_begun : (r : Record) (o : CheckedObject) → begun (moved_record r) (moved_object o) ≡ moved_object (begun r o)
  moved_begun (Ok k) o = refl
  moved_begun (Err r) o = refl

-- by 0: nothing moves
pub unmoved : (l : Layout) → moved 0 l ≡ l
unmoved l = ap (λ (p : ℕ). placed p l) (add-zero l.start)

pub unmoved_fault : (f : Fault) → moved_fault 0 f ≡ f
unmoved_fault (Some p) = ap Some (add-zero p)
unmoved_fault None = refl

pub unmoved_object : (o : CheckedObject) → moved_object 0 o ≡ o
unmoved_object (Ok l) = ap Ok (unmoved l)
unmoved_object (Err r) = ap (λ (p : ℕ). Err (refusal r.reason p)) (add-zero r.place)

-- ---- bytes that agree

-- the first n bytes of s stand in t from offset d on
pub record Agree (d n : ℕ) (s t : List ℕ) : Type 0 where
  pub long_s : n ≤ length s
  pub long_t : n + d ≤ length t
  pub same : (i : ℕ) → i < n → byte t (i + d) ≡ byte s i

-- bytes agree with themselves
pub agree_itself : (s : List ℕ) → Agree 0 (length s) s s
agree_itself s = record { long_s = omega arith; long_t = omega arith; same = λ i h. ap (byte s) (add-zero i) }

-- what stands in s at an offset stands in t at the offset to, d higher
module _ {d n : ℕ} {s t : List ℕ} (g : Agree d n s t) where
  pub same_byte : (at to : ℕ) → to ≡ at + d → at < n → byte t to ≡ byte s at
  same_byte at to e h = ap (byte t) e ∙ g.same at h

  same_coordinate : (at to : ℕ) → to ≡ at + d → at + 4 ≤ n → coordinate t to ≡ coordinate s at
  unfolding coordinate
  same_coordinate at to e h =
      rw (same_byte at to e (omega arith), same_byte (at + 1) (to + 1) (omega arith) (omega arith), same_byte (at + 2) (to + 2) (omega arith) (omega arith), same_byte (at + 3) (to + 3) (omega arith) (omega arith))

  pub same_point : (at to : ℕ) → to ≡ at + d → at + 8 ≤ n → point_from t to ≡ point_from s at
  same_point at to e h = λ i. record { x = same_coordinate at to e (omega arith) i; y = same_coordinate (at + 4) (to + 4) (omega arith) (omega arith) i }

  pub same_segment : (at to : ℕ) → to ≡ at + d → at + 17 ≤ n → segment_at t to ≡ segment_at s at
  same_segment at to e h =
      λ i. record { left = same_point (at + 1) (to + 1) (omega arith) (omega arith) i; right = same_point (at + 9) (to + 9) (omega arith) (omega arith) i }

-- the three tests on a record's fields, at p
abbrev field_tests : Kind → ℕ → Bool → Bool → Bool → Record
field_tests k p fields coordinates ends =
    judge Err (Ok k) (condition WrongField (unless fields p) ∷ condition OutOfRange (unless coordinates p) ∷ condition EndsReversed (unless ends p) ∷ [])

moved_tests : (d : ℕ) (k : Kind) (p : ℕ) (fields coordinates ends : Bool) → field_tests k (p + d) fields coordinates ends ≡ moved_record d (field_tests k p fields coordinates ends)
moved_tests d k p false coordinates ends = refl
moved_tests d k p true false ends = refl
moved_tests d k p true true false = refl
moved_tests d k p true true true = refl

-- ---- a record

module _ {d n : ℕ} {s t : List ℕ} (g : Agree d n s t) (at to : ℕ) (e : to ≡ at + d) where
  same_fields : (k : Kind) → at + 1 + body_length k ≤ n → fields_good t to k ≡ fields_good s at k
  same_fields Start h = rw (same_byte g (at + 1) (to + 1) (omega arith) (omega arith))
  same_fields (Element Points) h = refl
  same_fields (Element Line) h = rw (same_byte g (at + 17) (to + 17) (omega arith) (omega arith))
  same_fields (Element Region) h =
      rw (same_byte g (at + 17) (to + 17) (omega arith) (omega arith), same_byte g (at + 18) (to + 18) (omega arith) (omega arith))
  same_fields End h = refl
  same_fields Unknown h = refl

  same_coordinates : (k : Kind) → at + 1 + body_length k ≤ n → coordinates_good t to k ≡ coordinates_good s at k
  same_coordinates Start h = refl
  same_coordinates (Element Points) h = ap in_range (same_point g (at + 1) (to + 1) (omega arith) (omega arith))
  same_coordinates (Element Line) h = ap segment_in_range (same_segment g at to e (omega arith))
  same_coordinates (Element Region) h = ap segment_in_range (same_segment g at to e (omega arith))
  same_coordinates End h = refl
  same_coordinates Unknown h = refl

  same_ends : (k : Kind) → at + 1 + body_length k ≤ n → ends_good t to k ≡ ends_good s at k
  same_ends Start h = refl
  same_ends (Element Points) h = refl
  same_ends (Element Line) h = ap ordered (same_segment g at to e (omega arith))
  same_ends (Element Region) h = ap ordered (same_segment g at to e (omega arith))
  same_ends End h = refl
  same_ends Unknown h = refl

  moved_fields : (k : Kind) → at + 1 + body_length k ≤ n → fields_at t to k ≡ moved_record d (fields_at s at k)
  moved_fields k h =
      (λ i. field_tests k (e i) (same_fields k h i) (same_coordinates k h i) (same_ends k h i))
      ∙ moved_tests d k at (fields_good s at k) (coordinates_good s at k) (ends_good s at k)

  -- where a record is allowed and there is room, its body has to be in reach
  module _ (allowed : Kind → Bool) (full : Bool) where
    abbrev InReach : Type 0
    InReach = (j : Kind) → kind_at s at ≡ j → allowed j ≡ true → has_room full j ≡ true → at + 1 + body_length j ≤ n

    moved_record_lem : at < n → InReach → record_at t to allowed full ≡ moved_record d (record_at s at allowed full)
    moved_record_lem b reach = kinds (allowed j) refl
      where
        j : Kind
        j = kind_at s at

        kind : kind_at t to ≡ j
        kind = ap kind_of (same_byte g at to e b)

        in_s : at < length s
        in_s = omega (arith, g.long_s)

        in_t : to < length t
        in_t = omega (arith, g.long_t)

        rooms : allowed j ≡ true → (x : Bool) → has_room full j ≡ x → record_at t to allowed full ≡ moved_record d (record_at s at allowed full)
        rooms a true r =
            let body : at + 1 + body_length j ≤ n = reach j refl a r in
            whole_body t to allowed full j in_t kind a r (omega (arith, g.long_t))
            ∙ moved_fields j body
            ∙ ap (moved_record d) (sym (whole_body s at allowed full j in_s refl a r (omega (arith, g.long_s))))
        rooms a false r =
            no_room t to allowed full j in_t kind a r
            ∙ ap (λ (p : ℕ). Err (refusal TooMany p)) e
            ∙ ap (moved_record d) (sym (no_room s at allowed full j in_s refl a r))

        kinds : (x : Bool) → allowed j ≡ x → record_at t to allowed full ≡ moved_record d (record_at s at allowed full)
        kinds true a = rooms a (has_room full j) refl
        kinds false a =
            not_allowed t to allowed full j in_t kind a
            ∙ ap (λ (p : ℕ). Err (refusal WrongKind p)) e
            ∙ ap (moved_record d) (sym (not_allowed s at allowed full j in_s refl a))

  moved_type : at + 2 ≤ n → record_at t to starts_object false ≡ moved_record d (record_at s at starts_object false)
  moved_type h = moved_record_lem starts_object false (omega arith) reach
    where
      reach : InReach starts_object false
      reach Start q a r = omega arith
      reach (Element x) q a r = absurd (false≢true a)
      reach End q a r = absurd (false≢true a)
      reach Unknown q a r = absurd (false≢true a)

-- ---- an object

-- an earlier record lies before a later one
pub room_for : (k : Shape) (start i j : ℕ) → i < j → place (layout k start i) i + size k ≤ place (layout k start j) j
room_for k start i j h = omega (arith, mul-le-mul_right (size k) h)

-- from `at` on, reading looks at the first n bytes alone: after `last` elements it goes no further
pub record Reach (n : ℕ) (s : List ℕ) (k : Shape) (at : ℕ) : Type 0 where
  pub last : ℕ
  pub few : last ≤ most
  pub within : end_place (layout k at last) < n
  pub no_more : last < most → kind_at s (end_place (layout k at last)) ≡ Element k → ⊥

module _ {d n : ℕ} {s t : List ℕ} (g : Agree d n s t) (at to : ℕ) (e : to ≡ at + d) where
  module _ (k : Shape) (o : Reach n s k at) where
    -- c elements having been read
    moved_one : (c : ℕ) → c ≤ o.last → (c < o.last → rest t k to (c + 1) ≡ moved_object d (rest s k at (c + 1))) → rest t k to c ≡ moved_object d (rest s k at c)
    moved_one c h later = go (record_of s k at c) refl
      where
        few : c ≤ most
        few = omega (arith, o.few)

        not_last : c < most → kind_at s (end_place (layout k at c)) ≡ Element k → c ≡ o.last → ⊥
        not_last b q x = o.no_more (omega arith) (subst (λ (c : ℕ). kind_at s (end_place (layout k at c)) ≡ Element k) x q)

        in_reach : end_place (layout k at c) < n
        in_reach = omega (arith, o.within, mul-le-mul_right (size k) h)

        -- only the last may be cut off, and that is no element, or has no room
        whole : kind_at s (end_place (layout k at c)) ≡ Element k → eqb c most ≡ false → end_place (layout k at c) + size k ≤ n
        whole q r = omega (arith, o.within, room_for k at c o.last (omega (arith, not_last (omega (arith, eqb-false c most r)) q)))

        reach : InReach g (end_place (layout k at c)) (end_place (layout k to c)) (omega arith) (stands_in k) (eqb c most)
        reach Start q a r = absurd (false≢true a)
        reach (Element x) q a r =
            let same : x ≡ k = same_shape x k (eqb-true (shape_number x) (shape_number k) a) in
            let body : end_place (layout k at c) + size k ≤ n = whole (q ∙ ap Element same) (not-true (eqb c most) r) in
            omega (arith, ap size same)
        reach End q a r = omega (arith, in_reach)
        reach Unknown q a r = absurd (false≢true a)

        record_there : record_of t k to c ≡ moved_record d (record_of s k at c)
        record_there = moved_record_lem g (end_place (layout k at c)) (end_place (layout k to c)) (omega arith) (stands_in k) (eqb c most) in_reach reach

        good : (j : Kind) → record_of s k at c ≡ Ok j → (x : Bool) → is_end j ≡ x → rest t k to c ≡ moved_object d (rest s k at c)
        good j q true x =
            ends_here t k to c few j (record_there ∙ ap (moved_record d) q) x
            ∙ ap (λ (p : ℕ). Ok (layout k p c)) e
            ∙ ap (moved_object d) (sym (ends_here s k at c few j q x))
        good j q false x =
            let here : GoesOn s k at c = goes_on s k at c few j q x in
            (goes_on t k to c few j (record_there ∙ ap (moved_record d) q) x).on
            ∙ later (omega (arith, not_last here.room here.tests.kind))
            ∙ ap (moved_object d) (sym here.on)

        go : (r : Record) → record_of s k at c ≡ r → rest t k to c ≡ moved_object d (rest s k at c)
        go (Err r) q =
            stops t k to c few (moved_refusal d r) (record_there ∙ ap (moved_record d) q)
            ∙ ap (moved_object d) (sym (stops s k at c few r q))
        go (Ok j) q = good j q (is_end j) refl

    moved_rest : (m c : ℕ) → c + m ≡ o.last → rest t k to c ≡ moved_object d (rest s k at c)
    moved_rest zero c q = moved_one c (omega arith) (λ h. absurd (omega arith))
    moved_rest (suc m) c q = moved_one c (omega arith) (λ h. moved_rest m (c + 1) (omega arith))

  -- what is read in t, or refused, is what is read in s, moved
  pub moved_object_lem : Reach n s (shape_of (byte s (at + 1))) at → read_object t to ≡ moved_object d (read_object s at)
  unfolding read_object
  moved_object_lem o =
      ap₂ begun (moved_type g at to e (omega (arith, o.within)))
      (ap (λ (b : ℕ). rest t (shape_of b) to 0) (same_byte g (at + 1) (to + 1) (omega arith) (omega (arith, o.within)))
      ∙ moved_rest (shape_of (byte s (at + 1))) o o.last 0 (omega arith))
      ∙ moved_begun d (record_at s at starts_object false) (rest s (shape_of (byte s (at + 1))) at 0)

  -- an object that is taken in t, and ends where the bytes of s do at the latest
  pub taken_reach : (l : Layout) → TakenObject t to l → after l ≤ n + d → Reach n s (shape_of (byte s (at + 1))) at
  taken_reach l o h = record {
    last = l.count;
    few = o.few;
    within = omega (arith, ends);
    no_more = λ _ q. not_element (sym end ∙ ap kind_of (same_byte g (end_place in_s) (end_place in_t) (omega arith) (omega (arith, ends))) ∙ q);
  }
    where
      k : Shape
      k = shape_of (byte s (at + 1))

      in_s : Layout
      in_s = layout k at l.count

      in_t : Layout
      in_t = layout k to l.count

      is : l ≡ in_t
      is = λ i. layout ((o.type ∙ ap shape_of (same_byte g (at + 1) (to + 1) (omega arith) (omega (arith, o.starts)))) i) (o.starts i) l.count

      ends : after in_t ≤ n + d
      ends = subst (λ (l : Layout). after l ≤ n + d) is h

      end : kind_at t (end_place in_t) ≡ End
      end = subst (λ (l : Layout). kind_at t (end_place l) ≡ End) is o.end

      not_element : End ≡ Element k → ⊥
      not_element q = let z : ◌≡◌ {A = ℕ} 0 1 = cc in omega arith
