-- Reading an object, step by step; and what a taken object gives: its element records, one after the other, each with its tests passed, and its end.
use Rattle.scene.proofs.Outcomes.{never_taken, same_taken}
use Rattle.std.specs.Prelude.{Err, Ok}
use Rattle.scene.specs.Read.{CheckedObject, CheckedScene, Record}
use Prim.Native.Nat.{ℕ, zero, suc, ◌+◌, ◌-◌, ◌<◌, ◌≤◌, zero-le}
use native.Mathlib.Nat.{lt_irrefl}
use native.Mathlib.Decide.{dec_lt, ℕ_discrete}
use native.Mathlib.Omega.{arith}
use mathlib.Core.Path.{◌≡◌, refl, sym, ap, ap₂, subst, ◌∙◌}
use mathlib.Core.Bool.{Bool, true, false, not, cond, true≢false, false≢true}
use mathlib.Core.List.{List, [], ◌∷◌}
use lib.ListN.{length}
use lib.Dec.{T, leb, ltb, eqb, eqb→eq}
use borrow.Author.Tests.{eq-eqb, ne_eqb, leb-true, le-leb, ltb-true, ltb-false, lt-ltb, le-ltb}
use Rattle.scene.specs.declared.Reason.TheVariants.{MoreBytes}
use Rattle.scene.specs.declared.Shape.{Shape}
use Rattle.scene.specs.declared.Shape.TheVariants.{Points, Line, Region}
use Rattle.scene.specs.declared.Kind.{Kind}
use Rattle.scene.specs.declared.Kind.TheVariants.{Start, Element, End, Unknown}
use Rattle.scene.specs.declared.Layout.{Layout}
use Rattle.scene.specs.declared.Scene.{Scene}
use Rattle.scene.specs.declared.Refusal.{Refusal}
use Rattle.scene.specs.Read.{kind_at, shape_number, stands_in, starts_object, is_end, record_at, place, end_place, after, next, most, elements_from, begun, read_object, shape_of, byte, unless, decide, judge, ends_with, alone, read_alone, descends, arranged, turned, given_first, given_second, scene_with_second, scene_with_first, read_scene, IsObject}
use Rattle.scene.proofs.Passed.{Passed, passed, same_shape}

abbrev pub layout : Shape → ℕ → ℕ → Layout
layout k start n = record { shape = k; start = start; count = n }

-- the kinds that stand in an object
pub element_kind : (k : Shape) (j : Kind) → T (stands_in k j) → is_end j ≡ false → j ≡ Element k
element_kind k Start a e = absurd a
element_kind k (Element x) a e = ap Element (same_shape x k (eqb→eq (shape_number x) (shape_number k) a))
element_kind k End a e = absurd (true≢false e)
element_kind k Unknown a e = absurd a

end_kind : (j : Kind) → is_end j ≡ true → j ≡ End
end_kind Start e = absurd (false≢true e)
end_kind (Element x) e = absurd (false≢true e)
end_kind End e = refl
end_kind Unknown e = absurd (false≢true e)

-- ---- one step, n elements having been read
module _ (s : List ℕ) (k : Shape) (start : ℕ) where
  abbrev pub rest : ℕ → CheckedObject
  rest n = elements_from s (most - n) (layout k start n)

  abbrev pub record_of : ℕ → Record
  record_of n = record_at s (end_place (layout k start n)) (stands_in k) (eqb n most)

  -- the answer after n elements, by their next record
  record Step (n : ℕ) : Type 0 where
    other : CheckedObject
    is : rest n ≡ next (record_of n) (layout k start n) other
    goes : n < most → other ≡ rest (n + 1)

  step : (n : ℕ) → n ≤ most → Step n
  unfolding elements_from
  step n h = go (dec_lt n most)
    where
      more : n < most → rest n ≡ next (record_of n) (layout k start n) (rest (n + 1))
      more l = rw (ne_eqb n most (λ q. omega arith), left)
        where
          left : most - n ≡ suc (most - (n + 1))
          left = omega arith

      full : rest most ≡ next (record_of most) (layout k start most) (Ok (layout k start most))
      full = refl

      at_most : ¬ (n < most) → most ≡ n
      at_most l = omega arith

      go : Dec (n < most) → Step n
      go (yes l) = record { other = rest (n + 1); is = more l; goes = λ _. refl }
      go (no l) = subst Step (at_most l) (record { other = Ok (layout k start most); is = full; goes = λ g. absurd (lt_irrefl most g) })

  -- what that record decides
  pub stops : (n : ℕ) → n ≤ most → (r : Refusal) → record_of n ≡ Err r → rest n ≡ Err r
  stops n h r e = (step n h).is ∙ rw e

  pub ends_here : (n : ℕ) → n ≤ most → (j : Kind) → record_of n ≡ Ok j → is_end j ≡ true → rest n ≡ Ok (layout k start n)
  ends_here n h j e b = (step n h).is ∙ rw (e, b)

  pub record GoesOn (n : ℕ) : Type 0 where
    pub tests : Passed s (place (layout k start n) n) (stands_in k) false (Element k)
    pub room : n < most
    pub on : rest n ≡ rest (n + 1)

  pub goes_on : (n : ℕ) → n ≤ most → (j : Kind) → record_of n ≡ Ok j → is_end j ≡ false → GoesOn n
  goes_on n h j e b = record {
    tests = subst (λ (f : Bool). Passed s (place (layout k start n) n) (stands_in k) f (Element k)) (ne_eqb n most not_full) at_element;
    room = room;
    on = (step n h).is ∙ rw (e, b) ((step n h).goes room);
  }
    where
      tested : Passed s (place (layout k start n) n) (stands_in k) (eqb n most) j
      tested = passed s (place (layout k start n) n) (stands_in k) (eqb n most) j e

      at_element : Passed s (place (layout k start n) n) (stands_in k) (eqb n most) (Element k)
      at_element = subst (Passed s (place (layout k start n) n) (stands_in k) (eqb n most)) (element_kind k j tested.allows b) tested

      not_full : n ≡ most → ⊥
      not_full q = subst (λ (f : Bool). T (not f)) (eq-eqb n most q) at_element.room

      room : n < most
      room = omega (arith, not_full)

-- ---- a taken object
pub record TakenObject (s : List ℕ) (at : ℕ) (l : Layout) : Type 0 where
  pub starts : l.start ≡ at
  pub type : l.shape ≡ shape_of (byte s (at + 1))
  pub few : l.count ≤ most
  pub ends : after l ≤ length s
  pub end : kind_at s (end_place l) ≡ End
  pub elements : (i : ℕ) → i < l.count → Passed s (place l i) (stands_in l.shape) false (Element l.shape)

module _ (s : List ℕ) (k : Shape) (start : ℕ) (l : Layout) where
  -- from n elements on
  record ReadTo (n : ℕ) : Type 0 where
    last : ℕ
    is : layout k start last ≡ l
    few : last ≤ most
    ends : end_place (layout k start last) + 1 ≤ length s
    end : kind_at s (end_place (layout k start last)) ≡ End
    elements : (i : ℕ) → n ≤ i → i < last → Passed s (place (layout k start i) i) (stands_in k) false (Element k)

  read_one : (n : ℕ) → n ≤ most → (n < most → rest s k start (n + 1) ≡ Ok l → ReadTo (n + 1)) → rest s k start n ≡ Ok l → ReadTo n
  read_one n h later e = go (record_of s k start n) refl
    where
      ended : (j : Kind) → record_of s k start n ≡ Ok j → is_end j ≡ true → ReadTo n
      ended j q x = record {
        last = n;
        is = same_taken (sym (ends_here s k start n h j q x) ∙ e);
        few = h;
        ends = omega (arith, tests.whole);
        end = tests.kind ∙ end_kind j x;
        elements = λ i f t. absurd (omega arith);
      }
        where
          tests : Passed s (place (layout k start n) n) (stands_in k) (eqb n most) j
          tests = passed s (place (layout k start n) n) (stands_in k) (eqb n most) j q

      further : GoesOn s k start n → ReadTo n
      further g = record {
        last = r.last;
        is = r.is;
        few = r.few;
        ends = r.ends;
        end = r.end;
        elements = λ i f t. which i t (ℕ_discrete n i) f;
      }
        where
          r : ReadTo (n + 1)
          r = later g.room (sym g.on ∙ e)

          which : (i : ℕ) → i < r.last → Dec (n ≡ i) → n ≤ i → Passed s (place (layout k start i) i) (stands_in k) false (Element k)
          which i t (yes q) f = subst (λ (i : ℕ). Passed s (place (layout k start i) i) (stands_in k) false (Element k)) q g.tests
          which i t (no q) f = r.elements i (omega arith) t

      good : (j : Kind) → record_of s k start n ≡ Ok j → (b : Bool) → is_end j ≡ b → ReadTo n
      good j q true x = ended j q x
      good j q false x = further (goes_on s k start n h j q x)

      go : (r : Record) → record_of s k start n ≡ r → ReadTo n
      go (Err r) q = absurd (never_taken (sym (stops s k start n h r q) ∙ e))
      go (Ok j) q = good j q (is_end j) refl

  read_to : (m n : ℕ) → n + m ≡ most → rest s k start n ≡ Ok l → ReadTo n
  read_to zero n b e = read_one n (omega arith) (λ h. absurd (omega arith)) e
  read_to (suc m) n b e = read_one n (omega arith) (λ h. read_to m (n + 1) (omega arith)) e

-- the type record that an object begins with
pub type_record : (s : List ℕ) (at : ℕ) (j : Kind) → record_at s at starts_object false ≡ Ok j → at + 2 ≤ length s
type_record s at j e = go j (passed s at starts_object false j e)
  where
    go : (j : Kind) → Passed s at starts_object false j → at + 2 ≤ length s
    go Start p = omega (arith, p.whole)
    go (Element x) p = absurd p.allows
    go End p = absurd p.allows
    go Unknown p = absurd p.allows

pub taken_object : (s : List ℕ) (at : ℕ) (l : Layout) → read_object s at ≡ Ok l → TakenObject s at l
unfolding read_object
taken_object s at l e = go (record_at s at starts_object false) e
  where
    k : Shape
    k = shape_of (byte s (at + 1))

    read : rest s k at 0 ≡ Ok l → TakenObject s at l
    read q =
        subst (TakenObject s at) r.is
        (record { starts = refl; type = refl; few = r.few; ends = r.ends; end = r.end; elements = λ i t. r.elements i zero-le t })
      where
        r : ReadTo s k at l 0
        r = read_to s k at l most 0 refl q

    go : (r : Record) → begun r (rest s k at 0) ≡ Ok l → TakenObject s at l
    go (Err r) q = absurd (never_taken q)
    go (Ok j) q = read q

-- a layout says where its object starts
is_object : (s : List ℕ) (at : ℕ) (l : Layout) → read_object s at ≡ Ok l → IsObject s l
is_object s at l e = subst (λ (at : ℕ). read_object s at ≡ Ok l) (sym (taken_object s at l e).starts) e

-- ---- one object's bytes taken alone, and a taken scene: the bytes end where the last object does
pub record TakenAlone (s : List ℕ) (at : ℕ) (l : Layout) : Type 0 where
  pub object : TakenObject s at l
  pub read : IsObject s l
  pub all : length s ≡ after l

pub record TakenScene (s : List ℕ) (sc : Scene) : Type 0 where
  pub first_taken : TakenObject s 0 (given_first sc)
  pub first_read : IsObject s (given_first sc)
  pub second_taken : TakenAlone s (after (given_first sc)) (given_second sc)
  pub ascending : shape_number sc.f.shape ≤ shape_number sc.g.shape
  -- the objects are exchanged exactly where the types given descend
  pub by_types : turned sc ≡ descends (given_first sc).shape (given_second sc).shape

module _ (s : List ℕ) (at : ℕ) (l : Layout) (e : read_object s at ≡ Ok l) where
  -- 7 did not refuse
  not_seven : {A : Type 0} (refuse : Refusal → A) (a a' : A) → ((r : Refusal) → refuse r ≡ a' → ⊥) → judge refuse a (ends_with s l ∷ []) ≡ a' → TakenAlone s at l × (a ≡ a')
  not_seven refuse a a' never q = go (leb (length s) (after l)) refl q
    where
      taken : TakenObject s at l
      taken = taken_object s at l e

      go : (b : Bool) → leb (length s) (after l) ≡ b → decide refuse MoreBytes (unless b (after l)) a ≡ a' → TakenAlone s at l × (a ≡ a')
      go true x q = (record { object = taken; read = is_object s at l e; all = omega (arith, taken.ends, leb-true (length s) (after l) x) }, q)
      go false x q = absurd (never (record { reason = MoreBytes; place = after l }) q)

pub taken_alone : (s : List ℕ) (l : Layout) → read_alone s ≡ Ok l → TakenAlone s 0 l
unfolding read_alone
taken_alone s l e = go (read_object s 0) refl e
  where
    go : (o : CheckedObject) → read_object s 0 ≡ o → alone s o ≡ Ok l → TakenAlone s 0 l
    go (Err r) q x = absurd (never_taken x)
    go (Ok l') q x =
        let y = not_seven s 0 l' q Err (Ok l') (Ok l) (λ r. never_taken) x in
        subst (TakenAlone s 0) (same_taken y.1) y.0

-- ---- the order of two objects

-- the objects of a scene are those given, in their order or exchanged
module _ (P : Layout → Type 0) (sc : Scene) where
  pub both_of_given : P (given_first sc) → P (given_second sc) → P sc.f × P sc.g
  both_of_given = go (turned sc)
    where
      go : (t : Bool) → P (cond t sc.g sc.f) → P (cond t sc.f sc.g) → P sc.f × P sc.g
      go true a b = (b, a)
      go false a b = (a, b)

  pub given_of_both : P sc.f → P sc.g → P (given_first sc) × P (given_second sc)
  given_of_both a b = go (turned sc)
    where
      go : (t : Bool) → P (cond t sc.g sc.f) × P (cond t sc.f sc.g)
      go true = (b, a)
      go false = (a, b)

-- two objects, one before the other in the bytes, and the scene that they are read as
pub record Arranged (a b : Layout) (sc : Scene) : Type 0 where
  pub first : given_first sc ≡ a
  pub second : given_second sc ≡ b
  pub rises : shape_number sc.f.shape ≤ shape_number sc.g.shape
  pub where_descending : turned sc ≡ descends a.shape b.shape

pub arrange : (a b : Layout) → a.start < b.start → Arranged a b (arranged a b)
arrange a b h = go (descends a.shape b.shape) refl
  where
    go : (d : Bool) → descends a.shape b.shape ≡ d → Arranged a b (cond d (record { f = b; g = a }) (record { f = a; g = b }))
    go true e =
        let t : ltb a.start b.start ≡ true = lt-ltb a.start b.start h in
        record { first = rw t; second = rw t; rises = omega (arith, ltb-true (shape_number b.shape) (shape_number a.shape) e); where_descending = t ∙ sym e }
    go false e =
        let t : ltb b.start a.start ≡ false = le-ltb b.start a.start (omega arith) in
        record { first = rw t; second = rw t; rises = ltb-false (shape_number b.shape) (shape_number a.shape) e; where_descending = t ∙ sym e }

-- where the second begins, the first has ended
pub second_later : (s : List ℕ) (a b : Layout) → read_object s 0 ≡ Ok a → read_object s (after a) ≡ Ok b → a.start < b.start
second_later s a b p q = omega (arith, (taken_object s 0 a p).starts, (taken_object s (after a) b q).starts)

pub taken_scene : (s : List ℕ) (sc : Scene) → read_scene s ≡ Ok sc → TakenScene s sc
unfolding read_scene
taken_scene s sc e = of_first (read_object s 0) refl e
  where
    of_second : (a : Layout) → read_object s 0 ≡ Ok a → (o : CheckedObject) → read_object s (after a) ≡ o → scene_with_second s a o ≡ Ok sc → TakenScene s sc
    of_second a p (Err r) q x = absurd (never_taken x)
    of_second a p (Ok b) q x = subst (TakenScene s) (same_taken y.1) there
      where
        y : TakenAlone s (after a) b × ◌≡◌ {A = CheckedScene} (Ok (arranged a b)) (Ok sc)
        y = not_seven s (after a) b q Err (Ok (arranged a b)) (Ok sc) (λ r. never_taken) x

        o : Arranged a b (arranged a b)
        o = arrange a b (second_later s a b p q)

        there : TakenScene s (arranged a b)
        there = record {
          first_taken = subst (TakenObject s 0) (sym o.first) (taken_object s 0 a p);
          first_read = subst (IsObject s) (sym o.first) (is_object s 0 a p);
          second_taken = subst (λ (l : Layout). TakenAlone s (after l) (given_second (arranged a b))) (sym o.first) (subst (TakenAlone s (after a)) (sym o.second) y.0);
          ascending = o.rises;
          by_types = o.where_descending ∙ ap₂ (λ (l m : Layout). descends l.shape m.shape) (sym o.first) (sym o.second);
        }

    of_first : (o : CheckedObject) → read_object s 0 ≡ o → scene_with_first s o ≡ Ok sc → TakenScene s sc
    of_first (Err r) q x = absurd (never_taken x)
    of_first (Ok a) q x = of_second a q (read_object s (after a)) refl x

-- F and G, wherever they stand
module _ {s : List ℕ} {sc : Scene} (t : TakenScene s sc) where
  pub objects_read : IsObject s sc.f × IsObject s sc.g
  objects_read = both_of_given (IsObject s) sc t.first_read t.second_taken.read

  pub f_taken : TakenObject s sc.f.start sc.f
  f_taken = taken_object s sc.f.start sc.f objects_read.0

  pub g_taken : TakenObject s sc.g.start sc.g
  g_taken = taken_object s sc.g.start sc.g objects_read.1

-- and back: an object, or two, with no bytes after
no_seven : {A : Type 0} (refuse : Refusal → A) (a : A) (s : List ℕ) (l : Layout) → length s ≡ after l → judge refuse a (ends_with s l ∷ []) ≡ a
no_seven refuse a s l e = rw (le-leb (length s) (after l) (omega arith))

pub alone_read : (s : List ℕ) (l : Layout) → read_object s 0 ≡ Ok l → length s ≡ after l → read_alone s ≡ Ok l
unfolding read_alone
alone_read s l e all = ap (alone s) e ∙ no_seven Err (Ok l) s l all

pub scene_read : (s : List ℕ) (a b : Layout) → read_object s 0 ≡ Ok a → read_object s (after a) ≡ Ok b → length s ≡ after b
    → read_scene s ≡ Ok (arranged a b)
unfolding read_scene
scene_read s a b p q all = ap (scene_with_first s) p ∙ ap (scene_with_second s a) q ∙ no_seven Err (Ok (arranged a b)) s b all

pub taken_read : {s : List ℕ} {sc : Scene} → TakenScene s sc → read_scene s ≡ Ok sc
taken_read {s} {sc} t =
    scene_read s a b (at_start a t.first_read t.first_taken.starts) (at_start b t.second_taken.read t.second_taken.object.starts) t.second_taken.all
    ∙ ap Ok (arranged_again (turned sc) t.by_types)
  where
    a : Layout
    a = given_first sc

    b : Layout
    b = given_second sc

    at_start : (l : Layout) {at : ℕ} → IsObject s l → l.start ≡ at → read_object s at ≡ Ok l
    at_start l is starts = subst (λ (n : ℕ). read_object s n ≡ Ok l) starts is

    arranged_again : (d : Bool) → d ≡ descends (cond d sc.g sc.f).shape (cond d sc.f sc.g).shape → arranged (cond d sc.g sc.f) (cond d sc.f sc.g) ≡ sc
    arranged_again true e = rw (sym e)
    arranged_again false e = rw (sym e)

-- no object takes more than 19,459 bytes, and no scene more than 38,918
abbrev pub longest : ℕ
longest = 19459

short : (l : Layout) → l.count ≤ most → after l ≤ l.start + longest
short l h = go l.shape
  where
    go : (k : Shape) → after (layout k l.start l.count) ≤ l.start + longest
    go Points = omega arith
    go Line = omega arith
    go Region = omega arith

pub object_short : (s : List ℕ) (at : ℕ) (l : Layout) → TakenObject s at l → after l ≤ at + longest
object_short s at l t = omega (arith, short l t.few, t.starts)

pub scene_short : (s : List ℕ) (sc : Scene) → TakenScene s sc → length s ≤ 38918
scene_short s sc t =
    omega (arith, object_short s 0 (given_first sc) t.first_taken, object_short s (after (given_first sc)) (given_second sc) t.second_taken.object, t.second_taken.all)
