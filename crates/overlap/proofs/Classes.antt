-- The class flags of the vectors question and the overlap list say the same: a flag (m/n) of F or of G is set exactly if the list has the byte 3m + n at
-- a segment of F alone, of G alone, or of both.
use Rattle.std.specs.Prelude.{Ok}
use Prim.Native.Nat.{ℕ, ◌+◌, ◌*◌}
use native.Mathlib.Omega.{arith}
use mathlib.Core.Path.{◌≡◌, refl, sym, ap, ap₂, subst, ◌∙◌}
use mathlib.Core.Logic.{inl, inr, ⊎_elim}
use mathlib.Core.Bool.{Bool, true, false, not, ◌&&◌, ◌||◌, and-true, and-false, cond, true≢false}
use mathlib.Core.List.{List, [], ◌∷◌}
use lib.Dec.{T, eqb}
use lib.ListN.{take}
use Rattle.whole.specs.Count.{bit, some, ◌∈◌, here, there}
use Rattle.whole.proofs.Logic.{and_left, and_right, and_make, is_true, true_is, same_test, some_find, some_make, in_cons, in_map, map_in}
use Rattle.plane.specs.declared.Segment.{Segment}
use Rattle.plane.specs.Plane.{midpoint, is_same_segment, inside, interior_above}
use Rattle.plane.proofs.Equal.{same_segment_read, same_segment_refl}
use Rattle.scene.specs.declared.Shape.{Shape}
use Rattle.scene.specs.declared.Shape.TheVariants.{Points, Line, Region}
use Rattle.scene.specs.declared.Layout.{Layout}
use Rattle.scene.specs.declared.Scene.{Scene}
use Rattle.scene.specs.Conditions.{elements, keep, is_region, left_test, segments}
use Rattle.check_verdict.proofs.Laws.{SoundObject, ia_is}
use Rattle.scene_segments.proofs.Indices.{in_element}
use Rattle.flags.specs.Flags.{Edge, Elements, region, outline, has_segment, mid_inside, mid_outside, class01, class10, class12, class21, class02, class20, class11, flags_of_f, flags_of_g}
use Rattle.flags.specs.Elements.{edge_of, edges, elements_of, elements_as, same_ia, Clear}
use Rattle.flags.proofs.Elements.{some_on, outline_edges}
use Rattle.flags.proofs.Inside.{inside_on}
use Rattle.overlap.specs.Bytes.{merge, adjoins, byte_of}
use Rattle.overlap.proofs.Members.{merge_in, in_merge_f, in_merge_g}
use Rattle.overlap.proofs.Adjoins.{adjoins_other, edge_there, edge_find, Marked, adjoins_edge}
use Rattle.overlap.specs.Walked.{TwoRegions}
use Rattle.overlap.proofs.Clear.{either_clear}
use Rattle.overlap.specs.Rules.{check_list}
use Rattle.overlap.proofs.Checked.{listable}
use Rattle.overlap.specs.Classes.{of_f_lem, of_g_lem, of_both_lem, belongs, has_byte, classes_of_f, classes_of_g}

-- ---- the byte by ia, and by "inside"

code : Bool → Bool → Bool → Bool → ℕ
code p q r s = 3 * (bit p + bit q) + (bit r + bit s)

alone_byte : Bool → Bool → ℕ
alone_byte ia i = code (not ia) i ia i

both_byte : Bool → Bool → ℕ
both_byte p q = code (not p) (not q) p q

-- what the tests of an edge come to, h where its segment is one of the other region's
outside_apart : (x h i : Bool) → x && (not h && not i) ≡ (x && not i) && not h
outside_apart true true true = refl
outside_apart true true false = refl
outside_apart true false true = refl
outside_apart true false false = refl
outside_apart false h i = refl

inside_apart : (x h i : Bool) → (h ≡ true → i ≡ false) → x && i ≡ (x && i) && not h
inside_apart true true true never = absurd (true≢false (never refl))
inside_apart true false true never = refl
inside_apart true h false never = refl
inside_apart false h i never = refl

module _ (F G : List Edge) (a b : Segment → Bool) (mark-f : Marked F a) (mark-g : Marked G b) where
  alone_byte_lem : {f : Edge} → f ∈ F → has_segment (outline G) f.segment ≡ false → byte_of F G f.segment ≡ alone_byte f.ia (inside (outline G) (midpoint f.segment))
  unfolding alone_byte code
  alone_byte_lem {f} m n =
      λ i. code (adjoins_edge F a mark-f m false i) (sym (adjoins_other G f.segment false refl n) i) (adjoins_edge F a mark-f m true i) (sym (adjoins_other G f.segment true refl n) i)

  both_byte_lem : {f g : Edge} → f ∈ F → g ∈ G → f.segment ≡ g.segment → byte_of F G f.segment ≡ both_byte f.ia g.ia
  unfolding both_byte code
  both_byte_lem {f} {g} m k e = λ i. code (adjoins_edge F a mark-f m false i) (of_other false i) (adjoins_edge F a mark-f m true i) (of_other true i)
    where
      of_other : (above : Bool) → adjoins above G f.segment ≡ same_ia above g.ia
      of_other above = ap (adjoins above G) e ∙ adjoins_edge G b mark-g k above

  -- ---- a class of F alone: a test of ia and of "inside the other" that the byte n stands for

  module _ (c : Bool → Bool → Bool) (n : ℕ) (agree : (ia i : Bool) → c ia i ≡ eqb (alone_byte ia i) n) where
    abbrev of_edge : Edge → Bool
    of_edge f = c f.ia (inside (outline G) (midpoint f.segment)) && not (has_segment (outline G) f.segment)

    abbrev of_segment : Segment → Bool
    of_segment t = belongs F G of_f_lem t && eqb (byte_of F G t) n

    same_byte : {f : Edge} → f ∈ F → has_segment (outline G) f.segment ≡ false → c f.ia (inside (outline G) (midpoint f.segment)) ≡ eqb (byte_of F G f.segment) n
    same_byte {f} m q = agree f.ia (inside (outline G) (midpoint f.segment)) ∙ ap (λ (k : ℕ). eqb k n) (sym (alone_byte_lem m q))

    edge_segment_same : {f : Edge} → f ∈ F → of_edge f ≡ of_segment f.segment
    edge_segment_same {f} m = go (has_segment (outline G) f.segment) refl
      where
        go : (h : Bool) → has_segment (outline G) f.segment ≡ h
            → c f.ia (inside (outline G) (midpoint f.segment)) && not h ≡ (has_segment (outline F) f.segment && not h) && eqb (byte_of F G f.segment) n
        go true q = rw (edge_there F m) (and-false (c f.ia (inside (outline G) (midpoint f.segment))))
        go false q = rw (edge_there F m) (and-true (c f.ia (inside (outline G) (midpoint f.segment))) ∙ same_byte m q)

    alone : some of_edge F ≡ has_byte F G of_f_lem n
    alone = same_test (some of_edge F) (has_byte F G of_f_lem n) to from
      where
        to : T (some of_edge F) → T (has_byte F G of_f_lem n)
        to h =
            let w = some_find of_edge F h in
            some_make of_segment (in_merge_f (outline F) (outline G) (in_map (λ (e : Edge). e.segment) w.1)) (subst T (edge_segment_same w.1) w.2)

        from : T (has_byte F G of_f_lem n) → T (some of_edge F)
        from h =
            let w = some_find of_segment (merge (outline F) (outline G)) h in
            let t = w.0 in
            let v = edge_find F t (and_left (has_segment (outline F) t) (not (has_segment (outline G) t)) (and_left (belongs F G of_f_lem t) (eqb (byte_of F G t) n) w.2)) in
            some_make of_edge v.1 (subst T (sym (edge_segment_same v.1)) (subst (λ (t : Segment). T (of_segment t)) v.2 w.2))

  -- ---- a class of both: a test of the two ia

  module _ (c : Bool → Bool → Bool) (n : ℕ) (agree : (p q : Bool) → c p q ≡ eqb (both_byte p q) n) where
    abbrev of_pair : Edge → Edge → Bool
    of_pair f g = is_same_segment f.segment g.segment && c f.ia g.ia

    abbrev of_shared : Segment → Bool
    of_shared t = belongs F G of_both_lem t && eqb (byte_of F G t) n

    both : some (λ (f : Edge). some (of_pair f) G) F ≡ has_byte F G of_both_lem n
    both = same_test (some (λ (f : Edge). some (of_pair f) G) F) (has_byte F G of_both_lem n) to from
      where
        to : T (some (λ (f : Edge). some (of_pair f) G) F) → T (has_byte F G of_both_lem n)
        to h =
            let w = some_find (λ (f : Edge). some (of_pair f) G) F h in
            let v = some_find (of_pair w.0) G w.2 in
            let f = w.0 in
            let g = v.0 in
            let e = same_segment_read f.segment g.segment (and_left (is_same_segment f.segment g.segment) (c f.ia g.ia) v.2) in
            some_make of_shared (in_merge_f (outline F) (outline G) (in_map (λ (e : Edge). e.segment) w.1))
            (and_make (belongs F G of_both_lem f.segment) (eqb (byte_of F G f.segment) n)
            (and_make (has_segment (outline F) f.segment) (has_segment (outline G) f.segment) (is_true _ (edge_there F w.1))
            (is_true _ (ap (has_segment (outline G)) e ∙ edge_there G v.1)))
            (subst T (agree f.ia g.ia ∙ ap (λ (k : ℕ). eqb k n) (sym (both_byte_lem w.1 v.1 e))) (and_right (is_same_segment f.segment g.segment) (c f.ia g.ia) v.2)))

        from : T (has_byte F G of_both_lem n) → T (some (λ (f : Edge). some (of_pair f) G) F)
        from h =
            let w = some_find of_shared (merge (outline F) (outline G)) h in
            let t = w.0 in
            let m = and_left (belongs F G of_both_lem t) (eqb (byte_of F G t) n) w.2 in
            let x = edge_find F t (and_left (has_segment (outline F) t) (has_segment (outline G) t) m) in
            let y = edge_find G t (and_right (has_segment (outline F) t) (has_segment (outline G) t) m) in
            let f = x.0 in
            let g = y.0 in
            let e = sym x.2 ∙ y.2 in
            some_make (λ (f : Edge). some (of_pair f) G) x.1
            (some_make (of_pair f) y.1
            (and_make (is_same_segment f.segment g.segment) (c f.ia g.ia) (subst (λ (u : Segment). T (is_same_segment f.segment u)) e (same_segment_refl f.segment))
            (subst T (sym (agree f.ia g.ia ∙ ap (λ (k : ℕ). eqb k n) (sym (both_byte_lem x.1 y.1 e))))
            (subst (λ (t : Segment). T (eqb (byte_of F G t) n)) x.2 (and_right (belongs F G of_both_lem t) (eqb (byte_of F G t) n) w.2)))))

  -- ---- the flags of F

  module _ (clear : (f : Edge) → f ∈ F → Clear (outline G) f.segment) where
    abbrev within : Edge → Bool
    within f = inside (outline G) (midpoint f.segment)

    abbrev shared : Edge → Bool
    shared f = has_segment (outline G) f.segment

    outside_test : (x : Edge → Bool) → some (λ (f : Edge). x f && mid_outside G f) F ≡ some (λ (f : Edge). (x f && not (within f)) && not (shared f)) F
    outside_test x =
        some_on (λ (f : Edge). x f && mid_outside G f) (λ (f : Edge). (x f && not (within f)) && not (shared f)) F
        (λ f m. ap (λ (h : Bool). x f && (not h && not (within f))) (clear f m) ∙ outside_apart (x f) (shared f) (within f))

    inside_test : (x : Edge → Bool) → some (λ (f : Edge). x f && mid_inside G f) F ≡ some (λ (f : Edge). (x f && within f) && not (shared f)) F
    inside_test x =
        some_on (λ (f : Edge). x f && mid_inside G f) (λ (f : Edge). (x f && within f) && not (shared f)) F
        (λ f m. inside_apart (x f) (shared f) (within f) (λ e. inside_on (outline G) (midpoint f.segment) (clear f m ∙ e)))

    class_01 : class01 F G ≡ has_byte F G of_f_lem 1
    unfolding alone_byte code
    class_01 = outside_test (λ (f : Edge). f.ia) ∙ alone (λ ia i. ia && not i) 1 agree
      where
        agree : (ia i : Bool) → ia && not i ≡ eqb (alone_byte ia i) 1
        agree true true = refl
        agree true false = refl
        agree false true = refl
        agree false false = refl

    class_10 : class10 F G ≡ has_byte F G of_f_lem 3
    unfolding alone_byte code
    class_10 = outside_test (λ (f : Edge). not f.ia) ∙ alone (λ ia i. not ia && not i) 3 agree
      where
        agree : (ia i : Bool) → not ia && not i ≡ eqb (alone_byte ia i) 3
        agree true true = refl
        agree true false = refl
        agree false true = refl
        agree false false = refl

    class_12 : class12 F G ≡ has_byte F G of_f_lem 5
    unfolding alone_byte code
    class_12 = inside_test (λ (f : Edge). f.ia) ∙ alone (λ ia i. ia && i) 5 agree
      where
        agree : (ia i : Bool) → ia && i ≡ eqb (alone_byte ia i) 5
        agree true true = refl
        agree true false = refl
        agree false true = refl
        agree false false = refl

    class_21 : class21 F G ≡ has_byte F G of_f_lem 7
    unfolding alone_byte code
    class_21 = inside_test (λ (f : Edge). not f.ia) ∙ alone (λ ia i. not ia && i) 7 agree
      where
        agree : (ia i : Bool) → not ia && i ≡ eqb (alone_byte ia i) 7
        agree true true = refl
        agree true false = refl
        agree false true = refl
        agree false false = refl

  class_02 : class02 F G ≡ has_byte F G of_both_lem 2
  unfolding both_byte code
  class_02 = both (λ p q. p && q) 2 agree
    where
      agree : (p q : Bool) → p && q ≡ eqb (both_byte p q) 2
      agree true true = refl
      agree true false = refl
      agree false true = refl
      agree false false = refl

  class_20 : class20 F G ≡ has_byte F G of_both_lem 6
  unfolding both_byte code
  class_20 = both (λ p q. not p && not q) 6 agree
    where
      agree : (p q : Bool) → not p && not q ≡ eqb (both_byte p q) 6
      agree true true = refl
      agree true false = refl
      agree false true = refl
      agree false false = refl

  class_11 : class11 F G ≡ has_byte F G of_both_lem 4
  unfolding both_byte code
  class_11 = both (λ p q. p && not q || not p && q) 4 agree
    where
      agree : (p q : Bool) → p && not q || not p && q ≡ eqb (both_byte p q) 4
      agree true true = refl
      agree true false = refl
      agree false true = refl
      agree false false = refl

-- ---- the flags of G: the list is the same with the regions exchanged

module _ (F G : List Edge) where
  byte_exchanged : (t : Segment) → byte_of G F t ≡ byte_of F G t
  byte_exchanged t = omega arith

  exchanged : (n : ℕ) → has_byte G F of_f_lem n ≡ has_byte F G of_g_lem n
  exchanged n =
      some_on (λ t. belongs G F of_f_lem t && eqb (byte_of G F t) n) (λ t. belongs F G of_g_lem t && eqb (byte_of F G t) n) (merge (outline G) (outline F))
      (λ t m. ap (λ (k : ℕ). belongs F G of_g_lem t && eqb k n) (byte_exchanged t))
      ∙ same_test (some test (merge (outline G) (outline F))) (some test (merge (outline F) (outline G))) (moved (outline G) (outline F)) (moved (outline F) (outline G))
    where
      test : Segment → Bool
      test t = belongs F G of_g_lem t && eqb (byte_of F G t) n

      moved : (A B : List Segment) → T (some test (merge A B)) → T (some test (merge B A))
      moved A B h =
          let w = some_find test (merge A B) h in
          some_make test (⊎_elim (in_merge_g B A) (in_merge_f B A) (merge_in A B w.1)) w.2

-- ---- of two regions, and of a scene

class_flags : (F G : List Edge) (a b : Segment → Bool) → Marked F a → Marked G b
    → ((f : Edge) → f ∈ F → Clear (outline G) f.segment) → ((g : Edge) → g ∈ G → Clear (outline F) g.segment)
    → (take 7 (flags_of_f (region F) (region G)) ≡ classes_of_f F G) × (flags_of_g (region F) (region G) ≡ classes_of_g F G)
class_flags F G a b p q c d = (
  (λ i. class_01 F G a b p q c i ∷ class_10 F G a b p q c i ∷ class_12 F G a b p q c i ∷ class_21 F G a b p q c i
      ∷ class_02 F G a b p q i ∷ class_20 F G a b p q i ∷ class_11 F G a b p q i ∷ []),
  (λ i. g01 i ∷ g10 i ∷ g12 i ∷ g21 i ∷ []),
)
  where
    g01 : class01 G F ≡ has_byte F G of_g_lem 1
    g01 = class_01 G F b a q p d ∙ exchanged F G 1

    g10 : class10 G F ≡ has_byte F G of_g_lem 3
    g10 = class_10 G F b a q p d ∙ exchanged F G 3

    g12 : class12 G F ≡ has_byte F G of_g_lem 5
    g12 = class_12 G F b a q p d ∙ exchanged F G 5

    g21 : class21 G F ≡ has_byte F G of_g_lem 7
    g21 = class_21 G F b a q p d ∙ exchanged F G 7

kept : (f : ℕ → Bool) (is : List ℕ) {i : ℕ} → i ∈ keep f is → i ∈ is
kept f [] m = m
kept f (j ∷ is) {i} m = go (f j) m (λ k. kept f is k)
  where
    go : (b : Bool) → i ∈ cond b (j ∷ keep f is) (keep f is) → (i ∈ keep f is → i ∈ is) → i ∈ (j ∷ is)
    go true m later = ⊎_elim (λ e. subst (λ (k : ℕ). k ∈ (j ∷ is)) (sym e) here) (λ k. there (later k)) (in_cons m)
    go false m later = there (later m)

-- 14 decides ia by the segment
pub marked : {s : List ℕ} {l : Layout} → SoundObject s l → T (is_region l.shape) → Marked (edges s l) (interior_above (segments s l))
unfolding edges
marked {s} {l} o r e m =
    let w = map_in (edge_of s l) (keep (left_test s l) (elements l)) m in
    subst (λ (e : Edge). e.ia ≡ interior_above (segments s l) e.segment) w.2
    (ia_is o (true_is (is_region l.shape) r) w.0 (in_element l w.0 (kept (left_test s l) (elements l) w.1)))

as_region : (s : List ℕ) (l : Layout) → T (is_region l.shape) → elements_of s l ≡ region (edges s l)
as_region s l r = go l.shape r
  where
    go : (k : Shape) → T (is_region k) → elements_as s l k ≡ region (edges s l)
    go Points r = absurd r
    go Line r = absurd r
    go Region r = refl

-- The flags (0/1) to (1/1) of F, and (0/1) to (2/1) of G, of the scene's vectors, are those that the overlap list has
pub class_flags_of_list : (s : List ℕ) (room : ℕ) (sc : Scene) → check_list s room ≡ Ok sc
    → (take 7 (flags_of_f (elements_of s sc.f) (elements_of s sc.g)) ≡ classes_of_f (edges s sc.f) (edges s sc.g))
    × (flags_of_g (elements_of s sc.f) (elements_of s sc.g) ≡ classes_of_g (edges s sc.f) (edges s sc.g))
class_flags_of_list s room sc e =
    (ap₂ (λ (x y : Elements). take 7 (flags_of_f x y)) of_f' of_g' ∙ flags.0, ap₂ flags_of_g of_f' of_g' ∙ flags.1)
  where
    good : TwoRegions s sc
    good = (listable s room sc e).taken

    of_f' : elements_of s sc.f ≡ region (edges s sc.f)
    of_f' = as_region s sc.f good.1

    of_g' : elements_of s sc.g ≡ region (edges s sc.g)
    of_g' = as_region s sc.g good.2

    own : (l : Layout) {e : Edge} → e ∈ edges s l → e.segment ∈ segments s l
    own l {e} m = subst (λ (k : List Segment). e.segment ∈ k) (outline_edges s l) (in_map (λ (e : Edge). e.segment) m)

    apart : (l : Layout) (t : Segment) → Clear (segments s l) t → Clear (outline (edges s l)) t
    apart l t c = subst (λ (k : List Segment). Clear k t) (sym (outline_edges s l)) c

    flags : (take 7 (flags_of_f (region (edges s sc.f)) (region (edges s sc.g))) ≡ classes_of_f (edges s sc.f) (edges s sc.g))
        × (flags_of_g (region (edges s sc.f)) (region (edges s sc.g)) ≡ classes_of_g (edges s sc.f) (edges s sc.g))
    flags =
        class_flags (edges s sc.f) (edges s sc.g) (interior_above (segments s sc.f)) (interior_above (segments s sc.g))
        (marked good.0.f_sound good.1) (marked good.0.g_sound good.2)
        (λ f m. apart sc.g f.segment (either_clear good.0 f.segment (inl (own sc.f m))).1)
        (λ g m. apart sc.f g.segment (either_clear good.0 g.segment (inr (own sc.g m))).0)
