-- A flag is set exactly when its sentence holds: for every two objects, flag by flag.
use Prim.Native.Nat.{ℕ, zero, suc, ◌+◌}
use mathlib.Core.Path.{◌≡◌, refl, sym, ap, ◌∙◌, subst}
use mathlib.Core.Logic.{◌≢◌, ◌⊎◌, inl, inr}
use mathlib.Core.Bool.{Bool, true, false, not, ◌&&◌, ◌||◌}
use mathlib.Core.List.{List, [], ◌∷◌}
use lib.Dec.{T}
use lib.ListN.{get_or}
use lib.IntN.{ℤ, pos, ◌*ℤ◌, *ℤ_comm}
use Rattle.whole.specs.Count.{some, count, bit}
use Rattle.whole.proofs.Ring.{one-mul}
use Rattle.whole.specs.Decides.{Decides}
use Rattle.whole.proofs.Deciding.{test_is, retest, same_as, not_is, and_is, or_is}
use Rattle.whole.proofs.Logic.{decide, some_find, some_make}
use Rattle.plane.specs.declared.Point.{Point}
use Rattle.plane.specs.declared.Segment.{Segment}
use Rattle.plane.specs.Plane.{HPoint, grid, is_same_point, is_same_segment, is_at, is_end, on, is_on_some, inside, midpoint, is_boundary, ends_at}
use Rattle.plane.proofs.Equal.{same_point_read, same_point_refl, same_segment_read, same_segment_refl, point_eq}
use Rattle.plane.proofs.Touch.{is_at_read, is_at_make}
use Rattle.flags.specs.Flags.{Edge, Elements, points, line, region, outline, is_bound, joins, has_some_end, mid_inside, mid_outside, bound_on_interior, bound_disjoint, class01, class10, class12, class21, flags_of_f, flags_of_g, pack, has_bit}
use Rattle.flags.specs.Sentences.{Some, Every, EndOf, EndOfSome, Bound, SomeEnd, SomeBound, MeetAt, Shared, Unshared, BoundOnInterior, BoundDisjoint, InInterior, InExterior, Above, Class01, Class10, Class12, Class21, sentences_of_f, sentences_of_g, sentence}
use Rattle.flags.proofs.Bits.{pack_bit}
use Rattle.flags.proofs.Boundary.{boundary_none}

-- ---- operation by operation

module _ {A : Type 0} {f : A → Bool} {P : A → Type 0} (l : List A) (is : (a : A) → Decides (P a) (f a)) where
  some_is : Decides (Some l P) (some f l)
  some_is = record { sound = λ t. let w = some_find f l t in (w.0, w.1, (is w.0).sound w.2); complete = λ w. some_make f w.1 ((is w.0).complete w.2) }

  none_is : Decides (Every l λ a. ¬ P a) (not (some f l))
  none_is = same_as (λ n a m p. n (a, m, p)) (λ n w. n w.0 w.1 w.2) (not_is some_is)

-- ---- equal, on, an end

same_point : (p q : Point) → Decides (p ≡ q) (is_same_point p q)
same_point p q = record { sound = same_point_read p q; complete = λ e. subst (λ r. T (is_same_point p r)) e (same_point_refl p) }

same_segment : (s t : Segment) → Decides (s ≡ t) (is_same_segment s t)
same_segment s t = record { sound = same_segment_read s t; complete = λ e. subst (λ r. T (is_same_segment s r)) e (same_segment_refl s) }

on_some : (l : List Segment) (p : HPoint) → Decides (Some l λ s. T (on s p)) (is_on_some l p)
unfolding is_on_some
on_some l p = some_is l λ s. test_is (on s p)

on_none : (l : List Segment) (p : HPoint) → Decides (Every l λ s. ¬ T (on s p)) (not (is_on_some l p))
unfolding is_on_some
on_none l p = none_is l λ s. test_is (on s p)

at_grid : (e v : Point) → Decides (v ≡ e) (is_at e (grid v))
at_grid e v =
    record {
      sound = λ t. let r = is_at_read e (grid v) t in sym (point_eq (sym (once e.x) ∙ r.0) (sym (once e.y) ∙ r.1));
      complete = λ q. is_at_make e (grid v) (once e.x ∙ ap (λ p. p.x) (sym q)) (once e.y ∙ ap (λ p. p.y) (sym q));
    }
  where
    once : (z : ℤ) → z *ℤ pos 1 ≡ z
    once z = *ℤ_comm z (pos 1) ∙ one-mul z

end_of : (s : Segment) (v : Point) → Decides (EndOf v s) (is_end s (grid v))
unfolding is_end
end_of s v = or_is (at_grid s.left v) (at_grid s.right v)

end_of_some : (l : List Segment) (v : Point) → Decides (EndOfSome l v) (some (λ s. is_end s (grid v)) l)
end_of_some l v = some_is l λ s. end_of s v

-- ---- boundary points, by any rule that takes no point at which nothing ends

none_count : {A : Type 0} (f : A → Bool) (l : List A) → T (not (some f l)) → count f l ≡ 0
none_count f [] t = refl
none_count f (a ∷ l) t = go (f a) (some f l) (none_count f l) t
  where
    go : (b c : Bool) → (T (not c) → count f l ≡ 0) → T (not (b || c)) → bit b + count f l ≡ 0
    go true c h t = absurd t
    go false c h t = ap (λ n. 0 + n) (h t)

bound : (l : List Segment) (v : Point) → Decides (Bound l v) (is_bound l v)
unfolding ends_at
bound l v = record { sound = λ t. (end t (decide (some ends l)), t); complete = λ w. w.1 }
  where
    ends : Segment → Bool
    ends s = is_end s (grid v)

    end : T (is_bound l v) → T (some ends l) ⊎ T (not (some ends l)) → EndOfSome l v
    end t (inl h) = (end_of_some l v).sound h
    end t (inr h) = absurd (subst T (ap is_boundary (none_count ends l h) ∙ boundary_none) t)

-- ---- some end of a list of segments

module _ {c : Segment → Point → Bool} {P : Segment → Point → Type 0} (l : List Segment) (is : (s : Segment) (v : Point) → Decides (P s v) (c s v)) where
  ends_is : Decides (Some l λ s. (v : Point) × EndOf v s × P s v) (has_some_end c l)
  ends_is = some_is l λ s. same_as (from s) (to s) (or_is (is s s.left) (is s s.right))
    where
      from : (s : Segment) → P s s.left ⊎ P s s.right → (v : Point) × EndOf v s × P s v
      from s (inl p) = (s.left, inl refl, p)
      from s (inr p) = (s.right, inr refl, p)

      at : (s : Segment) (v : Point) → EndOf v s → P s v → P s s.left ⊎ P s s.right
      at s v (inl e) p = inl (subst (P s) e p)
      at s v (inr e) p = inr (subst (P s) e p)

      to : (s : Segment) → (v : Point) × EndOf v s × P s v → P s s.left ⊎ P s s.right
      to s w = at s w.0 w.1 w.2

some_end : {c : Point → Bool} {P : Point → Type 0} (l : List Segment) → ((v : Point) → Decides (P v) (c v)) → Decides (SomeEnd l P) (has_some_end (λ s. c) l)
some_end l is = same_as (λ w. (w.2.0, (w.0, w.1, w.2.1), w.2.2)) (λ w. (w.1.0, w.1.1, (w.0, w.1.2, w.2))) (ends_is l λ s. is)

some_bound : {c : Point → Bool} {P : Point → Type 0} (l : List Segment) → ((v : Point) → Decides (Bound l v × P v) (c v)) → Decides (SomeBound l P) (has_some_end (λ s. c) l)
some_bound l is = same_as (λ w. (w.0, w.2.0, w.2.1)) (λ w. (w.0, w.1.0, (w.1, w.2))) (some_end l is)

-- ---- flags with more than one operation

module _ {A : Type 0} {same : A → A → Bool} (equal : (a b : A) → Decides (a ≡ b) (same a b)) (F G : List A) where
  shared : Decides (Shared F G) (some (λ f. some (same f) G) F)
  shared = some_is F λ f. some_is G λ g. equal f g

  unshared : Decides (Unshared F G) (some (λ f. not (some (same f) G)) F)
  unshared = some_is F λ f. none_is G λ g. equal f g

-- three tests, with the first or the second sentence in front
module _ {a b c : Bool} {P Q R : Type 0} (h : Decides P a) (k : Decides Q b) (m : Decides R c) where
  and_first : Decides (P × (Q × R)) (a && b && c)
  and_first = same_as (λ w. (w.0.0, (w.0.1, w.1))) (λ w. ((w.0, w.1.0), w.1.1)) (and_is (and_is h k) m)

  and_second : Decides (Q × (P × R)) (a && b && c)
  and_second = same_as (λ w. (w.1.0, (w.0, w.1.1))) (λ w. (w.1.0, (w.0, w.1.1))) and_first

module _ (G : List Segment) where
  join : (f : Segment) (v : Point) → Decides (Some G λ g. (f ≢ g) × EndOf v g) (joins G f v)
  join f v = some_is G λ g. and_is (not_is (same_segment f g)) (end_of g v)

  meets : (F : List Segment) → Decides (Some F λ f. Some G λ g. (v : Point) × MeetAt f g v) (has_some_end (joins G) F)
  meets F =
      same_as (λ w. let j = w.2.2 in (w.0, w.1, (j.0, j.1, (w.2.0, (j.2.0, w.2.1, j.2.1))))) (λ w. let j = w.2.2 in (w.0, w.1, (j.0, j.1.1, (w.2.0, w.2.1, (j.1.0, j.1.2))))) (ends_is F join)

  meets_where : {c : Point → Bool} {P : Point → Type 0} (F : List Segment) → ((v : Point) → Decides (P v) (c v))
      → Decides (Some F λ f. Some G λ g. (v : Point) × MeetAt f g v × P v) (has_some_end (λ f v. joins G f v && c v) F)
  meets_where F is =
      same_as (λ w. let j = w.2.2.0 in (w.0, w.1, (j.0, j.1, (w.2.0, (j.2.0, w.2.1, j.2.1), w.2.2.1)))) (λ w. let j = w.2.2 in (w.0, w.1, (j.0, j.1.1, ((w.2.0, w.2.1, (j.1.0, j.1.2)), j.2)))) (ends_is F λ f v. and_is (join f v) (is v))

-- an own boundary point
module _ (F G : List Segment) where
  bound_on_interior_lem : Decides (BoundOnInterior F G) (bound_on_interior F G)
  bound_on_interior_lem = some_bound F λ v. and_first (bound F v) (on_some G (grid v)) (not_is (bound G v))

  bound_disjoint_lem : Decides (BoundDisjoint F G) (bound_disjoint F G)
  bound_disjoint_lem = some_bound F λ v. and_is (bound F v) (on_none G (grid v))

-- inside a region, and the interior above an edge
within : (l : List Segment) (p : HPoint) → Decides (T (inside l p)) (inside l p)
within l p = test_is (inside l p)

above : (e : Edge) → Decides (Above e) e.ia
above e = test_is e.ia

below : (e : Edge) → Decides (¬ Above e) (not e.ia)
below e = not_is (above e)

module _ (F G : List Edge) where
  in_interior_lem : (e : Edge) → Decides (InInterior G e) (mid_inside G e)
  in_interior_lem e = within (outline G) (midpoint e.segment)

  in_exterior_lem : (e : Edge) → Decides (InExterior G e) (mid_outside G e)
  in_exterior_lem e = and_is (on_none (outline G) (midpoint e.segment)) (not_is (in_interior_lem e))

  class_01 : Decides (Class01 F G) (class01 F G)
  class_01 = some_is F λ f. and_is (above f) (in_exterior_lem f)

  class_10 : Decides (Class10 F G) (class10 F G)
  class_10 = some_is F λ f. and_is (below f) (in_exterior_lem f)

  class_12 : Decides (Class12 F G) (class12 F G)
  class_12 = some_is F λ f. and_is (above f) (in_interior_lem f)

  class_21 : Decides (Class21 F G) (class21 F G)
  class_21 = some_is F λ f. and_is (below f) (in_interior_lem f)

  common : {c : Edge → Edge → Bool} {P : Edge → Edge → Type 0} → ((f g : Edge) → Decides (P f g) (c f g))
      → Decides (Some F λ f. Some G λ g. (f.segment ≡ g.segment) × P f g) (some (λ f. some (λ g. is_same_segment f.segment g.segment && c f g) G) F)
  common is = some_is F λ f. some_is G λ g. and_is (same_segment f.segment g.segment) (is f g)

-- ---- the pairs

-- flag by flag
infixr 20 ◌&◌
pub data Agree : List Bool → List (Type 0) → Type 1 where
  done : Agree [] []
  ◌&◌ : {b : Bool} {P : Type 0} {l : List Bool} {m : List (Type 0)} → Decides P b → Agree l m → Agree (b ∷ l) (P ∷ m)

pub flags_agree_F : (F G : Elements) → Agree (flags_of_f F G) (sentences_of_f F G)
flags_agree_F (points F) (points G) = unshared same_point F G & shared same_point F G & done
flags_agree_F (points F) (line G) =
    some_is F (λ f. on_none G (grid f))
    & some_is F (λ f. and_is (on_some G (grid f)) (not_is (bound G f)))
    & some_is F (λ f. bound G f)
    & done
flags_agree_F (points F) (region G) =
    some_is F (λ f. within (outline G) (grid f))
    & some_is F (λ f. on_some (outline G) (grid f))
    & some_is F (λ f. and_is (not_is (within (outline G) (grid f))) (on_none (outline G) (grid f)))
    & done
flags_agree_F (line F) (points G) = done
flags_agree_F (line F) (line G) =
    shared same_segment F G
    & some_end F (λ v. and_first (end_of_some G v) (not_is (bound F v)) (not_is (bound G v)))
    & unshared same_segment F G
    & bound_on_interior_lem F G
    & some_bound F (λ v. and_is (bound F v) (bound G v))
    & bound_disjoint_lem F G
    & done
flags_agree_F (line F) (region G) =
    some_is F (λ f. and_is (none_is (outline G) (same_segment f)) (within (outline G) (midpoint f)))
    & shared same_segment F (outline G)
    & some_is F (λ f. and_is (none_is (outline G) (same_segment f)) (not_is (within (outline G) (midpoint f))))
    & meets_where (outline G) F (λ v. not_is (bound F v))
    & some_bound F (λ v. same_as (λ w. (w.1, w.0)) (λ w. (w.1, w.0)) (and_is (within (outline G) (grid v)) (bound F v)))
    & meets_where (outline G) F (λ v. bound F v)
    & some_bound F (λ v. and_second (not_is (within (outline G) (grid v))) (bound F v) (on_none (outline G) (grid v)))
    & done
flags_agree_F (region F) (points G) = done
flags_agree_F (region F) (line G) = done
flags_agree_F (region F) (region G) =
    class_01 F G
    & class_10 F G
    & class_12 F G
    & class_21 F G
    & common F G (λ f g. and_is (above f) (above g))
    & common F G (λ f g. and_is (below f) (below g))
    & common F G (λ f g. or_is (and_is (above f) (below g)) (and_is (below f) (above g)))
    & meets (outline G) (outline F)
    & done

pub flags_agree_G : (F G : Elements) → Agree (flags_of_g F G) (sentences_of_g F G)
flags_agree_G (points F) (points G) = unshared same_point G F & done
flags_agree_G (points F) (line G) = some_bound G (λ v. and_is (bound G v) (none_is F (same_point v))) & done
flags_agree_G (points F) (region G) = done
flags_agree_G (line F) (points G) = done
flags_agree_G (line F) (line G) = unshared same_segment G F & bound_on_interior_lem G F & bound_disjoint_lem G F & done
flags_agree_G (line F) (region G) = unshared same_segment (outline G) F & done
flags_agree_G (region F) (points G) = done
flags_agree_G (region F) (line G) = done
flags_agree_G (region F) (region G) = class_01 G F & class_10 G F & class_12 G F & class_21 G F & done

-- ---- bit by bit

pub agree_at : {l : List Bool} {m : List (Type 0)} → Agree l m → (k : ℕ) → Decides (sentence m k) (get_or l k false)
agree_at done k = test_is false
agree_at (h & rest) zero = h
agree_at (h & rest) (suc k) = agree_at rest k

-- Bit k of the vector with every flag is set exactly when sentence k holds
pub bit_F : (F G : Elements) (k : ℕ) → Decides (sentence (sentences_of_f F G) k) (has_bit (pack (flags_of_f F G)) k)
bit_F F G k = retest (pack_bit (flags_of_f F G) k) (agree_at (flags_agree_F F G) k)

pub bit_G : (F G : Elements) (k : ℕ) → Decides (sentence (sentences_of_g F G) k) (has_bit (pack (flags_of_g F G)) k)
bit_G F G k = retest (pack_bit (flags_of_g F G) k) (agree_at (flags_agree_G F G) k)
