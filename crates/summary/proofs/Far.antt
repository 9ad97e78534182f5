-- The flags of two objects on two sides of a line are the table's, pair by pair. No condition across the two objects is needed.
use mathlib.Core.Path.{◌≡◌, refl, sym, ap, ap₂, ◌∙◌, subst}
use mathlib.Core.Bool.{Bool, true, false, not, ◌&&◌, ◌||◌, and-false, and-true}
use mathlib.Core.List.{List, [], ◌∷◌}
use Rattle.whole.specs.Count.{◌∈◌, here, there, some}
use Rattle.whole.proofs.Logic.{refute}
use Rattle.plane.specs.declared.Point.{Point}
use Rattle.plane.specs.declared.Segment.{Segment}
use Rattle.plane.specs.Plane.{grid, midpoint, is_same_segment, inside}
use Rattle.plane.proofs.OnSegment.{Ordered}
use Rattle.plane.proofs.Equal.{same_segment_read}
use Rattle.flags.specs.Flags.{Edge, Elements, outline, has_point, has_segment, on_object, has_end, is_bound, joins, has_some_end, mid_inside, mid_outside, flags_of_f, flags_of_g}
use Rattle.cells_matrix.proofs.RegionRegion.{Sound, edge_in}
use Rattle.cells_matrix.proofs.Theorem.{Good}
use Rattle.summary.specs.Summary.{ends, corners, none, is_empty, shape_of, has_boundary, flags_f, flags_g}
use Rattle.summary.proofs.Clear.{Clear, behind_beyond, no_point, left_in, right_in, not_on, not_bound, not_has_end, no_join, no_segment_lem, middle_not_on, not_inside, middle_not_inside}
use Rattle.summary.proofs.Edges.{some_above, some_below}

-- ---- "some" over a list, by what holds of its members

module _ {A : Type 0} where
  some_each : (f g : A → Bool) (l : List A) → ((a : A) → a ∈ l → f a ≡ g a) → some f l ≡ some g l
  some_each f g [] h = refl
  some_each f g (a ∷ l) h = ap₂ ◌||◌ (h a here) (some_each f g l (λ b m. h b (there m)))

  some_none : (f : A → Bool) (l : List A) → ((a : A) → a ∈ l → f a ≡ false) → some f l ≡ false
  some_none f [] h = refl
  some_none f (a ∷ l) h = ap₂ ◌||◌ (h a here) (some_none f l (λ b m. h b (there m)))

  some_all : (f : A → Bool) (l : List A) → ((a : A) → a ∈ l → f a ≡ true) → some f l ≡ not (none l)
  some_all f [] h = refl
  some_all f (a ∷ l) h = ap (λ b. b || some f l) (h a here)

-- the same over the ends of segments
module _ (f : Segment → Point → Bool) (l : List Segment) where
  end_each : (g : Segment → Point → Bool) → ((s : Segment) (v : Point) → v ∈ ends l → f s v ≡ g s v) → has_some_end f l ≡ has_some_end g l
  end_each g h = some_each (λ s. f s s.left || f s s.right) (λ s. g s s.left || g s s.right) l (λ s m. ap₂ ◌||◌ (h s s.left (left_in m)) (h s s.right (right_in m)))

  end_none : ((s : Segment) (v : Point) → v ∈ ends l → f s v ≡ false) → has_some_end f l ≡ false
  end_none h = some_none (λ s. f s s.left || f s s.right) l (λ s m. ap₂ ◌||◌ (h s s.left (left_in m)) (h s s.right (right_in m)))

infixr 30 ◌then◌
◌then◌ : {a b : Bool} {l m : List Bool} → a ≡ b → l ≡ m → a ∷ l ≡ b ∷ m
e then h = ap₂ ◌∷◌ e h

done : ◌≡◌ {A = List Bool} [] []
done = refl

-- ---- points

module _ (F G : List Point) (c : Clear F G) where
  points_apart : some (λ f. not (has_point G f)) F ≡ not (none F)
  points_apart = some_all (λ f. not (has_point G f)) F (λ f m. ap not (no_point c f m))

  points_unshared : some (λ f. has_point G f) F ≡ false
  points_unshared = some_none (λ f. has_point G f) F (λ f m. no_point c f m)

-- ---- segments

module _ (F G : List Segment) (ord : (t : Segment) → t ∈ G → Ordered t) (c : Clear (ends F) (ends G)) where
  unshared : some (λ f. not (has_segment G f)) F ≡ not (none F)
  unshared = some_all (λ f. not (has_segment G f)) F (λ f m. ap not (no_segment_lem G ord c f (left_in m)))

  shares_none : some (λ f. has_segment G f) F ≡ false
  shares_none = some_none (λ f. has_segment G f) F (λ f m. no_segment_lem G ord c f (left_in m))

none_outline : (F : List Edge) → none (outline F) ≡ none F
none_outline [] = refl
none_outline (e ∷ F) = refl

abbrev pub far_F : Elements → Elements → List Bool
far_F F G = flags_f (shape_of F) (shape_of G) (not (is_empty F)) (has_boundary F)

abbrev pub far_G : Elements → Elements → List Bool
far_G F G = flags_g (shape_of F) (shape_of G) (not (is_empty G)) (has_boundary G)

and_both : {a b : Bool} → a ≡ false → b ≡ false → not a && not b ≡ true
and_both e h = ap₂ (λ x y. not x && not y) e h

-- ---- regions

module _ (F G : List Edge) (sound : Sound F) (other : Sound G) (c : Clear (ends (outline F)) (ends (outline G))) where
  abbrev ord_g : (t : Segment) → t ∈ outline G → Ordered t
  ord_g = other.regular.split.ordered

  outside : (e : Edge) → e ∈ F → mid_outside G e ≡ true
  outside e m = and_both (middle_not_on (outline G) ord_g c e.segment (left_in (edge_in F m)) (right_in (edge_in F m))) (middle_not_inside (outline G) ord_g c other.regular.even e.segment (left_in (edge_in F m)) (right_in (edge_in F m)))

  not_within : (e : Edge) → e ∈ F → mid_inside G e ≡ false
  not_within e m = middle_not_inside (outline G) ord_g c other.regular.even e.segment (left_in (edge_in F m)) (right_in (edge_in F m))

  above_all : some (λ (f : Edge). f.ia && mid_outside G f) F ≡ not (none F)
  above_all = some_each (λ (f : Edge). f.ia && mid_outside G f) (λ (f : Edge). f.ia) F (λ f m. ap (λ b. f.ia && b) (outside f m) ∙ and-true f.ia) ∙ go F (some_above F sound)
    where
      go : (F : List Edge) → ((s : Segment) → s ∈ outline F → some (λ (e : Edge). e.ia) F ≡ true) → some (λ (e : Edge). e.ia) F ≡ not (none F)
      go [] h = refl
      go (e ∷ F) h = h e.segment here

  below_all : some (λ (f : Edge). not f.ia && mid_outside G f) F ≡ not (none F)
  below_all = some_each (λ (f : Edge). not f.ia && mid_outside G f) (λ (f : Edge). not f.ia) F (λ f m. ap (λ b. not f.ia && b) (outside f m) ∙ and-true (not f.ia)) ∙ go F (some_below F sound)
    where
      go : (F : List Edge) → ((s : Segment) → s ∈ outline F → some (λ (e : Edge). not e.ia) F ≡ true) → some (λ (e : Edge). not e.ia) F ≡ not (none F)
      go [] h = refl
      go (e ∷ F) h = h e.segment here

  never_within : (g : Bool → Bool) → some (λ (f : Edge). g f.ia && mid_inside G f) F ≡ false
  never_within g = some_none (λ (f : Edge). g f.ia && mid_inside G f) F (λ f m. ap (λ b. g f.ia && b) (not_within f m) ∙ and-false (g f.ia))

  never_shared : (g : Bool → Bool → Bool) → some (λ (f : Edge). some (λ (e : Edge). is_same_segment f.segment e.segment && g f.ia e.ia) G) F ≡ false
  never_shared g =
      some_none _ F
      (λ f m. some_none (λ (e : Edge). is_same_segment f.segment e.segment && g f.ia e.ia) G
      (λ e k. ap (λ b. b && g f.ia e.ia) (refute (is_same_segment f.segment e.segment) (λ t. behind_beyond c f.segment.left (left_in (edge_in F m)) (subst (λ (r : Segment). r.left ∈ ends (outline G)) (sym (same_segment_read f.segment e.segment t)) (left_in (edge_in G k)))))))

  never_joined : has_some_end (λ f v. joins (outline G) f v) (outline F) ≡ false
  never_joined = end_none (λ f v. joins (outline G) f v) (outline F) (λ s v m. no_join (outline G) ord_g c s v m)

-- ---- the table

pub flags_F : (F G : Elements) → Good F → Good G → Clear (corners F) (corners G) → flags_of_f F G ≡ far_F F G
flags_F (Elements.points F) (Elements.points G) f g c = points_apart F G c then points_unshared F G c then done
flags_F (Elements.points F) (Elements.line G) f g c =
    some_all (λ v. not (on_object G v)) F (λ v m. ap not (not_on G g.ordered c v m))
    then some_none (λ v. on_object G v && not (is_bound G v)) F (λ v m. ap (λ b. b && not (is_bound G v)) (not_on G g.ordered c v m))
    then some_none (λ v. is_bound G v) F (λ v m. not_bound G g.ordered c v m)
    then done
flags_F (Elements.points F) (Elements.region G) f g c =
    some_none (λ v. inside (outline G) (grid v)) F (λ v m. not_inside (outline G) g.regular.split.ordered c g.regular.even v m)
    then some_none (λ v. on_object (outline G) v) F (λ v m. not_on (outline G) g.regular.split.ordered c v m)
    then some_all (λ v. not (inside (outline G) (grid v)) && not (on_object (outline G) v)) F (λ v m. and_both (not_inside (outline G) g.regular.split.ordered c g.regular.even v m) (not_on (outline G) g.regular.split.ordered c v m))
    then done
flags_F (Elements.line F) (Elements.points G) f g c = refl
flags_F (Elements.line F) (Elements.line G) f g c =
    shares_none F G g.ordered c
    then end_none (λ s v. has_end G v && not (is_bound F v) && not (is_bound G v)) F (λ s v m. ap (λ b. b && not (is_bound F v) && not (is_bound G v)) (not_has_end G g.ordered c v m))
    then unshared F G g.ordered c
    then end_none (λ s v. is_bound F v && on_object G v && not (is_bound G v)) F (λ s v m. ap (λ b. is_bound F v && b && not (is_bound G v)) (not_on G g.ordered c v m) ∙ ap (λ b. b && not (is_bound G v)) (and-false (is_bound F v)))
    then end_none (λ s v. is_bound F v && is_bound G v) F (λ s v m. ap (λ b. is_bound F v && b) (not_bound G g.ordered c v m) ∙ and-false (is_bound F v))
    then end_each (λ s v. is_bound F v && not (on_object G v)) F (λ s v. is_bound F v) (λ s v m. ap (λ b. is_bound F v && not b) (not_on G g.ordered c v m) ∙ and-true (is_bound F v))
    then done
flags_F (Elements.line F) (Elements.region G) f g c =
    some_none (λ s. not (has_segment R s) && inside R (midpoint s)) F (λ s m. ap (λ b. not (has_segment R s) && b) (middle_out s m) ∙ and-false (not (has_segment R s)))
    then shares_none F R ord c
    then some_all (λ s. not (has_segment R s) && not (inside R (midpoint s))) F (λ s m. and_both (no_segment_lem R ord c s (left_in m)) (middle_out s m))
    then end_none (λ s v. joins R s v && not (is_bound F v)) F (λ s v m. ap (λ b. b && not (is_bound F v)) (no_join R ord c s v m))
    then end_none (λ s v. inside R (grid v) && is_bound F v) F (λ s v m. ap (λ b. b && is_bound F v) (out v m))
    then end_none (λ s v. joins R s v && is_bound F v) F (λ s v m. ap (λ b. b && is_bound F v) (no_join R ord c s v m))
    then end_each (λ s v. not (inside R (grid v)) && is_bound F v && not (on_object R v)) F (λ s v. is_bound F v) (λ s v m. ap₂ (λ a b. not a && is_bound F v && not b) (out v m) (not_on R ord c v m) ∙ and-true (is_bound F v))
    then done
  where
    R : List Segment
    R = outline G

    ord : (t : Segment) → t ∈ outline G → Ordered t
    ord = g.regular.split.ordered

    out : (v : Point) → v ∈ ends F → inside (outline G) (grid v) ≡ false
    out v m = not_inside (outline G) ord c g.regular.even v m

    middle_out : (s : Segment) → s ∈ F → inside (outline G) (midpoint s) ≡ false
    middle_out s m = middle_not_inside (outline G) ord c g.regular.even s (left_in m) (right_in m)
flags_F (Elements.region F) (Elements.points G) f g c = refl
flags_F (Elements.region F) (Elements.line G) f g c = refl
flags_F (Elements.region F) (Elements.region G) f g c =
    above_all F G f g c
    then below_all F G f g c
    then never_within F G f g c (λ b. b)
    then never_within F G f g c not
    then never_shared F G f g c (λ a b. a && b)
    then never_shared F G f g c (λ a b. not a && not b)
    then never_shared F G f g c (λ a b. a && not b || not a && b)
    then never_joined F G f g c
    then done

-- c is from G's side here
pub flags_G : (F G : Elements) → Good F → Good G → Clear (corners G) (corners F) → flags_of_g F G ≡ far_G F G
flags_G (Elements.points F) (Elements.points G) f g c = points_apart G F c then done
flags_G (Elements.points F) (Elements.line G) f g c =
    end_each (λ s v. is_bound G v && not (has_point F v)) G (λ s v. is_bound G v) (λ s v m. ap (λ b. is_bound G v && not b) (no_point c v m) ∙ and-true (is_bound G v))
    then done
flags_G (Elements.points F) (Elements.region G) f g c = refl
flags_G (Elements.line F) (Elements.points G) f g c = refl
flags_G (Elements.line F) (Elements.line G) f g c =
    unshared G F f.ordered c
    then end_none (λ s v. is_bound G v && on_object F v && not (is_bound F v)) G (λ s v m. ap (λ b. is_bound G v && b && not (is_bound F v)) (not_on F f.ordered c v m) ∙ ap (λ b. b && not (is_bound F v)) (and-false (is_bound G v)))
    then end_each (λ s v. is_bound G v && not (on_object F v)) G (λ s v. is_bound G v) (λ s v m. ap (λ b. is_bound G v && not b) (not_on F f.ordered c v m) ∙ and-true (is_bound G v))
    then done
flags_G (Elements.line F) (Elements.region G) f g c = (unshared (outline G) F f.ordered c ∙ ap not (none_outline G)) then done
flags_G (Elements.region F) (Elements.points G) f g c = refl
flags_G (Elements.region F) (Elements.line G) f g c = refl
flags_G (Elements.region F) (Elements.region G) f g c =
    above_all G F g f c then below_all G F g f c then never_within G F g f c (λ b. b) then never_within G F g f c not then done
