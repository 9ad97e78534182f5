-- 2, 2: the flags of two lines by their shared and unshared segments, and by the degrees at their ends.
use Prim.Native.Nat.{ℕ, ◌+◌}
use mathlib.Core.Path.{◌≡◌, refl, sym, ap, ap₂, ◌∙◌}
use mathlib.Core.Bool.{Bool, true, false, not, ◌&&◌, and_comm, false≢true}
use mathlib.Core.List.{List, [], ◌∷◌}
use lib.Dec.{T, eqb}
use lib.ListN.{get_or}
use Rattle.whole.specs.Count.{some}
use Rattle.plane.specs.Plane.{is_boundary}
use Rattle.plane.proofs.Accepted.{Across}
use Rattle.scene.specs.declared.Shape.TheVariants.{Line}
use Rattle.scene.specs.declared.Layout.{Layout}
use Rattle.scene.specs.declared.Scene.{Scene}
use Rattle.scene.specs.Conditions.{elements, has_segments, segments}
use Rattle.check_verdict.proofs.Laws.{SoundObject, SoundScene, across}
use Rattle.flags.specs.Flags.{line, on_object, has_end, is_bound, interior_poi_shared, bound_on_interior, bound_shared, bound_disjoint, flags_of_f, flags_of_g}
use Rattle.flags.proofs.Elements.{some_same}
use Rattle.cells_matrix.proofs.Common.{across_swap}
use Rattle.scene_keys.specs.Keyed.{element_point}
use Rattle.flags_meetings.specs.Met.{degree, is_inner, meetings}
use Rattle.flags_meetings.proofs.PointKinds.{Kind, none, bound, inner, kind_of, not_there}
use Rattle.flags_classes.specs.Classed.{classes_of_f, classes_of_g}
use Rattle.flags_table.specs.Table.{flags_of_f_by, flags_of_g_by}
use Rattle.flags_table.proofs.Ends.{bound_degree, end_degree, own_degree, end_elements, on_degree}
use Rattle.flags_table.proofs.Meeting.{at_either, bound_alone}
use Rattle.flags_table.proofs.Classing.{unshared_some, shared_some}

-- ---- a line beside another, by the ends of its own

module _ {s : List ℕ} {own other : Layout} (is : SoundObject s own) (are : SoundObject s other) (has : has_segments own.shape ≡ true) (have : has_segments other.shape ≡ true)
    (apart : Across (segments s own) (segments s other)) where
  on_interior : bound_on_interior (segments s own) (segments s other) ≡ some (λ i. is_boundary (degree s own (element_point s own i)) && is_inner (degree s other (element_point s own i))) (elements own)
  on_interior =
      end_elements is has (λ t v. is_bound (segments s own) v && on_object (segments s other) v && not (is_bound (segments s other) v)) (λ i. is_boundary (degree s own (element_point s own i)) && is_inner (degree s other (element_point s own i)))
      (λ i h t m e. rw (bound_degree is has (element_point s own i), on_degree is are have apart (element_point s own i) t m e, bound_degree are have (element_point s own i)) (go (is_boundary (degree s own (element_point s own i))) (kind_of (degree s other (element_point s own i)))))
    where
      go : (x : Bool) {p z e m : Bool} → Kind p z e m → x && p && not e ≡ x && m
      go true none = refl
      go true bound = refl
      go true inner = refl
      go false n = refl

  disjoint : bound_disjoint (segments s own) (segments s other) ≡ some (λ i. is_boundary (degree s own (element_point s own i)) && eqb (degree s other (element_point s own i)) 0) (elements own)
  disjoint =
      end_elements is has (λ t v. is_bound (segments s own) v && not (on_object (segments s other) v)) (λ i. is_boundary (degree s own (element_point s own i)) && eqb (degree s other (element_point s own i)) 0)
      (λ i h t m e. rw (bound_degree is has (element_point s own i), on_degree is are have apart (element_point s own i) t m e) (ap (λ b. is_boundary (degree s own (element_point s own i)) && b) (not_there (kind_of (degree s other (element_point s own i))))))

-- ---- the flags

module _ {s : List ℕ} {sc : Scene} (notes : List ℕ) (o : SoundScene s sc) (f : sc.f.shape ≡ Line) (g : sc.g.shape ≡ Line) where
  has_f : has_segments sc.f.shape ≡ true
  has_f = ap has_segments f

  has_g : has_segments sc.g.shape ≡ true
  has_g = ap has_segments g

  interior : interior_poi_shared (segments s sc.f) (segments s sc.g) ≡ (meetings s sc notes).inner_inner
  interior =
      end_elements o.f_sound has_f (λ t v. has_end (segments s sc.g) v && not (is_bound (segments s sc.f) v) && not (is_bound (segments s sc.g) v)) (λ i. is_inner (degree s sc.f (element_point s sc.f i)) && is_inner (degree s sc.g (element_point s sc.f i)))
      (λ i h t m e. rw (end_degree o.g_sound has_g (element_point s sc.f i), bound_degree o.f_sound has_f (element_point s sc.f i), bound_degree o.g_sound has_g (element_point s sc.f i)) (go (kind_of (degree s sc.f (element_point s sc.f i))) (kind_of (degree s sc.g (element_point s sc.f i))) (own_degree o.f_sound has_f (element_point s sc.f i) t m e)))
    where
      go : {p z e m q y d n : Bool} → Kind p z e m → Kind q y d n → p ≡ true → q && not e && not d ≡ m && n
      go none b h = absurd (false≢true h)
      go bound none h = refl
      go bound bound h = refl
      go bound inner h = refl
      go inner none h = refl
      go inner bound h = refl
      go inner inner h = refl

  both_bound : bound_shared (segments s sc.f) (segments s sc.g) ≡ (meetings s sc notes).bound_bound
  both_bound =
      end_elements o.f_sound has_f (λ t v. is_bound (segments s sc.f) v && is_bound (segments s sc.g) v) (λ i. is_boundary (degree s sc.f (element_point s sc.f i)) && is_boundary (degree s sc.g (element_point s sc.f i)))
      (λ i h t m e. ap₂ ◌&&◌ (bound_degree o.f_sound has_f (element_point s sc.f i)) (bound_degree o.g_sound has_g (element_point s sc.f i)))

  pub line_line_f : flags_of_f (line (segments s sc.f)) (line (segments s sc.g)) ≡ flags_of_f_by Line Line (meetings s sc notes) (classes_of_f s sc notes)
  line_line_f =
      let on = on_interior o.f_sound o.g_sound has_f has_g (across o) in
      let off = disjoint o.f_sound o.g_sound has_f has_g (across o) ∙ sym (bound_alone s sc notes) in
      let shared = shared_some s sc.f sc.g (λ i. get_or notes i 0) in
      let unshared = unshared_some s sc.f sc.g (λ i. get_or notes i 0) in
      λ j. sym shared j ∷ interior j ∷ sym unshared j ∷ on j ∷ both_bound j ∷ off j ∷ []

  -- an end of G's boundary in F's interior is the point of an element of F, too
  pub line_line_g : flags_of_g (line (segments s sc.f)) (line (segments s sc.g)) ≡ flags_of_g_by Line Line (meetings s sc notes) (classes_of_g s sc notes)
  line_line_g =
      let unshared = unshared_some s sc.g sc.f (λ j. get_or notes (1024 + j) 0) in
      λ j. sym unshared j ∷ on j ∷ off j ∷ []
    where
      go : {p z e m q y d n : Bool} → Kind p z e m → Kind q y d n → T (m && d) → T p × T q
      go none b t = absurd t
      go bound b t = absurd t
      go inner none t = absurd t
      go inner bound t = (tt, tt)
      go inner inner t = absurd t

      on : bound_on_interior (segments s sc.g) (segments s sc.f) ≡ (meetings s sc notes).inner_bound
      on =
          on_interior o.g_sound o.f_sound has_g has_f (across_swap (across o))
          ∙ some_same _ _ (λ j. and_comm (is_boundary (degree s sc.g (element_point s sc.g j))) (is_inner (degree s sc.f (element_point s sc.g j)))) (elements sc.g)
          ∙ sym (at_either s sc.f sc.g (λ v. is_inner (degree s sc.f v) && is_boundary (degree s sc.g v)) (λ v t. go (kind_of (degree s sc.f v)) (kind_of (degree s sc.g v)) t))

      off : bound_disjoint (segments s sc.g) (segments s sc.f) ≡ (meetings s sc notes).bound_of_g
      off =
          disjoint o.g_sound o.f_sound has_g has_f (across_swap (across o))
          ∙ some_same _ _ (λ j. and_comm (is_boundary (degree s sc.g (element_point s sc.g j))) (eqb (degree s sc.f (element_point s sc.g j)) 0)) (elements sc.g)
