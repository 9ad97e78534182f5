-- A pair of which 15 finds nothing is not cut: so splitting what was split adds nothing.
use Rattle.std.specs.Prelude.{None}
use Prim.Native.Nat.{ℕ, ◌+◌}
use mathlib.Core.Path.{◌≡◌, refl, ap, ap₂}
use mathlib.Core.List.{List, [], ◌∷◌, ◌++◌}
use mathlib.Core.Bool.{false}
use lib.Dec.{T}
use lib.ListN.{length}
use Rattle.whole.specs.Count.{◌∈◌, here, there}
use Rattle.plane.specs.declared.Point.{Point}
use Rattle.plane.specs.declared.Segment.{Segment}
use Rattle.plane.specs.Plane.{ordered, touch}
use Rattle.scene.specs.declared.Scene.{Scene}
use Rattle.scene.specs.Read.{given_first, given_second}
use Rattle.scene.specs.Conditions.{segments, touching_across}
use Rattle.sweep_laws.proofs.SoundObject.{all_ordered, untouched}
use Rattle.split_pieces.specs.Pieces.{pieces_from, pieces, different}
use Rattle.split_crossing.specs.Cuts.{cuts, split_by, added_by}
use Rattle.split_cuts.proofs.Clear.{no_cuts}
use Rattle.split.specs.Split.{split_of, added_to}
use Rattle.split.proofs.Given.{Splittable}

-- no segment of one touches one of the other
module _ (G : List Segment) (ord_g : (t : Segment) → t ∈ G → T (ordered t)) where
  none_cut : (H : List Segment) → ((t : Segment) → t ∈ H → T (ordered t)) → (s : Segment) → T (ordered s) → ((t : Segment) → t ∈ H → touch s t ≡ false) → cuts H s ≡ []
  none_cut [] o s p h = refl
  none_cut (t ∷ H) o s p h = ap₂ (λ a b. a ++ b) (no_cuts s t p (o t here) (h t here)) (none_cut H (λ u m. o u (there m)) s p (λ u m. h u (there m)))

  one_piece : (s : Segment) → cuts G s ≡ [] → pieces (cuts G) s ≡ s ∷ []
  one_piece s e = ap (λ (c : List Point). pieces_from (length c) c s.left s.right) e

  module _ (F : List Segment) (ord_f : (t : Segment) → t ∈ F → T (ordered t)) (none : (s t : Segment) → s ∈ F → t ∈ G → touch s t ≡ false) where
    pub uncut : (H : List Segment) → ((s : Segment) → s ∈ H → s ∈ F) → (split_by G H ≡ H) × (added_by G H ≡ 0)
    uncut [] h = (refl, refl)
    uncut (s ∷ H) h = go (uncut H (λ t m. h t (there m)))
      where
        empty : cuts G s ≡ []
        empty = none_cut G ord_g s (ord_f s (h s here)) (λ t m. none s t (h s here) m)

        go : (split_by G H ≡ H) × (added_by G H ≡ 0) → (split_by G (s ∷ H) ≡ s ∷ H) × (added_by G (s ∷ H) ≡ 0)
        go w = (ap₂ (λ a b. a ++ b) (one_piece s empty) w.0, ap₂ (λ (c : List Point) (n : ℕ). different c + n) empty w.1)

module _ {s : List ℕ} {sc : Scene} (w : Splittable s sc) (none : touching_across s sc ≡ None) where
  abbrev f : List Segment
  f = segments s (given_first sc)

  abbrev g : List Segment
  g = segments s (given_second sc)

  pub first_uncut : (split_of s (given_first sc) (given_second sc) ≡ f) × (added_to s (given_first sc) (given_second sc) ≡ 0)
  first_uncut =
      uncut g (all_ordered w.second_sound) f (all_ordered w.first_sound)
      (λ t u m k. (untouched w.first_sound w.second_sound none t u m k).0) f (λ t m. m)

  pub second_uncut : (split_of s (given_second sc) (given_first sc) ≡ g) × (added_to s (given_second sc) (given_first sc) ≡ 0)
  second_uncut =
      uncut f (all_ordered w.first_sound) g (all_ordered w.second_sound)
      (λ u t k m. (untouched w.first_sound w.second_sound none t u m k).1) g (λ t m. m)
