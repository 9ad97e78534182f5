-- The cuts of a segment by another, put to those before: its ends, or the crossing.
use mathlib.Core.Path.{◌≡◌, sym, ap, ap₂, ◌∙◌}
use mathlib.Core.Bool.{false}
use mathlib.Core.List.{List, ◌++◌}
use Rattle.std.proofs.Common.{append_assoc}
use Rattle.std.proofs.lemmas.List.{append-nil}
use Rattle.plane.specs.declared.Point.{Point}
use Rattle.plane.specs.declared.Segment.{Segment}
use Rattle.plane.specs.Plane.{end_within}
use Rattle.split_crossing.specs.declared.Crossing.TheVariants.{Apart}
use Rattle.split_crossing.specs.Crossing.{is_off, crosses_off, crossing_of}
use Rattle.split_crossing.specs.Cuts.{point_if, crossing_point, cuts_by}

module _ (s t : Segment) where
  module _ (apart : Apart ≡ crossing_of s t) where
    pub not_off : false ≡ crosses_off s t
    not_off = ap is_off apart

    -- both ends
    pub both_ends : (found mid new : List Point) → mid ≡ found ++ point_if (end_within s t.left) t.left → new ≡ mid ++ point_if (end_within s t.right) t.right → new ≡ found ++ cuts_by s t
    unfolding cuts_by
    both_ends found mid new e f =
        f ∙ ap (λ l. l ++ point_if (end_within s t.right) t.right) e
        ∙ append_assoc found (point_if (end_within s t.left) t.left) (point_if (end_within s t.right) t.right)
        ∙ ap (λ l. found ++ (point_if (end_within s t.left) t.left ++ l))
        (sym (append-nil (point_if (end_within s t.right) t.right)) ∙ ap (λ r. point_if (end_within s t.right) t.right ++ crossing_point r) apart)

    -- the right one alone
    pub right_end : (found new : List Point) → end_within s t.left ≡ false → new ≡ found ++ point_if (end_within s t.right) t.right → new ≡ found ++ cuts_by s t
    right_end found new n f = both_ends found found new (sym (append-nil found) ∙ ap (λ b. found ++ point_if b t.left) (sym n)) f

  -- neither
  pub crossing_alone : (found new : List Point) → end_within s t.left ≡ false → end_within s t.right ≡ false → new ≡ found ++ crossing_point (crossing_of s t) → new ≡ found ++ cuts_by s t
  unfolding cuts_by
  crossing_alone found new n m f = f ∙ sym (ap₂ (λ a b. found ++ (point_if a t.left ++ (point_if b t.right ++ crossing_point (crossing_of s t)))) n m)
