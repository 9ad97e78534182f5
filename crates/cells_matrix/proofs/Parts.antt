-- The parts of an object, by what they are made of.
use mathlib.Core.Path.{◌≡◌, sym, ◌∙◌, subst}
use mathlib.Core.Logic.{⊎_elim}
use mathlib.Core.Bool.{true, not}
use mathlib.Core.List.{List, []}
use lib.Dec.{T, T_not}
use Rattle.whole.specs.Count.{◌∈◌, some}
use Rattle.whole.proofs.Logic.{in_nil, and_left, and_right, and_make, is_false, false_is, refute, some_make}
use Rattle.plane.specs.declared.Point.{Point}
use Rattle.plane.specs.declared.Segment.{Segment}
use Rattle.plane.specs.Plane.{HPoint, is_at, is_on_some, inside, is_boundary, ends_at, Object, in_interior, in_boundary, in_exterior}
use Rattle.plane.proofs.OnSegment.{Ordered, Away, on_or_away}
use Rattle.plane.proofs.Means.{end_read}
use Rattle.plane.proofs.Path.{Even}
use Rattle.cells_matrix.proofs.Common.{on_make, away_none, inside_parity, inside_off, bound_end, line_outside, outside_line, line_inner, points_off}
use Rattle.plane_dimensions.proofs.Around.{Around}
use Rattle.cells_matrix.proofs.Made.{Dots, Curves, Areas, ends, end_among}

-- ---- points

pub points_interior : (l : List Point) → Dots (in_interior (Object.points l))
unfolding in_interior
points_interior l = record { list = l; among = λ p t. t }

pub points_boundary : (l : List Point) → Dots (in_boundary (Object.points l))
unfolding in_boundary
points_boundary l = record { list = []; among = λ p t. t }

pub points_exterior : (l : List Point) → Areas (in_exterior (Object.points l))
unfolding in_exterior in_interior in_boundary
points_exterior l =
    record {
      segments = [];
      posts = l;
      ordered = λ t m. absurd (in_nil m);
      away = λ p h t s m. absurd (in_nil m);
      off = λ p h t e m. refute (is_at e p) (λ u. T_not (some (λ e. is_at e p) l) (and_left (not (some (λ e. is_at e p) l)) true t) (some_make (λ e. is_at e p) m u));
      stays = λ p q h k t r. points_off l q r.off;
    }

-- ---- what is on no segment is away from each

module _ (l : List Segment) (ord : (t : Segment) → t ∈ l → Ordered t) where
  off_away : (p : HPoint) → T (not (is_on_some l p)) → (t : Segment) → t ∈ l → Away t p
  off_away p off t m = ⊎_elim (λ h. absurd (T_not (is_on_some l p) off (on_make l ord p t m h))) (λ h. h) (on_or_away t (ord t m) p)

  away_off : (p : HPoint) → ((t : Segment) → t ∈ l → Away t p) → T (not (is_on_some l p))
  away_off p h = is_false (is_on_some l p) (away_none l ord p h)

  -- ---- a line

  pub line_interior : Curves l (in_interior (Object.line l))
  unfolding in_interior
  line_interior =
      record { ordered = ord; on = λ p t. and_left (is_on_some l p) (not (is_boundary (ends_at l p))) t; inner = λ p s m h e. line_inner l ord s m p h e }

  pub line_boundary : Dots (in_boundary (Object.line l))
  unfolding in_boundary
  line_boundary = record { list = ends l; among = λ p t. let w = bound_end l p t in end_among p w.1 (end_read w.0 p w.2) }

  pub line_exterior : Areas (in_exterior (Object.line l))
  line_exterior =
      record {
        segments = l;
        posts = [];
        ordered = ord;
        away = λ p h t. off_away p (line_outside l ord p h t);
        off = λ p h t e m. absurd (in_nil m);
        stays = λ p q h k t r. outside_line l ord q k (away_off q r.away);
      }

  -- ---- a region

  pub region_boundary : Curves l (in_boundary (Object.region l))
  unfolding in_boundary
  region_boundary = record { ordered = ord; on = λ p t. t; inner = λ p s m h e. on_make l ord p s m h }

  module _ (even : Even l) where
    inside_around : (p q : HPoint) → T (not (is_on_some l p)) → Around l [] p q → inside l q ≡ inside l p
    inside_around p q off r =
        inside_parity l ord q (away_none l ord q r.away) ∙ r.parities l even (λ t m. m) ∙ sym (inside_parity l ord p (false_is (is_on_some l p) off))

    pub region_interior : Areas (in_interior (Object.region l))
    unfolding in_interior
    region_interior =
        record {
          segments = l;
          posts = [];
          ordered = ord;
          away = λ p h t. off_away p (inside_off l p t);
          off = λ p h t e m. absurd (in_nil m);
          stays = λ p q h k t r. subst T (sym (inside_around p q (inside_off l p t) r)) t;
        }

    pub region_exterior : Areas (in_exterior (Object.region l))
    unfolding in_exterior in_interior in_boundary
    region_exterior =
        record {
          segments = l;
          posts = [];
          ordered = ord;
          away = λ p h t. off_away p (and_right (not (inside l p)) (not (is_on_some l p)) t);
          off = λ p h t e m. absurd (in_nil m);
          stays = λ p q h k t r. and_make (not (inside l q)) (not (is_on_some l q)) (subst (λ b. T (not b)) (sym (inside_around p q (and_right (not (inside l p)) (not (is_on_some l p)) t) r)) (and_left (not (inside l p)) (not (is_on_some l p)) t)) (away_off q r.away);
        }
