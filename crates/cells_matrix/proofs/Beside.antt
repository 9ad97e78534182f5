-- Beside a segment: points just above it and just below it, off any finite set and off any segments that share only ends with it, with the parities
-- that the flip lemma gives. So a region that is not empty has interior points near each of its segments.
use Prim.Native.Nat.{ℕ, suc}
use mathlib.Core.Path.{◌≡◌, refl, ap, ◌∙◌}
use mathlib.Core.Logic.{◌⊎◌}
use mathlib.Core.Bool.{Bool, true, false}
use mathlib.Core.List.{List, []}
use lib.Dec.{T}
use Rattle.whole.specs.Count.{◌∈◌}
use Rattle.whole.proofs.Sign.{Pos, NonNeg, one_pos, lit_nonneg, pos_mul, pos_add_nonneg}
use Rattle.whole.proofs.Logic.{in_nil, is_true}
use Rattle.whole.proofs.Parity.{◌⊻◌, parity, parity_nil}
use Rattle.plane.specs.declared.Point.{Point}
use Rattle.plane.specs.declared.Segment.{Segment}
use Rattle.plane.specs.Plane.{HPoint, midpoint, is_at, is_same_point, is_same_segment, counts_below, inside}
use Rattle.plane.proofs.OnSegment.{Ordered, slanting, upright, Away}
use Rattle.plane.proofs.Path.{Even}
use Rattle.plane.proofs.Steps.{Large, large_and, large_one, step}
use Rattle.plane.proofs.AlongSegment.{Apart}
use Rattle.plane.proofs.Flip.{upper_way, lower_way, upper_away, lower_away, flip_upper, flip_lower}
use Rattle.plane.proofs.Accepted.{Regular, middle_away}
use Rattle.cells_matrix.proofs.Common.{off_points, upper_free, lower_free, away_none, inside_parity}

-- A point off the points P, away from l and from m, with these parities over m and k
pub record Beside (P : List Point) (l m k : List Segment) (b c : Bool) : Type 0 where
  pub at : HPoint
  pub at_pos : Pos at.W
  pub off : (e : Point) → e ∈ P → is_at e at ≡ false
  pub away : (t : Segment) → t ∈ l → Away t at
  pub away_one : (t : Segment) → t ∈ m → Away t at
  pub away_two : (t : Segment) → t ∈ k → Away t at
  pub parity_one : parity (counts_below at) m ≡ b
  pub parity_two : parity (counts_below at) k ≡ c

-- The lists that a segment's sides are compared with: those that it only has ends in common with, and two with even ends
module _ (P : List Point) (s : Segment) (o : Ordered s) (l m k : List Segment)
    (l_others : (t : Segment) → t ∈ l → (s ≡ t) ⊎ Away t (midpoint s))
    (m-others : (t : Segment) → t ∈ m → (s ≡ t) ⊎ Away t (midpoint s))
    (k-others : (t : Segment) → t ∈ k → (s ≡ t) ⊎ Away t (midpoint s)) where
  -- what holds for large n of the step d
  abbrev There : HPoint → Bool → Bool → ℕ → Type 0
  There d b c n =
      ((e : Point) → e ∈ P → is_at e (step d (midpoint s) n) ≡ false)
      × (((t : Segment) → t ∈ l → Away t (step d (midpoint s) n))
      × (((t : Segment) → t ∈ m → Away t (step d (midpoint s) n))
      × (((t : Segment) → t ∈ k → Away t (step d (midpoint s) n))
      × ((parity (counts_below (step d (midpoint s) n)) m ≡ b) × (parity (counts_below (step d (midpoint s) n)) k ≡ c)))))

  beside : (d : HPoint) (b c : Bool) → NonNeg d.W → Large (There d b c) → Beside P l m k b c
  beside d b c h w =
      let (n, f) = large_one w in
      record { at = step d (midpoint s) (suc n); at_pos = pos_add_nonneg (pos_mul (one_pos n) (one_pos 1)) h; off = f.0; away = f.1.0; away_one = f.1.1.0; away_two = f.1.1.1.0; parity_one = f.1.1.1.1.0; parity_two = f.1.1.1.1.1 }

  no_W : (o : Ordered s) → NonNeg (upper_way o).W × NonNeg (lower_way o).W
  no_W (slanting w) = (lit_nonneg 0, lit_nonneg 0)
  no_W (upright e w) = (lit_nonneg 0, lit_nonneg 0)

  pub below_it : Beside P l m k (parity (counts_below (midpoint s)) m) (parity (counts_below (midpoint s)) k)
  below_it =
      beside (lower_way o) _ _ (no_W o).1
      (large_and (off_points (midpoint s) (lower_way o) P (λ e. lower_free o e (midpoint s)))
      (large_and (lower_away s o l l_others) (large_and (lower_away s o m m-others) (large_and (lower_away s o k k-others) (large_and (flip_lower s o m m-others) (flip_lower s o k k-others))))))

  pub above_it : Even m → ((t : Segment) → t ∈ m → Ordered t) → Even k → ((t : Segment) → t ∈ k → Ordered t)
      → Beside P l m k (parity (counts_below (midpoint s)) m ⊻ parity (is_same_segment s) m) (parity (counts_below (midpoint s)) k ⊻ parity (is_same_segment s) k)
  above_it m-even m-ord k-even k-ord =
      beside (upper_way o) _ _ (no_W o).0
      (large_and (off_points (midpoint s) (upper_way o) P (λ e. upper_free o e (midpoint s)))
      (large_and (upper_away s o l l_others) (large_and (upper_away s o m m-others) (large_and (upper_away s o k k-others) (large_and (flip_upper s o m m-others m-even m-ord) (flip_upper s o k k-others k-even k-ord))))))

-- ---- an interior point of a region, near any of its segments

-- off the points P and off the segments l
pub record Within (P : List Point) (l : List Segment) (R : List Segment) : Type 0 where
  pub at : HPoint
  pub at_pos : Pos at.W
  pub off : (e : Point) → e ∈ P → is_at e at ≡ false
  pub away : (t : Segment) → t ∈ l → Away t at
  pub within : T (inside R at)

pub region_inner : (P : List Point) (l R : List Segment) → Regular R → ((s t : Segment) → s ∈ R → t ∈ l → (s ≡ t) ⊎ Apart s t) → ((t : Segment) → t ∈ l → Ordered t)
    → (s : Segment) → s ∈ R → Within P l R
region_inner P l R regular across l-ord s m = go (parity (counts_below (midpoint s)) R) refl
  where
    ord : (t : Segment) → t ∈ R → Ordered t
    ord = regular.split.ordered

    l_others : (t : Segment) → t ∈ l → (s ≡ t) ⊎ Away t (midpoint s)
    l_others t i = middle_away s t (ord s m) (l-ord t i) (across s t m i)

    R_others : (t : Segment) → t ∈ R → (s ≡ t) ⊎ Away t (midpoint s)
    R_others t i = middle_away s t (ord s m) (ord t i) (regular.split.apart s t m i)

    none : (t : Segment) → t ∈ [] → (s ≡ t) ⊎ Away t (midpoint s)
    none t i = absurd (in_nil i)

    found : {b c : Bool} → b ≡ true → Beside P l R [] b c → Within P l R
    found {b} e w =
        record {
          at = w.at;
          at_pos = w.at_pos;
          off = w.off;
          away = w.away;
          within = is_true (inside R w.at) (inside_parity R ord w.at (away_none R ord w.at w.away_one) ∙ w.parity_one ∙ e);
        }

    go : (b : Bool) → parity (counts_below (midpoint s)) R ≡ b → Within P l R
    go true e = found e (below_it P s (ord s m) l R [] l_others R_others none)
    go false e =
        found (ap (λ b. b ⊻ parity (is_same_segment s) R) e ∙ regular.split.once s m)
        (above_it P s (ord s m) l R [] l_others R_others none regular.even ord (λ v. parity_nil (λ t. is_same_point t.left v ⊻ is_same_point t.right v)) (λ t i. absurd (in_nil i)))
