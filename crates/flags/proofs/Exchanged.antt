-- The flags that two objects of one type share are the same asked of either first: what makes each hold does not tell the two apart.
use mathlib.Core.Path.{◌≡◌, sym}
use mathlib.Core.Logic.{⊎_elim, inl, inr}
use mathlib.Core.Bool.{Bool}
use mathlib.Core.List.{List}
use Rattle.whole.specs.Decides.{Decides}
use Rattle.whole.proofs.Logic.{same_test}
use Rattle.plane.specs.declared.Point.{Point}
use Rattle.plane.specs.declared.Segment.{Segment}
use Rattle.flags.specs.Flags.{Edge, outline, points, line, region, poi_shared, seg_shared, interior_poi_shared, bound_shared, class02, class20, class11, bound_poi_shared}
use Rattle.flags.specs.Sentences.{Shared, InteriorPoiShared, BoundShared, Class02, Class20, Class11, BoundPoiShared}
use Rattle.flags.proofs.Sentences.{flags_agree_F, agree_at}

-- two tests of one thing
same_flag : {P Q : Type 0} {a b : Bool} → Decides P a → Decides Q b → (P → Q) → (Q → P) → a ≡ b
same_flag {P} {Q} {a} {b} d e to back = same_test a b (λ t. e.complete (to (d.sound t))) (λ t. d.complete (back (e.sound t)))

shared_swap : {A : Type 0} (F G : List A) → Shared F G → Shared G F
shared_swap F G w = (w.2.0, w.2.1, (w.0, w.1, sym w.2.2))

pub poi_shared_swap : (F G : List Point) → poi_shared F G ≡ poi_shared G F
poi_shared_swap F G =
    same_flag (agree_at (flags_agree_F (points F) (points G)) 1) (agree_at (flags_agree_F (points G) (points F)) 1) (shared_swap F G) (shared_swap G F)

module _ (F G : List Segment) where
  interior_swap : InteriorPoiShared F G → InteriorPoiShared G F
  interior_swap w = (w.0, w.2.0, (w.1, (w.2.1.1, w.2.1.0)))

  bound_swap : BoundShared F G → BoundShared G F
  bound_swap w = (w.0, w.2, w.1)

module _ (F G : List Segment) where
  pub seg_shared_swap : seg_shared F G ≡ seg_shared G F
  seg_shared_swap =
      same_flag (agree_at (flags_agree_F (line F) (line G)) 0) (agree_at (flags_agree_F (line G) (line F)) 0) (shared_swap F G) (shared_swap G F)

  pub interior_poi_shared_swap : interior_poi_shared F G ≡ interior_poi_shared G F
  interior_poi_shared_swap =
      same_flag (agree_at (flags_agree_F (line F) (line G)) 1) (agree_at (flags_agree_F (line G) (line F)) 1) (interior_swap F G) (interior_swap G F)

  pub bound_shared_swap : bound_shared F G ≡ bound_shared G F
  bound_shared_swap =
      same_flag (agree_at (flags_agree_F (line F) (line G)) 4) (agree_at (flags_agree_F (line G) (line F)) 4) (bound_swap F G) (bound_swap G F)

module _ (F G : List Edge) where
  both_above_swap : Class02 F G → Class02 G F
  both_above_swap w = let g = w.2 in let p = g.2 in (g.0, g.1, (w.0, w.1, (sym p.0, (p.1.1, p.1.0))))

  both_below_swap : Class20 F G → Class20 G F
  both_below_swap w = let g = w.2 in let p = g.2 in (g.0, g.1, (w.0, w.1, (sym p.0, (p.1.1, p.1.0))))

  opposite_swap : Class11 F G → Class11 G F
  opposite_swap w =
      let g = w.2 in
      let p = g.2 in
      (g.0, g.1, (w.0, w.1, (sym p.0, ⊎_elim (λ x. inr (x.1, x.0)) (λ x. inl (x.1, x.0)) p.1)))

meets_swap : (F G : List Segment) → BoundPoiShared F G → BoundPoiShared G F
meets_swap F G w =
    let g = w.2 in
    let m = g.2.1 in
    (g.0, g.1, (w.0, w.1, (g.2.0, ((λ e. m.0 (sym e)), m.2, m.1))))

module _ (F G : List Edge) where
  pub class02_swap : class02 F G ≡ class02 G F
  class02_swap =
      same_flag (agree_at (flags_agree_F (region F) (region G)) 4) (agree_at (flags_agree_F (region G) (region F)) 4) (both_above_swap F G) (both_above_swap G F)

  pub class20_swap : class20 F G ≡ class20 G F
  class20_swap =
      same_flag (agree_at (flags_agree_F (region F) (region G)) 5) (agree_at (flags_agree_F (region G) (region F)) 5) (both_below_swap F G) (both_below_swap G F)

  pub class11_swap : class11 F G ≡ class11 G F
  class11_swap =
      same_flag (agree_at (flags_agree_F (region F) (region G)) 6) (agree_at (flags_agree_F (region G) (region F)) 6) (opposite_swap F G) (opposite_swap G F)

  pub bound_poi_shared_swap : bound_poi_shared F G ≡ bound_poi_shared G F
  bound_poi_shared_swap =
      same_flag (agree_at (flags_agree_F (region F) (region G)) 7) (agree_at (flags_agree_F (region G) (region F)) 7) (meets_swap (outline F) (outline G)) (meets_swap (outline G) (outline F))
