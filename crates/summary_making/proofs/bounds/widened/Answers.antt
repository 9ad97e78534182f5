-- The machine's least and greatest are those of the definition.
use Rattle.std.proofs.Common.{◌≡◌, cond, Bool, true, false, not, ℤ, w32, to_z, of_z, FitsSigned, refl, ap₂, ◌∙◌, rules}
use Rattle.std.proofs.lemmas.Int.{to_z-of_z}
use Rattle.std.specs.Int.{int_min, int_max}
use Rattle.std.specs.Int.Signed.{le_z}
use Rattle.whole.proofs.Sign.{lt_z_le_z}
use Rattle.plane.proofs.Machine.{Held}
use Rattle.summary.specs.Summary.{lesser, greater}
use Rattle.summary_making.proofs.bounds.widened.Goals as goal

module _ {a b r : ℤ} (one : FitsSigned w32 a) (other : FitsSigned w32 b) (fits : FitsSigned w32 r) where
  least : r ≡ int_min (to_z w32 (of_z w32 a)) (to_z w32 (of_z w32 b)) → to_z w32 (of_z w32 r) ≡ lesser a b
  unfolding lesser
  least e = to_z-of_z w32 r fits ∙ e ∙ ap₂ int_min (to_z-of_z w32 a one) (to_z-of_z w32 b other) ∙ rw (lt_z_le_z b a) (go (le_z a b))
    where
      go : (t : Bool) → cond (not t) b a ≡ cond t a b
      go true = refl
      go false = refl

  most : r ≡ int_max (to_z w32 (of_z w32 a)) (to_z w32 (of_z w32 b)) → to_z w32 (of_z w32 r) ≡ greater a b
  unfolding greater
  most e = to_z-of_z w32 r fits ∙ e ∙ ap₂ int_max (to_z-of_z w32 a one) (to_z-of_z w32 b other) ∙ rw (lt_z_le_z b a) (go (le_z a b))
    where
      go : (t : Bool) → cond (not t) a b ≡ cond t b a
      go true = refl
      go false = refl

pub returns : goal.returns
returns c =
    let low : Held c.args.b.least = search rules in
    let high : Held c.args.b.greatest = search rules in
    let p : Held c.args.p = search rules in
    λ i. record {
      least = record {
        x = least low.x_fits p.x_fits (search rules) c.min.ensures.value i;
        y = least low.y_fits p.y_fits (search rules) c.min-2.ensures.value i;
      };
      greatest = record {
        x = most high.x_fits p.x_fits (search rules) c.max.ensures.value i;
        y = most high.y_fits p.y_fits (search rules) c.max-2.ensures.value i;
      };
    }
