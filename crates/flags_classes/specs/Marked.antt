-- The marks that the walk over the left halfsegments collects: a bit of a number for each class, in their order.
use Rattle.std.specs.Prelude.{ℕ, Bool, false, not, ◌&&◌, ◌||◌, [], ◌∷◌, eqb}
use Rattle.flags.specs.Flags.{pack, has_bit}
use Rattle.flags_classes.specs.declared.Classes.{Classes}

-- of a segment that is none of the other's
abbrev pub unshared_marks : (above : Bool) (note : ℕ) → ℕ
unshared_marks above note =
    pack ((above && eqb note 0) ∷ (not above && eqb note 0) ∷ (above && not (eqb note 0)) ∷ (not above && not (eqb note 0)) ∷ [])

-- of a segment of both
abbrev pub shared_marks : (above other : Bool) → ℕ
shared_marks above other =
    pack (false ∷ false ∷ false ∷ false ∷ (above && other) ∷ (not above && not other) ∷ (above && not other || not above && other) ∷ [])

-- the marks by their names
abbrev pub named : ℕ → Classes
named m =
    record {
      above_outside = has_bit m 0;
      below_outside = has_bit m 1;
      above_inside = has_bit m 2;
      below_inside = has_bit m 3;
      both_above = has_bit m 4;
      both_below = has_bit m 5;
      opposite = has_bit m 6;
    }
