-- The state of a walk as C has it: all numbers, what a caller reads first, and all of the two objects' in the caller's order. For every state that comes back the answer, whatever it is.
use Rattle.std.specs.Prelude.{Option, Some, None, Ok, Err, ℕ, ◌≡◌, Bool, not, ◌&&◌, cond, List, leb, eqb}
use Rattle.whole.specs.Count.{bit}
use Rattle.scene.specs.Read.{number_of, shape_number, shape_of}
use Rattle.walk.specs.declared.Walk.{Walk}
use Rattle.walk.specs.Walked.{WalkAnswer, shown, done, at_fault, portion_of}
use Rattle.karvoiss.specs.declared.KarvoissWalk.{KarvoissWalk}

abbrev pub state_for_c : Walk → KarvoissWalk
state_for_c w =
    record {
      number = 0;
      place = 0;
      f = (shown w).f;
      g = (shown w).g;
      done = bit (done w);
      type_f = cond w.is_turned (shape_number w.g) (shape_number w.f);
      type_g = cond w.is_turned (shape_number w.f) (shape_number w.g);
      turned = bit w.is_turned;
      want_f = cond w.is_turned w.want.g w.want.f;
      want_g = cond w.is_turned w.want.f w.want.g;
      events = w.events;
      taken = w.taken;
    }

-- "Every refusal has .. all other results 0"
abbrev pub refused_for_c : (number place : ℕ) → KarvoissWalk
refused_for_c number place =
    record {
      number = number;
      place = place;
      f = 0;
      g = 0;
      done = 0;
      type_f = 0;
      type_g = 0;
      turned = 0;
      want_f = 0;
      want_g = 0;
      events = 0;
      taken = 0;
    }

abbrev pub walk_for_c : WalkAnswer → KarvoissWalk
walk_for_c (Ok w) = state_for_c w
walk_for_c (Err r) = refused_for_c (number_of r.reason) r.place

-- ---- a state that comes back

abbrev pub type_test : ℕ → Bool
type_test n = leb 1 n && leb n 3

-- of the object given first that of F, or of G where they are turned
module _ (c : KarvoissWalk) where
  abbrev pub is_turned : Bool
  is_turned = not (eqb c.turned 0)

  abbrev pub read_state : Walk
  read_state =
      record {
        f = shape_of (cond is_turned c.type_g c.type_f);
        g = shape_of (cond is_turned c.type_f c.type_g);
        is_turned = is_turned;
        want = record { f = cond is_turned c.want_g c.want_f; g = cond is_turned c.want_f c.want_g };
        events = c.events;
        taken = c.taken;
        found = record { f = cond is_turned c.g c.f; g = cond is_turned c.f c.g };
      }

  abbrev pub state_of : Option Walk
  state_of = cond (type_test c.type_f && type_test c.type_g) (Some read_state) None

-- 24 at 0 where a type is none
abbrev pub portion_if : List ℕ → Option Walk → ℕ → WalkAnswer
portion_if g (Some w) n = portion_of g w n
portion_if g None n = at_fault

-- a refusal comes back as it is
abbrev pub portion_for_c : List ℕ → KarvoissWalk → ℕ → KarvoissWalk
portion_for_c g c n = cond (eqb c.number 0) (walk_for_c (portion_if g (state_of c) n)) c

-- of a state as it was given away
abbrev pub ComesBack : List ℕ → KarvoissWalk → ℕ → KarvoissWalk → Type 0
ComesBack g c n r = (w : Walk) → c ≡ state_for_c w → r ≡ walk_for_c (portion_of g w n)
