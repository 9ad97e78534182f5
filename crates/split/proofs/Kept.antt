-- What the splitter promises, for every byte string and every room.
use Prim.Native.Nat.{ℕ}
use mathlib.Core.List.{List}
use Rattle.scene.specs.declared.Layout.{Layout}
use Rattle.scene.specs.Read.{given_first, given_second}
use Rattle.scene.specs.Conditions.{segments}
use Rattle.sweep_laws.proofs.SoundObject.{SoundObject, regular}
use Rattle.split_crossing.proofs.SplitWell.{SplitWell}
use Rattle.split.specs.Promised.{SplitRight, Promised}
use Rattle.split.proofs.Given.{splittable, parts_kept, first_split, second_split}
use Rattle.split.proofs.Accepted.{split_written}

right : (s : List ℕ) (own other : Layout) → SoundObject s own → SplitWell (segments s own) (segments s other) → SplitRight s own other
right s own other o w =
    record { same_parts = parts_kept s other own.shape own.start own.count w; same_area = λ e. w.area_kept (regular o e); cut = w.cut; counted = w.counted }

pub promised : (s : List ℕ) (room : ℕ) → Promised s room
promised s room sc e =
    let given = splittable s room sc e in
    let w = split_written given in
    record {
      scene = w.scene;
      accepted = w.accepted;
      first_parts = w.first_kept;
      second_parts = w.second_kept;
      first = right s (given_first sc) (given_second sc) given.first_sound (first_split given);
      second = right s (given_second sc) (given_first sc) given.second_sound (second_split given);
    }
