-- No record so far is at fault; and while there is room, the pieces so far and those of the rest are all of them.
use Rattle.std.proofs.Common.{◌≡◌, ◌++◌, ◌<◌, true, false, length}
use Rattle.scene.specs.Conditions.{earliest}
use Rattle.scene_segments.proofs.Walk.{between}
use Rattle.split_cuts.specs.Listed.{segments_of, listed}
use Rattle.split_cuts.specs.Split.{is_off_grid, off_grid, split_pieces, most_pieces}
use Rattle.split_cuts.proofs.Listing.{listed_from}
use Rattle.split_cuts.proofs.first.split_first.Given as goal

abbrev pub invariant-loop-i : goal.invariant-loop-i
invariant-loop-i l =
    let s = l.own.bytes.now in
    let o = l.own.layout in
    let others = segments_of l.other.list.now in
    record {
      on : off_grid s o others ≡ earliest o (is_off_grid s o others) (between l.i o.count);
      room : l.has_room ≡ true → split_pieces others (listed s o) ≡ l.row.items ++ split_pieces others (listed_from s o (between l.i o.count));
      over : l.has_room ≡ false → most_pieces < length (split_pieces others (listed s o));
    }
