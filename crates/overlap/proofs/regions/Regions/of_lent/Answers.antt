-- A scene of two regions that are sound was read, and notes read of lent bytes are noted where these are.
use Rattle.sweep_notes.proofs.Kept.{few_in_scene}
use Rattle.check_verdict.proofs.Laws.{sound_read}
use Rattle.overlap.proofs.regions.Regions.of_lent.Goals as goal

pub invariant_of-of : goal.invariant_of-of
invariant_of-of c = record { read = sound_read c.requires.0.0 }

pub of-requires : goal.of-requires
of-requires c =
    let s = c.args.bytes.now in
    (c.requires.0, c.of_bytes.ensures.noted s c.args.scene (few_in_scene s c.args.scene (sound_read c.requires.0.0)) c.requires.2)
