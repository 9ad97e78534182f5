-- The object is a region, so its record has an ia.
use Rattle.whole.proofs.Logic.{is_true}
use Rattle.sweep_laws.proofs.Entries.{entry_ia}
use Rattle.sweep_event.proofs.Read.{region_is}
use Rattle.sweep_event.proofs.has_right_ia.Goals as goal

pub ia-requires : goal.ia-requires
ia-requires c =
    let a = c.args in
    let region = region_is c.is_region.ensures c.object.ensures c.if-not-is_region.false in
    entry_ia a.event.read.bytes.now a.event.read.scene a.event.read.read c.args.event.owned c.args.event.recorded (is_true _ region)
