use Rattle.std.proofs.Common.{◌∙◌, ap, is_some, sym}
use Rattle.std.proofs.lemmas.Bool.{true≢false}
use Rattle.pl_slot.specs.SlotReading.{row_in}
use Rattle.pl_slot.proofs.SlotPlaces.{read_known, row_slot}
use Rattle.pl_slot.proofs.slots.known_row.Goals as goal

pub bytes_of-bytes-requires : goal.bytes_of-bytes-requires
bytes_of-bytes-requires c = record { there = row_slot c.args.slot.0 c.args.sheets.now c.requires.there }

pub returns-clause-row : goal.returns-clause-row
returns-clause-row c =
    read_known c.args.slot.0 c.args.sheets.now c.requires.there
    ∙ ap row_in (sym c.bytes_of-bytes.ensures) ∙ sym c.in-Some.ensures.row

pub unreachable-requires : goal.unreachable-requires
unreachable-requires c =
    let read =
    read_known c.args.slot.0 c.args.sheets.now c.requires.there
    ∙ ap row_in (sym c.bytes_of-bytes.ensures) ∙ sym c.in-None.ensures.row in
    true≢false (sym c.requires.there ∙ ap is_some read)
