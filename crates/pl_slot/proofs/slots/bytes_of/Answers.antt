use Rattle.std.proofs.Common.{◌∙◌, ap}
use Rattle.pl_base.specs.Live.{slot_size}
use Rattle.pl_sheets.specs.Sheets.{bytes_at, place_in}
use Rattle.pl_slot.specs.Arena.{slot_page}
use Rattle.pl_slot.proofs.slots.bytes_of.Goals as goal

pub returns : goal.returns
returns c =
    c.get.ensures
    ∙ ap (λ page. bytes_at (place_in page c.byte_of.result) slot_size c.args.sheets.now.bytes) c.page_of.ensures
    ∙ ap (λ at. bytes_at (place_in (slot_page c.args.slot.0) at) slot_size c.args.sheets.now.bytes) c.byte_of.ensures
