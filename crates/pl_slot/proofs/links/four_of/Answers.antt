use Rattle.std.proofs.Common.{◌∙◌, ◌+◌, ap, w32}
use Rattle.std.specs.Int.{from_le_bytes}
use Rattle.pl_sheets.specs.Sheets.{bytes_at, place_in}
use Rattle.pl_slot.specs.Arena.{slot_page}
use Rattle.pl_slot.proofs.links.four_of.Goals as goal

pub returns : goal.returns
returns c =
    c.from_le_bytes.ensures
    ∙ ap (from_le_bytes w32) c.get.ensures
    ∙ ap (λ page. from_le_bytes w32 (bytes_at (place_in page (c.byte_of.result + c.args.at)) 4 c.args.sheets.now.bytes))
    c.page_of.ensures
    ∙ ap (λ n. from_le_bytes w32 (bytes_at (place_in (slot_page c.args.slot.0) (n + c.args.at)) 4 c.args.sheets.now.bytes))
    c.byte_of.ensures
