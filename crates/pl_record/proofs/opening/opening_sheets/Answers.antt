use Rattle.std.proofs.Common.{◌∙◌, ap}
use Rattle.pl_record.specs.Opening.{opening_header, opening_rows, with_rows}
use Rattle.pl_sheets.specs.Sheets.{with_bytes}
use Rattle.pl_record.proofs.opening.opening_sheets.Goals as goal

pub returns : goal.returns
returns c =
    c.put_roots.ensures
    ∙ ap (with_rows 0 opening_rows) (c.put.ensures ∙ ap (with_bytes 1 0 opening_header) c.in_ok-sheets.ensures)
