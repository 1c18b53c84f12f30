use Rattle.std.proofs.Common.{◌≡◌, Some}
use Rattle.pl_record.specs.LinkedRows.{slot_at}
use Rattle.pl_record.specs.Rows.{place_row, row_in}
use Rattle.pl_record.proofs.Kept.{origin_told, some_and}
use Rattle.pl_linked.proofs.linked.Linked.origin_of.Goals as goal

pub returns-clause-origin : goal.returns-clause-origin
returns-clause-origin g c =
    let s = c.args.self.now.slots in
    let h = some_and (λ slot. row_in slot s.arena ≡ Some (place_row c.place_of.result)) (slot_at s.pages.entries c.args.page.0) c.place_of.ensures.row in
    origin_told s.arena s.pages.entries s.visits.entries s.items.entries s.rows c.args.page h.0 c.place_of.result h.1 h.2
