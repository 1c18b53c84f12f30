use Rattle.std.proofs.Common.{◌∙◌, ap, sym}
use Rattle.std.specs.Option.{option_map}
use Rattle.pl_base.specs.Rows.{mark_of}
use Rattle.pl_record.proofs.Kept.{mark_told, no_page, page_kind}
use Rattle.pl_linked.proofs.linked.Linked.page_at.Goals as goal

pub returns-in_err-slot-clause-mark : goal.returns-in_err-slot-clause-mark
returns-in_err-slot-clause-mark g c =
    let s = c.args.self.now.slots in
    c.from_residual.ensures
    ∙ sym (ap (option_map mark_of)
    (no_page s.arena s.pages.entries s.visits.entries s.items.entries s.rows c.args.page
    (sym c.slot_at.ensures ∙ c.in_err-slot.was)))

pub read_place-requires : goal.read_place-requires
read_place-requires g c =
    let s = c.args.self.now.slots in
    record {
      place =
          page_kind s.arena s.pages.entries s.visits.entries s.items.entries s.rows c.args.page c.in_ok-slot.slot
          (sym c.slot_at.ensures ∙ c.in_ok-slot.was);
    }

pub returns-clause-mark : goal.returns-clause-mark
returns-clause-mark g c =
    let s = c.args.self.now.slots in
    mark_told s.arena s.pages.entries s.visits.entries s.items.entries s.rows c.args.page c.in_ok-slot.slot
    c.read_place.result (sym c.slot_at.ensures ∙ c.in_ok-slot.was) c.read_place.ensures.row
