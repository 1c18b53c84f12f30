use Rattle.std.proofs.Common.{◌≡◌, ◌∙◌, ap, Option, Some, subst, sym}
use Rattle.std.specs.Option.{IfSome, option_and_then, option_map}
use Rattle.pl_base.specs.declared.id.Slot.{Slot}
use Rattle.pl_base.specs.Rows.{row_of}
use Rattle.pl_slot.specs.declared.kind.SlotKind.TheVariants as kinds
use Rattle.pl_slot.specs.Links.{kind_at}
use Rattle.pl_record.specs.Rows.{page_id, visit_in}
use Rattle.pl_record.proofs.Kept.{no_visit, own_page_kind, source_kind, visit_kind, visit_told}
use Rattle.pl_linked.proofs.linked.Linked.visit_at.Goals as goal

pub returns-in_err-slot-clause-row : goal.returns-in_err-slot-clause-row
returns-in_err-slot-clause-row g c =
    let s = c.args.self.now.slots in
    c.from_residual.ensures ∙ sym (ap (option_map row_of) (no_visit s.arena s.pages.entries s.visits.entries s.items.entries s.rows c.args.visit (sym c.slot_at.ensures ∙ c.in_err-slot.was)))

pub read_visit-row-requires : goal.read_visit-row-requires
read_visit-row-requires g c =
    let s = c.args.self.now.slots in
    record { visit = visit_kind s.arena s.pages.entries s.visits.entries s.items.entries s.rows c.args.visit c.in_ok-slot.slot (sym c.slot_at.ensures ∙ c.in_ok-slot.was) }

pub read_place-requires : goal.read_place-requires
read_place-requires g c =
    let s = c.args.self.now.slots in
    record {
      place = own_page_kind s.arena s.pages.entries s.visits.entries s.items.entries s.rows c.args.visit c.in_ok-slot.slot c.read_visit-row.result (sym c.slot_at.ensures ∙ c.in_ok-slot.was)
          c.read_visit-row.ensures.row;
    }

pub id_in-requires : goal.id_in-requires
id_in-requires g c =
    let s = c.args.self.now.slots in
    record {
      visit =
          subst (λ (o : Option Slot). IfSome o (λ t. kind_at t.0 s.arena ≡ Some kinds.Visit)) (sym c.named.ensures)
          (source_kind s.arena s.pages.entries s.visits.entries s.items.entries s.rows c.args.visit c.in_ok-slot.slot c.read_visit-row.result (sym c.slot_at.ensures ∙ c.in_ok-slot.was) c.read_visit-row.ensures.row);
    }

pub returns-clause-row : goal.returns-clause-row
returns-clause-row g c =
    let s = c.args.self.now.slots in
    visit_told s.arena s.pages.entries s.visits.entries s.items.entries s.rows c.args.visit c.in_ok-slot.slot c.read_visit-row.result (sym c.slot_at.ensures ∙ c.in_ok-slot.was)
    c.read_visit-row.ensures.row c.read_place.result.id c.id_in.result
    (ap (option_and_then page_id) c.read_place.ensures.row)
    (c.id_in.ensures.id ∙ ap (option_and_then (visit_in s.arena)) c.named.ensures)
