use Rattle.std.proofs.Common.{◌≡◌, ◌∙◌, ap, Option, Some, subst, sym}
use Rattle.std.specs.Option.{IfSome, option_and_then, option_map}
use Rattle.pl_base.specs.declared.id.Slot.{Slot}
use Rattle.pl_base.specs.Tree.{item_row}
use Rattle.pl_slot.specs.declared.kind.SlotKind.TheVariants as kinds
use Rattle.pl_slot.specs.Links.{kind_at}
use Rattle.pl_record.specs.Rows.{item_in, page_in}
use Rattle.pl_record.proofs.Kept.{item_kind, item_page_kind, item_told, no_item, parent_kind}
use Rattle.pl_linked.proofs.linked.Linked.item_at.Goals as goal

pub returns-in_err-slot-clause-row : goal.returns-in_err-slot-clause-row
returns-in_err-slot-clause-row g c =
    let s = c.args.self.now.slots in
    c.from_residual.ensures
    ∙ sym (ap (option_map (item_row s.rows.kept.items)) (no_item s.arena s.pages.entries s.visits.entries s.items.entries s.rows c.args.item (sym c.slot_at.ensures ∙ c.in_err-slot.was)))

pub read_item-row-requires : goal.read_item-row-requires
read_item-row-requires g c =
    let s = c.args.self.now.slots in
    record { item = item_kind s.arena s.pages.entries s.visits.entries s.items.entries s.rows c.args.item c.in_ok-slot.slot (sym c.slot_at.ensures ∙ c.in_ok-slot.was) }

pub id_in-requires : goal.id_in-requires
id_in-requires g c =
    let s = c.args.self.now.slots in
    record {
      item =
          subst (λ (o : Option Slot). IfSome o (λ t. kind_at t.0 s.arena ≡ Some kinds.Item)) (sym c.named.ensures)
          (parent_kind s.arena s.pages.entries s.visits.entries s.items.entries s.rows c.args.item c.in_ok-slot.slot c.read_item-row.result (sym c.slot_at.ensures ∙ c.in_ok-slot.was) c.read_item-row.ensures.row);
    }

pub page_in-requires : goal.page_in-requires
page_in-requires g c =
    let s = c.args.self.now.slots in
    record {
      page =
          subst (λ (o : Option Slot). IfSome o (λ t. kind_at t.0 s.arena ≡ Some kinds.Place)) (sym c.named-2.ensures)
          (item_page_kind s.arena s.pages.entries s.visits.entries s.items.entries s.rows c.args.item c.in_ok-slot.slot c.read_item-row.result (sym c.slot_at.ensures ∙ c.in_ok-slot.was) c.read_item-row.ensures.row);
    }

pub returns-clause-row : goal.returns-clause-row
returns-clause-row g c =
    let s = c.args.self.now.slots in
    item_told s.arena s.pages.entries s.visits.entries s.items.entries s.rows c.args.item c.in_ok-slot.slot c.read_item-row.result (sym c.slot_at.ensures ∙ c.in_ok-slot.was)
    c.read_item-row.ensures.row c.id_in.result c.page_in.result
    (c.id_in.ensures.id ∙ ap (option_and_then (item_in s.arena)) c.named.ensures)
    (c.page_in.ensures.id ∙ ap (option_and_then (page_in s.arena)) c.named-2.ensures)
