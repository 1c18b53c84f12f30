use Rattle.std.proofs.Common.{◌∙◌, ap, is_some, refl, sym}
use Rattle.pl_slot.specs.declared.kind.SlotKind.TheVariants as kinds
use Rattle.pl_slot.specs.declared.links.Link.TheVariants.{Next}
use Rattle.pl_slot.specs.declared.links.Rail.TheVariants.{Children}
use Rattle.pl_record.proofs.Kept.{item_kind, next_sibling_told_kind, next_sibling_told_named, no_item_sibling, no_sibling}
use Rattle.pl_record.proofs.RowKinds.{link_there}
use Rattle.pl_linked.proofs.linked.Linked.next_sibling.Goals as goal

pub returns-in_err-slot-clause-next : goal.returns-in_err-slot-clause-next
returns-in_err-slot-clause-next g c =
    let s = c.args.self.now.slots in
    c.from_residual.ensures ∙ sym (no_item_sibling s.arena s.pages.entries s.visits.entries s.items.entries s.rows c.args.item (sym c.slot_at.ensures ∙ c.in_err-slot.was))

pub read_item-requires : goal.read_item-requires
read_item-requires g c =
    let s = c.args.self.now.slots in
    record { item = item_kind s.arena s.pages.entries s.visits.entries s.items.entries s.rows c.args.item c.in_ok-slot.slot (sym c.slot_at.ensures ∙ c.in_ok-slot.was) }

pub returns-in_err-named-clause-next : goal.returns-in_err-named-clause-next
returns-in_err-named-clause-next g c =
    let s = c.args.self.now.slots in
    c.from_residual-in_err-named.ensures
    ∙ sym (no_sibling s.arena s.pages.entries s.visits.entries s.items.entries s.rows c.args.item c.in_ok-slot.slot c.read_item.result (sym c.slot_at.ensures ∙ c.in_ok-slot.was)
    c.read_item.ensures.row (sym c.named.ensures ∙ c.in_err-named.was))

pub next-sibling-requires : goal.next-sibling-requires
next-sibling-requires g c =
    let s = c.args.self.now.slots in
    record {
      member =
          link_there Children Next c.in_ok-slot.slot.0 kinds.Item 24 s.arena
          (item_kind s.arena s.pages.entries s.visits.entries s.items.entries s.rows c.args.item c.in_ok-slot.slot (sym c.slot_at.ensures ∙ c.in_ok-slot.was)) refl;
    }

pub id_in-requires : goal.id_in-requires
id_in-requires g c =
    let s = c.args.self.now.slots in
    record {
      item = next_sibling_told_kind s.arena s.pages.entries s.visits.entries s.items.entries s.rows c.args.item c.in_ok-slot.slot c.read_item.result c.next-sibling.result (sym c.slot_at.ensures ∙ c.in_ok-slot.was)
          c.read_item.ensures.row (ap is_some (sym c.named.ensures ∙ c.in_ok-named.was)) c.next-sibling.ensures.next;
    }

pub returns-clause-next : goal.returns-clause-next
returns-clause-next g c =
    let s = c.args.self.now.slots in
    c.id_in.ensures.id
    ∙ next_sibling_told_named s.arena s.pages.entries s.visits.entries s.items.entries s.rows c.args.item c.in_ok-slot.slot c.read_item.result c.next-sibling.result (sym c.slot_at.ensures ∙ c.in_ok-slot.was)
    c.read_item.ensures.row (ap is_some (sym c.named.ensures ∙ c.in_ok-named.was)) c.next-sibling.ensures.next
