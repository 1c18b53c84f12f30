use Rattle.std.proofs.Common.{◌∙◌, ap, is_some, refl, sym}
use Rattle.std.specs.Option.{option_and_then}
use Rattle.pl_base.specs.Store.{Item}
use Rattle.pl_base.specs.Tree.{item_behind, references}
use Rattle.pl_slot.specs.declared.kind.SlotKind.TheVariants as kinds
use Rattle.pl_slot.specs.declared.links.Link.TheVariants.{Next}
use Rattle.pl_slot.specs.declared.links.Rail.TheVariants.{References}
use Rattle.pl_record.proofs.Kept.{item_kind, next_reference_told_kind, next_reference_told_named, no_item, no_reference}
use Rattle.pl_record.proofs.RowKinds.{link_there}
use Rattle.pl_linked.proofs.linked.Linked.next_reference.Goals as goal

pub returns-in_err-slot-clause-next : goal.returns-in_err-slot-clause-next
returns-in_err-slot-clause-next g c =
    let s = c.args.self.now.slots in
    c.from_residual.ensures
    ∙ sym (ap (option_and_then (λ (i : Item). option_and_then (λ p. item_behind c.args.item (references s.rows.kept.items p)) i.page))
    (no_item s.arena s.pages.entries s.visits.entries s.items.entries s.rows c.args.item (sym c.slot_at.ensures ∙ c.in_err-slot.was)))

pub read_item-requires : goal.read_item-requires
read_item-requires g c =
    let s = c.args.self.now.slots in
    record { item = item_kind s.arena s.pages.entries s.visits.entries s.items.entries s.rows c.args.item c.in_ok-slot.slot (sym c.slot_at.ensures ∙ c.in_ok-slot.was) }

pub returns-in_err-named-clause-next : goal.returns-in_err-named-clause-next
returns-in_err-named-clause-next g c =
    let s = c.args.self.now.slots in
    c.from_residual-in_err-named.ensures
    ∙ sym (no_reference s.arena s.pages.entries s.visits.entries s.items.entries s.rows c.args.item c.in_ok-slot.slot c.read_item.result (sym c.slot_at.ensures ∙ c.in_ok-slot.was)
    c.read_item.ensures.row (sym c.named.ensures ∙ c.in_err-named.was))

pub next-other-requires : goal.next-other-requires
next-other-requires g c =
    let s = c.args.self.now.slots in
    record {
      member =
          link_there References Next c.in_ok-slot.slot.0 kinds.Item 44 s.arena
          (item_kind s.arena s.pages.entries s.visits.entries s.items.entries s.rows c.args.item c.in_ok-slot.slot (sym c.slot_at.ensures ∙ c.in_ok-slot.was)) refl;
    }

pub id_in-requires : goal.id_in-requires
id_in-requires g c =
    let s = c.args.self.now.slots in
    record {
      item = next_reference_told_kind s.arena s.pages.entries s.visits.entries s.items.entries s.rows c.args.item c.in_ok-slot.slot c.read_item.result c.next-other.result (sym c.slot_at.ensures ∙ c.in_ok-slot.was)
          c.read_item.ensures.row (ap is_some (sym c.named.ensures ∙ c.in_ok-named.was)) c.next-other.ensures.next;
    }

pub returns-clause-next : goal.returns-clause-next
returns-clause-next g c =
    let s = c.args.self.now.slots in
    c.id_in.ensures.id
    ∙ next_reference_told_named s.arena s.pages.entries s.visits.entries s.items.entries s.rows c.args.item c.in_ok-slot.slot c.read_item.result c.next-other.result (sym c.slot_at.ensures ∙ c.in_ok-slot.was)
    c.read_item.ensures.row (ap is_some (sym c.named.ensures ∙ c.in_ok-named.was)) c.next-other.ensures.next
