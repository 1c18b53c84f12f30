use Rattle.std.proofs.Common.{◌∙◌, ap, refl, sym}
use Rattle.pl_base.specs.Tree.{first_item}
use Rattle.pl_slot.specs.declared.kind.SlotKind.TheVariants as kinds
use Rattle.pl_slot.specs.declared.links.Link.TheVariants.{First}
use Rattle.pl_slot.specs.declared.links.Rail.TheVariants.{References}
use Rattle.pl_record.proofs.Kept.{first_reference_told_kind, first_reference_told_named, no_page, no_references, page_kind}
use Rattle.pl_record.proofs.RowKinds.{link_there}
use Rattle.pl_linked.proofs.linked.Linked.first_reference.Goals as goal

pub returns-in_err-slot-clause-first : goal.returns-in_err-slot-clause-first
returns-in_err-slot-clause-first g c =
    let s = c.args.self.now.slots in
    c.from_residual.ensures
    ∙ sym (ap first_item (no_references s.arena s.pages.entries s.visits.entries s.items.entries s.rows c.args.page
    (no_page s.arena s.pages.entries s.visits.entries s.items.entries s.rows c.args.page (sym c.slot_at.ensures ∙ c.in_err-slot.was))))

pub first-item-requires : goal.first-item-requires
first-item-requires g c =
    let s = c.args.self.now.slots in
    record {
      owner =
          link_there References First c.in_ok-slot.slot.0 kinds.Place 36 s.arena
          (page_kind s.arena s.pages.entries s.visits.entries s.items.entries s.rows c.args.page c.in_ok-slot.slot (sym c.slot_at.ensures ∙ c.in_ok-slot.was)) refl;
    }

pub id_in-requires : goal.id_in-requires
id_in-requires g c =
    let s = c.args.self.now.slots in
    record {
      item = first_reference_told_kind s.arena s.pages.entries s.visits.entries s.items.entries s.rows c.args.page c.in_ok-slot.slot c.first-item.result (sym c.slot_at.ensures ∙ c.in_ok-slot.was)
          c.first-item.ensures.first;
    }

pub returns-clause-first : goal.returns-clause-first
returns-clause-first g c =
    let s = c.args.self.now.slots in
    c.id_in.ensures.id
    ∙ first_reference_told_named s.arena s.pages.entries s.visits.entries s.items.entries s.rows c.args.page c.in_ok-slot.slot c.first-item.result (sym c.slot_at.ensures ∙ c.in_ok-slot.was)
    c.first-item.ensures.first
