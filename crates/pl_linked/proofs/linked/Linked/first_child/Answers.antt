use Rattle.std.proofs.Common.{◌∙◌, ap, refl, sym}
use Rattle.pl_base.specs.Tree.{first_item}
use Rattle.pl_slot.specs.declared.kind.SlotKind.TheVariants as kinds
use Rattle.pl_slot.specs.declared.links.Link.TheVariants.{First}
use Rattle.pl_slot.specs.declared.links.Rail.TheVariants.{Children}
use Rattle.pl_record.proofs.Kept.{first_child_told_kind, first_child_told_named, item_kind, no_children}
use Rattle.pl_record.proofs.RowKinds.{link_there}
use Rattle.pl_linked.proofs.linked.Linked.first_child.Goals as goal

pub returns-in_err-slot-clause-first : goal.returns-in_err-slot-clause-first
returns-in_err-slot-clause-first g c =
    let s = c.args.self.now.slots in
    c.from_residual.ensures ∙ sym (ap first_item (no_children s.arena s.pages.entries s.visits.entries s.items.entries s.rows c.args.item (sym c.slot_at.ensures ∙ c.in_err-slot.was)))

pub first-child-requires : goal.first-child-requires
first-child-requires g c =
    let s = c.args.self.now.slots in
    record {
      owner =
          link_there Children First c.in_ok-slot.slot.0 kinds.Item 28 s.arena
          (item_kind s.arena s.pages.entries s.visits.entries s.items.entries s.rows c.args.item c.in_ok-slot.slot (sym c.slot_at.ensures ∙ c.in_ok-slot.was)) refl;
    }

pub id_in-requires : goal.id_in-requires
id_in-requires g c =
    let s = c.args.self.now.slots in
    record {
      item = first_child_told_kind s.arena s.pages.entries s.visits.entries s.items.entries s.rows c.args.item c.in_ok-slot.slot c.first-child.result (sym c.slot_at.ensures ∙ c.in_ok-slot.was)
          c.first-child.ensures.first;
    }

pub returns-clause-first : goal.returns-clause-first
returns-clause-first g c =
    let s = c.args.self.now.slots in
    c.id_in.ensures.id
    ∙ first_child_told_named s.arena s.pages.entries s.visits.entries s.items.entries s.rows c.args.item c.in_ok-slot.slot c.first-child.result (sym c.slot_at.ensures ∙ c.in_ok-slot.was)
    c.first-child.ensures.first
