use Rattle.std.proofs.Common.{◌∙◌, ap, refl, sym}
use Rattle.pl_base.specs.Tree.{last_item}
use Rattle.pl_slot.specs.declared.kind.SlotKind.TheVariants as kinds
use Rattle.pl_slot.specs.declared.links.Link.TheVariants.{Last}
use Rattle.pl_slot.specs.declared.links.Rail.TheVariants.{Children}
use Rattle.pl_record.proofs.Kept.{item_kind, last_child_told_kind, last_child_told_named, no_children}
use Rattle.pl_record.proofs.RowKinds.{link_there}
use Rattle.pl_linked.proofs.linked.Linked.last_child.Goals as goal

pub returns-in_err-slot-clause-last : goal.returns-in_err-slot-clause-last
returns-in_err-slot-clause-last g c =
    let s = c.args.self.now.slots in
    c.from_residual.ensures ∙ sym (ap last_item (no_children s.arena s.pages.entries s.visits.entries s.items.entries s.rows c.args.item (sym c.slot_at.ensures ∙ c.in_err-slot.was)))

pub last-child-requires : goal.last-child-requires
last-child-requires g c =
    let s = c.args.self.now.slots in
    record {
      owner =
          link_there Children Last c.in_ok-slot.slot.0 kinds.Item 32 s.arena
          (item_kind s.arena s.pages.entries s.visits.entries s.items.entries s.rows c.args.item c.in_ok-slot.slot (sym c.slot_at.ensures ∙ c.in_ok-slot.was)) refl;
    }

pub id_in-requires : goal.id_in-requires
id_in-requires g c =
    let s = c.args.self.now.slots in
    record {
      item = last_child_told_kind s.arena s.pages.entries s.visits.entries s.items.entries s.rows c.args.item c.in_ok-slot.slot c.last-child.result (sym c.slot_at.ensures ∙ c.in_ok-slot.was)
          c.last-child.ensures.last;
    }

pub returns-clause-last : goal.returns-clause-last
returns-clause-last g c =
    let s = c.args.self.now.slots in
    c.id_in.ensures.id
    ∙ last_child_told_named s.arena s.pages.entries s.visits.entries s.items.entries s.rows c.args.item c.in_ok-slot.slot c.last-child.result (sym c.slot_at.ensures ∙ c.in_ok-slot.was)
    c.last-child.ensures.last
