use Rattle.std.proofs.Common.{◌∙◌, refl, sym}
use Rattle.pl_slot.specs.declared.kind.SlotKind.TheVariants as kinds
use Rattle.pl_slot.specs.declared.links.Link.TheVariants.{First}
use Rattle.pl_slot.specs.declared.links.Rail.TheVariants.{Targets}
use Rattle.pl_record.proofs.Kept.{first_target_told_kind, first_target_told_named, no_first_target, visit_kind}
use Rattle.pl_record.proofs.RowKinds.{link_there}
use Rattle.pl_linked.proofs.linked.Linked.first_target.Goals as goal

pub returns-in_err-slot-clause-first : goal.returns-in_err-slot-clause-first
returns-in_err-slot-clause-first g c =
    let s = c.args.self.now.slots in
    c.from_residual.ensures ∙ sym (no_first_target s.arena s.pages.entries s.visits.entries s.items.entries s.rows c.args.visit (sym c.slot_at.ensures ∙ c.in_err-slot.was))

pub first-target-requires : goal.first-target-requires
first-target-requires g c =
    let s = c.args.self.now.slots in
    record {
      owner =
          link_there Targets First c.in_ok-slot.slot.0 kinds.Visit 40 s.arena
          (visit_kind s.arena s.pages.entries s.visits.entries s.items.entries s.rows c.args.visit c.in_ok-slot.slot (sym c.slot_at.ensures ∙ c.in_ok-slot.was)) refl;
    }

pub id_in-requires : goal.id_in-requires
id_in-requires g c =
    let s = c.args.self.now.slots in
    record {
      visit = first_target_told_kind s.arena s.pages.entries s.visits.entries s.items.entries s.rows c.args.visit c.in_ok-slot.slot c.first-target.result (sym c.slot_at.ensures ∙ c.in_ok-slot.was)
          c.first-target.ensures.first;
    }

pub returns-clause-first : goal.returns-clause-first
returns-clause-first g c =
    let s = c.args.self.now.slots in
    c.id_in.ensures.id
    ∙ first_target_told_named s.arena s.pages.entries s.visits.entries s.items.entries s.rows c.args.visit c.in_ok-slot.slot c.first-target.result (sym c.slot_at.ensures ∙ c.in_ok-slot.was)
    c.first-target.ensures.first
