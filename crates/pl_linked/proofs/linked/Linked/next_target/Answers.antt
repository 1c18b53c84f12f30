use Rattle.std.proofs.Common.{◌∙◌, ap, is_some, refl, sym}
use Rattle.std.specs.Option.{option_and_then}
use Rattle.pl_base.specs.Rows.{id_behind}
use Rattle.pl_base.specs.Store.{Visit}
use Rattle.pl_slot.specs.declared.kind.SlotKind.TheVariants as kinds
use Rattle.pl_slot.specs.declared.links.Link.TheVariants.{Next}
use Rattle.pl_slot.specs.declared.links.Rail.TheVariants.{Targets}
use Rattle.pl_record.proofs.Kept.{no_target, no_visit, target_told_kind, target_told_named, visit_kind}
use Rattle.pl_record.proofs.RowKinds.{link_there}
use Rattle.pl_linked.proofs.linked.Linked.next_target.Goals as goal

pub returns-in_err-slot-clause-next : goal.returns-in_err-slot-clause-next
returns-in_err-slot-clause-next g c =
    let s = c.args.self.now.slots in
    c.from_residual.ensures
    ∙ sym (ap (option_and_then (λ (v : Visit). option_and_then (λ t. id_behind c.args.visit (s.rows.targets t)) v.source))
    (no_visit s.arena s.pages.entries s.visits.entries s.items.entries s.rows c.args.visit (sym c.slot_at.ensures ∙ c.in_err-slot.was)))

pub read_visit-requires : goal.read_visit-requires
read_visit-requires g c =
    let s = c.args.self.now.slots in
    record { visit = visit_kind s.arena s.pages.entries s.visits.entries s.items.entries s.rows c.args.visit c.in_ok-slot.slot (sym c.slot_at.ensures ∙ c.in_ok-slot.was) }

pub returns-in_err-named-clause-next : goal.returns-in_err-named-clause-next
returns-in_err-named-clause-next g c =
    let s = c.args.self.now.slots in
    c.from_residual-in_err-named.ensures
    ∙ sym (no_target s.arena s.pages.entries s.visits.entries s.items.entries s.rows c.args.visit c.in_ok-slot.slot c.read_visit.result (sym c.slot_at.ensures ∙ c.in_ok-slot.was)
    c.read_visit.ensures.row (sym c.named.ensures ∙ c.in_err-named.was))

pub next-target-requires : goal.next-target-requires
next-target-requires g c =
    let s = c.args.self.now.slots in
    record {
      member =
          link_there Targets Next c.in_ok-slot.slot.0 kinds.Visit 36 s.arena
          (visit_kind s.arena s.pages.entries s.visits.entries s.items.entries s.rows c.args.visit c.in_ok-slot.slot (sym c.slot_at.ensures ∙ c.in_ok-slot.was)) refl;
    }

pub id_in-requires : goal.id_in-requires
id_in-requires g c =
    let s = c.args.self.now.slots in
    record {
      visit = target_told_kind s.arena s.pages.entries s.visits.entries s.items.entries s.rows c.args.visit c.in_ok-slot.slot c.read_visit.result c.next-target.result (sym c.slot_at.ensures ∙ c.in_ok-slot.was)
          c.read_visit.ensures.row (ap is_some (sym c.named.ensures ∙ c.in_ok-named.was)) c.next-target.ensures.next;
    }

pub returns-clause-next : goal.returns-clause-next
returns-clause-next g c =
    let s = c.args.self.now.slots in
    c.id_in.ensures.id
    ∙ target_told_named s.arena s.pages.entries s.visits.entries s.items.entries s.rows c.args.visit c.in_ok-slot.slot c.read_visit.result c.next-target.result (sym c.slot_at.ensures ∙ c.in_ok-slot.was)
    c.read_visit.ensures.row (ap is_some (sym c.named.ensures ∙ c.in_ok-named.was)) c.next-target.ensures.next
