use Rattle.std.proofs.Common.{◌∙◌, ap, refl, sym}
use Rattle.std.specs.Option.{option_and_then}
use Rattle.pl_base.specs.Rows.{id_behind, page_visits}
use Rattle.pl_base.specs.Store.{Visit}
use Rattle.pl_slot.specs.declared.kind.SlotKind.TheVariants as kinds
use Rattle.pl_slot.specs.declared.links.Link.TheVariants.{Next}
use Rattle.pl_slot.specs.declared.links.Rail.TheVariants.{PageVisits}
use Rattle.pl_record.proofs.Kept.{no_visit, older_told_kind, older_told_named, visit_kind}
use Rattle.pl_record.proofs.RowKinds.{link_there}
use Rattle.pl_linked.proofs.linked.Linked.older.Goals as goal

pub returns-in_err-slot-clause-older : goal.returns-in_err-slot-clause-older
returns-in_err-slot-clause-older g c =
    let s = c.args.self.now.slots in
    c.from_residual.ensures
    ∙ sym (ap (option_and_then (λ (v : Visit). id_behind c.args.visit (page_visits s.rows.kept v.page)))
    (no_visit s.arena s.pages.entries s.visits.entries s.items.entries s.rows c.args.visit (sym c.slot_at.ensures ∙ c.in_err-slot.was)))

pub next-older-requires : goal.next-older-requires
next-older-requires g c =
    let s = c.args.self.now.slots in
    record {
      member =
          link_there PageVisits Next c.in_ok-slot.slot.0 kinds.Visit 24 s.arena
          (visit_kind s.arena s.pages.entries s.visits.entries s.items.entries s.rows c.args.visit c.in_ok-slot.slot (sym c.slot_at.ensures ∙ c.in_ok-slot.was)) refl;
    }

pub id_in-requires : goal.id_in-requires
id_in-requires g c =
    let s = c.args.self.now.slots in
    record {
      visit = older_told_kind s.arena s.pages.entries s.visits.entries s.items.entries s.rows c.args.visit c.in_ok-slot.slot c.next-older.result (sym c.slot_at.ensures ∙ c.in_ok-slot.was)
          c.next-older.ensures.next;
    }

pub returns-clause-older : goal.returns-clause-older
returns-clause-older g c =
    let s = c.args.self.now.slots in
    c.id_in.ensures.id
    ∙ older_told_named s.arena s.pages.entries s.visits.entries s.items.entries s.rows c.args.visit c.in_ok-slot.slot c.next-older.result (sym c.slot_at.ensures ∙ c.in_ok-slot.was)
    c.next-older.ensures.next
