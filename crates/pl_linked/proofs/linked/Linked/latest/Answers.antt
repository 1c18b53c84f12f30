use Rattle.std.proofs.Common.{◌∙◌, refl, sym}
use Rattle.pl_slot.specs.declared.kind.SlotKind.TheVariants as kinds
use Rattle.pl_slot.specs.declared.links.Link.TheVariants.{First}
use Rattle.pl_slot.specs.declared.links.Rail.TheVariants.{PageVisits}
use Rattle.pl_record.proofs.Kept.{latest_told_kind, latest_told_named, no_latest, page_kind}
use Rattle.pl_record.proofs.RowKinds.{link_there}
use Rattle.pl_linked.proofs.linked.Linked.latest.Goals as goal

pub returns-in_err-slot-clause-latest : goal.returns-in_err-slot-clause-latest
returns-in_err-slot-clause-latest g c =
    let s = c.args.self.now.slots in
    c.from_residual.ensures ∙ sym (no_latest s.arena s.pages.entries s.visits.entries s.items.entries s.rows c.args.page (sym c.slot_at.ensures ∙ c.in_err-slot.was))

pub first-latest-requires : goal.first-latest-requires
first-latest-requires g c =
    let s = c.args.self.now.slots in
    record {
      owner =
          link_there PageVisits First c.in_ok-slot.slot.0 kinds.Place 28 s.arena
          (page_kind s.arena s.pages.entries s.visits.entries s.items.entries s.rows c.args.page c.in_ok-slot.slot (sym c.slot_at.ensures ∙ c.in_ok-slot.was)) refl;
    }

pub id_in-requires : goal.id_in-requires
id_in-requires g c =
    let s = c.args.self.now.slots in
    record {
      visit = latest_told_kind s.arena s.pages.entries s.visits.entries s.items.entries s.rows c.args.page c.in_ok-slot.slot c.first-latest.result (sym c.slot_at.ensures ∙ c.in_ok-slot.was)
          c.first-latest.ensures.first;
    }

pub returns-clause-latest : goal.returns-clause-latest
returns-clause-latest g c =
    let s = c.args.self.now.slots in
    c.id_in.ensures.id
    ∙ latest_told_named s.arena s.pages.entries s.visits.entries s.items.entries s.rows c.args.page c.in_ok-slot.slot c.first-latest.result (sym c.slot_at.ensures ∙ c.in_ok-slot.was)
    c.first-latest.ensures.first
