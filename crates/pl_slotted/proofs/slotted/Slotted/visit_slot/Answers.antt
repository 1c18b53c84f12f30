use Rattle.std.proofs.Common.{◌∙◌, sym}
use Rattle.pl_record.proofs.Kept.{visit_missing}
use Rattle.pl_slotted.proofs.slotted.Slotted.visit_slot.Goals as goal

pub unreachable-requires : goal.unreachable-requires
unreachable-requires c =
    let s = c.args.self.now in
    visit_missing s.arena s.pages.entries s.visits.entries s.items.entries s.rows c.args.visit c.requires
    (sym c.slot_at.ensures ∙ c.in-None.is)

pub returns : goal.returns
returns c = sym c.slot_at.ensures ∙ c.in-Some.is
