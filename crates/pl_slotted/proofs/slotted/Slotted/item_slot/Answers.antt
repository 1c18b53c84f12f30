use Rattle.std.proofs.Common.{◌∙◌, sym}
use Rattle.pl_record.proofs.Kept.{item_missing}
use Rattle.pl_slotted.proofs.slotted.Slotted.item_slot.Goals as goal

pub unreachable-requires : goal.unreachable-requires
unreachable-requires c =
    let s = c.args.self.now in
    item_missing s.arena s.pages.entries s.visits.entries s.items.entries s.rows c.args.item c.requires
    (sym c.slot_at.ensures ∙ c.in-None.is)

pub returns : goal.returns
returns c = sym c.slot_at.ensures ∙ c.in-Some.is
