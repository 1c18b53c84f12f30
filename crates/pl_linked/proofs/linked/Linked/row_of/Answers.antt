use Rattle.std.proofs.Common.{◌∙◌, sym}
use Rattle.pl_record.proofs.Kept.{item_kind, item_missing}
use Rattle.pl_linked.proofs.linked.Linked.row_of.Goals as goal

pub read_item-requires : goal.read_item-requires
read_item-requires g c =
    let s = c.args.self.now.slots in
    record { item = item_kind s.arena s.pages.entries s.visits.entries s.items.entries s.rows c.args.item c.in-Some.slot (sym c.slot_at.ensures ∙ c.in-Some.is) }

pub unreachable-requires : goal.unreachable-requires
unreachable-requires g c =
    let s = c.args.self.now.slots in
    item_missing s.arena s.pages.entries s.visits.entries s.items.entries s.rows c.args.item c.requires (sym c.slot_at.ensures ∙ c.in-None.is)
