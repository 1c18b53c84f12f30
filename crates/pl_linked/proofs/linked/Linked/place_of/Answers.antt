use Rattle.std.proofs.Common.{◌∙◌, sym}
use Rattle.pl_record.proofs.Kept.{page_kind, page_missing}
use Rattle.pl_linked.proofs.linked.Linked.place_of.Goals as goal

pub read_place-requires : goal.read_place-requires
read_place-requires g c =
    let s = c.args.self.now.slots in
    record { place = page_kind s.arena s.pages.entries s.visits.entries s.items.entries s.rows c.args.page c.in-Some.slot (sym c.slot_at.ensures ∙ c.in-Some.is) }

pub unreachable-requires : goal.unreachable-requires
unreachable-requires g c =
    let s = c.args.self.now.slots in
    page_missing s.arena s.pages.entries s.visits.entries s.items.entries s.rows c.args.page c.requires (sym c.slot_at.ensures ∙ c.in-None.is)
