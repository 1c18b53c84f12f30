use Rattle.pl_record.proofs.Kept.{origin_kind, total_told}
use Rattle.pl_linked.proofs.linked.Linked.origin_at.Goals as goal

pub read_total-requires : goal.read_total-requires
read_total-requires g c =
    let s = c.args.self.now.slots in
    record { origin = origin_kind s.arena s.pages.entries s.visits.entries s.items.entries s.rows c.args.origin c.requires }

pub returns-clause-total : goal.returns-clause-total
returns-clause-total g c =
    let s = c.args.self.now.slots in
    total_told s.arena s.pages.entries s.visits.entries s.items.entries s.rows c.args.origin c.read_total.result c.requires c.read_total.ensures.row
