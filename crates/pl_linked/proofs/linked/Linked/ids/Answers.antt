use Rattle.std.proofs.Common.{◌∙◌}
use Rattle.pl_record.proofs.Kept.{ids_told}
use Rattle.pl_linked.proofs.linked.Linked.ids.Goals as goal

pub returns-clause-ids : goal.returns-clause-ids
returns-clause-ids g c =
    let s = c.args.self.now.slots in
    c.ids.ensures ∙ ids_told s.arena s.pages.entries s.visits.entries s.items.entries s.rows
