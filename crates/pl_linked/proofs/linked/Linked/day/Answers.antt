use Rattle.std.proofs.Common.{◌∙◌}
use Rattle.pl_record.proofs.Kept.{day_told}
use Rattle.pl_linked.proofs.linked.Linked.day.Goals as goal

pub returns-clause-day : goal.returns-clause-day
returns-clause-day g c =
    let s = c.args.self.now.slots in
    c.day.ensures ∙ day_told s.arena s.pages.entries s.visits.entries s.items.entries s.rows
