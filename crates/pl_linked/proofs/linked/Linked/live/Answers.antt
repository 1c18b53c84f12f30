use Rattle.std.proofs.Common.{◌∙◌}
use Rattle.pl_linked.proofs.Counted.{live_told}
use Rattle.pl_linked.proofs.linked.Linked.live.Goals as goal

pub returns-clause-live : goal.returns-clause-live
returns-clause-live g c =
    let s = c.args.self.now.slots in
    c.from.ensures ∙ c.live.ensures ∙ live_told s.arena s.pages.entries s.visits.entries s.items.entries s.rows
