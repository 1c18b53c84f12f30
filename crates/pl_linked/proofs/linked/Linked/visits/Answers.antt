use Rattle.std.proofs.Common.{◌∙◌, arith}
use Rattle.pl_linked.proofs.Counted.{few_visits, visits_counted}
use Rattle.pl_linked.proofs.linked.Linked.visits.Goals as goal

pub overflow_cast-result : goal.overflow_cast-result
overflow_cast-result g c =
    let s = c.args.self.now.slots in
    omega (arith, c.len.ensures.len, few_visits s.arena s.pages.entries s.visits.entries s.items.entries s.rows)

pub returns-clause-visits : goal.returns-clause-visits
returns-clause-visits g c =
    let s = c.args.self.now.slots in
    c.len.ensures.len ∙ visits_counted s.arena s.pages.entries s.visits.entries s.items.entries s.rows
