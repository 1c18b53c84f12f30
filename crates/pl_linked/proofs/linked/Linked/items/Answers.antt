use Rattle.std.proofs.Common.{◌∙◌, arith}
use Rattle.pl_linked.proofs.Counted.{few_items, items_counted}
use Rattle.pl_linked.proofs.linked.Linked.items.Goals as goal

pub overflow_cast-result : goal.overflow_cast-result
overflow_cast-result g c =
    let s = c.args.self.now.slots in
    omega (arith, c.len.ensures.len, few_items s.arena s.pages.entries s.visits.entries s.items.entries s.rows)

pub returns-clause-items : goal.returns-clause-items
returns-clause-items g c =
    let s = c.args.self.now.slots in
    c.len.ensures.len ∙ items_counted s.arena s.pages.entries s.visits.entries s.items.entries s.rows
