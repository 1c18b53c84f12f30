use Rattle.std.proofs.Common.{rules}
use Rattle.std.proofs.lemmas.Iterator.{YieldsList-from_map, items_from_collect}
use Rattle.std.proofs.lemmas.Iterator.Consumers.{YieldsList-at, YieldsList-from_rest}
use Rattle.std.proofs.lemmas.Iterator.Search.{YieldsList-from_take_while}
use Rattle.pl_calendar.proofs.DueLists.{due_is, is_entry_due, page_of}
use Rattle.pl_calendar.proofs.calendar.Calendar.due_through.Goals as goal

pub returns : goal.returns
returns c =
    let keys = c.args.self.now.entries.keys in
    let walked =
    items_from_collect c.collect.result c.collect.ensures.ran
    (YieldsList-from_map _ page_of (YieldsList-at c.map.ensures.source
    (YieldsList-from_take_while _ (is_entry_due c.args.day)
    (YieldsList-at c.take_while-due.ensures.source (YieldsList-from_rest keys c.iter.ensures.rest))
    c.take_while-due.ensures.closure c.take_while-due.ensures.done (λ x b q called. search rules)))
    c.map.ensures.closure (λ x r q called. search rules)) in
    λ views keeps.
    due_is c.args.day keys views c.in_ok-pages.pages.items c.sort_unstable.new.self.items keeps.ordered keeps.entries
    c.iter.ensures.ordered (rw c.in_ok-pages.was at walked) c.sort_unstable.ensures.permutation
    c.sort_unstable.ensures.sorted
