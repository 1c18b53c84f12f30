-- The tally of the store with the tags so far.
use Rattle.std.proofs.Common.{◌≡◌, ◌≤◌, ◌+◌, ◌*◌, IsTrue, take}
use Rattle.pl_base.specs.declared.date.Micros.{Micros}
use Rattle.pl_base.specs.declared.id.PageId.{PageId}
use Rattle.pl_base.specs.Date.{IsDate}
use Rattle.pl_base.specs.Good.{has_page_at}
use Rattle.pl_base.specs.Store.{Store}
use Rattle.pl_graft.specs.Import.{with_tags}
use Rattle.pl_graft.specs.Tally.{IsTallyOf, size}
use Rattle.pl_graft.proofs.cost.Tally.take_tags.Given as goal

abbrev pub invariant-loop-name : goal.invariant-loop-name
invariant-loop-name l =
    record {
      few : size l.self ≤ size l.initial.self + 5 * l.name-index;
      tally : (store : Store) (id : PageId) (date : Micros) → IsTallyOf l.initial.self store → id.0 ≡ l.page
          → IsTrue (has_page_at store id) → IsDate date
          → IsTallyOf l.self (with_tags id date (take l.name-index l.names) store);
    }
