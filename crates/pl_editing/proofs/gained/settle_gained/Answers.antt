use Rattle.std.proofs.Common.{List, ap, ltb, rules, subst, tests}
use Rattle.std.proofs.lemmas.List.Sorted.{IsPartitionPoint-from_clause, IsPartitionedBy-ltb}
use Rattle.pl_base.specs.declared.id.PageId.{PageId}
use Rattle.pl_base.specs.Rows.{store_of}
use Rattle.pl_base.specs.Store.{Store}
use Rattle.pl_history.specs.Settled.{AreSettledBut}
use Rattle.pl_history.proofs.KeptAddresses.{addresses_same}
use Rattle.pl_editing.specs.NewPage.{IsNew}
use Rattle.pl_editing.proofs.NewPages.{from_point, settled_swapped}
use Rattle.pl_editing.proofs.gained.settle_gained.Goals as goal

pub mark_new-requires-clause-made : goal.mark_new-requires-clause-made
mark_new-requires-clause-made g c =
    from_point (IsNew (store_of (g.R.Rows.kept c.args.rows.now))) c.args.pages.now c.split_at.result.1.now
    c.args.first c.partition_point.result c.split_at.ensures.back
    (IsPartitionPoint-from_clause (λ (page : PageId). ltb page.0 c.args.first) c.args.pages.now
    c.partition_point.result c.partition_point.ensures.partitioned
    (IsPartitionedBy-ltb (λ (page : PageId). page.0) c.args.pages.now c.args.first c.requires.ascending)
    (λ a r f k. search (rules, tests)))
    c.requires.made

pub mark_new-requires-clause-sums : goal.mark_new-requires-clause-sums
mark_new-requires-clause-sums g c = c.requires.settled.sums

pub settle_all-requires-clause-settled : goal.settle_all-requires-clause-settled
settle_all-requires-clause-settled g c =
    c.in_ok-mark_new.ensures.settled c.split_at.result.0.now
    (settled_swapped (g.R.Rows.kept c.args.rows.now) c.split_at.result.0.now c.split_at.result.1.now
    (subst (λ (ids : List PageId). AreSettledBut ids (g.R.Rows.kept c.args.rows.now)) c.split_at.ensures.by_index.0
    c.requires.settled))

pub settle_all-requires-clause-views : goal.settle_all-requires-clause-views
settle_all-requires-clause-views g c =
    addresses_same c.args.views.now (g.R.Rows.kept c.args.rows.now) (g.R.Rows.kept c.mark_new.new.rows)
    (ap (λ (s : Store). s.pages) c.in_ok-mark_new.ensures.store) c.requires.views
