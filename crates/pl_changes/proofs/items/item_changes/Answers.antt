use Rattle.std.proofs.Common.{[], subst, sym}
use Rattle.pl_base.specs.Rows.{Kept, store_of}
use Rattle.pl_changes.proofs.Brought.{Brought, all_brought, next_more, nothing}
use Rattle.pl_changes.proofs.KeptTexts.{keep_addresses}
use Rattle.pl_changes.proofs.Leads.{lead}
use Rattle.pl_changes.proofs.items.item_changes.Goals as goal

pub loop-page-init : goal.loop-page-init
loop-page-init g c =
    subst (Brought (store_of (g.R.Rows.kept c.args.rows.now)) c.args.known.now.views.items [])
    (sym c.new-changes.ensures.items) nothing

pub item_change-requires-clause-addresses : goal.item_change-requires-clause-addresses
item_change-requires-clause-addresses g c =
    keep_addresses c.requires.came.old (store_of (g.R.Rows.kept c.args.rows.now)) c.args.known.now.views.items
    c.requires.came.differ.pages c.requires.came.knows.views

pub loop-page-preserved : goal.loop-page-preserved
loop-page-preserved g c =
    next_more (store_of (g.R.Rows.kept c.args.rows.now)) c.args.known.now.views.items c.args.pages.now
    c.loop-page.page-index (record { 0 = 0 }) c.loop-page.changes.items _
    c.in_ok-change.change c.loop-page-test.true c.loop-page.invariant c.in_ok-change.ensures
    c.in_ok-add.ensures

pub returns : goal.returns
returns g c =
    let kept : Kept = g.R.Rows.kept c.args.rows.now in
    lead kept (g.met.R.Rows.well_kept c.args.rows.now) c.requires.sound.good c.args.pages.now c.requires.ascending
    c.args.known.now c.requires.came c.loop-page.changes.items
    (all_brought (store_of kept) c.args.known.now.views.items c.args.pages.now c.loop-page.page-index
    c.loop-page.changes.items c.loop-page-test.false c.loop-page.invariant)
