use Rattle.std.proofs.Common.{IfOk, Option, subst}
use Rattle.pl_base.specs.declared.view.View.{View}
use Rattle.pl_base.specs.Rows.{store_of}
use Rattle.pl_changes.specs.Brings.{Brings, KeepsAddress}
use Rattle.pl_changes.proofs.KnownPages.{holds_of, of_page}
use Rattle.pl_changes.proofs.items.item_change.Goals as goal

pub reviewed-requires-clause-address : goal.reviewed-requires-clause-address
reviewed-requires-clause-address g c =
    holds_of c.args.page c.args.known.now.views.items c.in-Some.old.now c.in-Some.ensures
    (KeepsAddress (store_of (g.R.Rows.kept c.args.rows.now))) c.requires.addresses

pub returns-in-Some : goal.returns-in-Some
returns-in-Some g c =
    of_page c.args.page c.args.known.now.views.items c.in-Some.old.now c.in-Some.ensures
    (store_of (g.R.Rows.kept c.args.rows.now)) c.reviewed.result c.reviewed.ensures

pub returns-in-None : goal.returns-in-None
returns-in-None g c =
    subst (λ (was : Option View). IfOk c.arrived.result (Brings (store_of (g.R.Rows.kept c.args.rows.now)) c.args.page
    was)) c.in-None.ensures c.arrived.ensures
