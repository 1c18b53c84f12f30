use Rattle.std.proofs.Common.{◌∙◌, ap, arith}
use Rattle.pl_base.specs.Rows.{Kept}
use Rattle.pl_graft.proofs.GainedOrder.{gained_is, none_gained}
use Rattle.pl_graft.proofs.GainedPages.{holds}
use Rattle.pl_graft.proofs.grafting.graft.Goals as goal

pub returns-clause-pages : goal.returns-clause-pages
returns-clause-pages g c =
    let old : Kept = g.R.Rows.kept c.args.rows.now in
    let new : Kept = g.R.Rows.kept c.lists.new.rows in
    c.from.ensures
    ∙ gained_is old new c.in_ok-in_order.field-0.items (g.met.R.Rows.well_kept c.lists.new.rows)
    c.in_ok-lists.ensures.standing.good c.in_ok-in_order.ensures.ascending
    (λ page. ap (holds page) c.in_ok-in_order.ensures.pages
    ∙ c.in_ok-lists.ensures.goes_on.pages old.ids.item (omega arith)
    (none_gained old c.in_ok-grafting.grafting (g.met.R.Rows.well_kept c.args.rows.now)
    c.in_ok-grafting.ensures.pages) page)
