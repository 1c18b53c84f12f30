use Rattle.pl_history.proofs.Targets.{absent}
use Rattle.pl_graft.proofs.PageSteps.{other_there, page_grows, page_store}
use Rattle.pl_graft.proofs.grafting.page.new_page.Goals as goal

pub origin_of_page-origin-requires : goal.origin_of_page-origin-requires
origin_of_page-origin-requires g c =
    other_there (g.R.Rows.kept c.args.rows.now) c.args.url.now c.args.other c.requires.other

pub insert_page-requires-clause-absent : goal.insert_page-requires-clause-absent
insert_page-requires-clause-absent g c =
    absent (g.R.Rows.kept c.args.rows.now) c.text.result.now (rw c.text.ensures.value c.requires.absent)

pub insert_page-requires-clause-origin : goal.insert_page-requires-clause-origin
insert_page-requires-clause-origin g c =
    rw c.text.ensures.value (c.origin_of_page-origin.ensures c.args.url.now c.requires.other)

pub returns-clause-store : goal.returns-clause-store
returns-clause-store g c =
    page_store (g.R.Rows.kept c.args.rows.now) (g.R.Rows.kept c.insert_page.new.self) c.args.url.now
    c.origin_of_page-origin.result c.requires.absent (rw c.text.ensures.value at c.in_ok-page.ensures.kept)

pub returns-clause-grows : goal.returns-clause-grows
returns-clause-grows g c =
    page_grows (g.R.Rows.kept c.args.rows.now) (g.R.Rows.kept c.insert_page.new.self) c.args.url.now
    c.origin_of_page-origin.result (g.met.R.Rows.well_kept c.args.rows.now)
    (g.met.R.Rows.well_kept c.insert_page.new.self) (c.origin_of_page-origin.ensures c.args.url.now c.requires.other)
    (rw c.text.ensures.value at c.in_ok-page.ensures.kept)
