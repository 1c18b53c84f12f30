use Rattle.std.proofs.Common.{◌∙◌, ap, refl}
use Rattle.pl_base.specs.Rows.{Kept, has_page}
use Rattle.pl_base.proofs.OriginSums.{sums_without_page}
use Rattle.pl_history.proofs.Dropped.{drops, idle_still, mark_given, no_mark}
use Rattle.pl_history.proofs.RemovedRows.{has_marked}
use Rattle.pl_history.proofs.settle.drop_page.Goals as goal

pub remove_page-requires-clause-page : goal.remove_page-requires-clause-page
remove_page-requires-clause-page g c =
    ap (λ (k : Kept). has_page k c.args.page) c.keep_mark.ensures.kept
    ∙ has_marked (g.R.Rows.kept c.args.rows.now) c.args.page no_mark c.args.page ∙ c.requires.page

pub remove_page-requires-clause-unvisited : goal.remove_page-requires-clause-unvisited
remove_page-requires-clause-unvisited g c =
    (idle_still c.args.page no_mark (g.R.Rows.kept c.args.rows.now) (g.R.Rows.kept c.keep_mark.new.rows)
    c.keep_mark.ensures.kept c.requires.idle).0

pub remove_page-requires-clause-unreferenced : goal.remove_page-requires-clause-unreferenced
remove_page-requires-clause-unreferenced g c =
    (idle_still c.args.page no_mark (g.R.Rows.kept c.args.rows.now) (g.R.Rows.kept c.keep_mark.new.rows)
    c.keep_mark.ensures.kept c.requires.idle).1

pub returns-clause-dropped : goal.returns-clause-dropped
returns-clause-dropped g c =
    drops c.args.page no_mark (g.R.Rows.kept c.args.rows.now) (g.R.Rows.kept c.keep_mark.new.rows)
    (g.R.Rows.kept c.remove_page.new.self) c.keep_mark.ensures.kept c.remove_page.ensures.kept

pub returns-clause-sums : goal.returns-clause-sums
returns-clause-sums g c =
    sums_without_page (g.R.Rows.kept c.keep_mark.new.rows) (g.R.Rows.kept c.remove_page.new.self) c.args.page no_mark
    (g.met.R.Rows.well_kept c.keep_mark.new.rows) (g.met.R.Rows.well_kept c.remove_page.new.self)
    c.keep_mark.ensures.sums
    (mark_given c.args.page no_mark (g.R.Rows.kept c.args.rows.now) (g.R.Rows.kept c.keep_mark.new.rows)
    c.requires.page c.keep_mark.ensures.kept)
    refl c.remove_page.ensures.kept
