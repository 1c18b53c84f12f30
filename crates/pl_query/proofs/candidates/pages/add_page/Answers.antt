use Rattle.std.proofs.Common.{◌∙◌, sym, true}
use Rattle.std.proofs.lemmas.Result.{on_ok_weaker}
use Rattle.pl_base.specs.Rows.{Kept, store_of}
use Rattle.pl_query.specs.Candidates.{page_part, page_subject}
use Rattle.pl_query.specs.Subjects.{row_of_page}
use Rattle.pl_query.proofs.PageParts.{added_one, page_listed, page_row_at, page_subject_is}
use Rattle.pl_query.proofs.RowsShown.{page_subject_there}
use Rattle.pl_query.proofs.candidates.pages.add_page.Goals as goal

pub add-requires-clause-there : goal.add-requires-clause-there
add-requires-clause-there g c = page_subject_there (g.R.Rows.kept c.args.rows.now) c.args.page c.requires.page

pub returns : goal.returns
returns g c =
    let kept : Kept = g.R.Rows.kept c.args.rows.now in
    on_ok_weaker c.add.result
    (λ pushed p at.
    added_one page_subject (store_of kept) c.args.asked.now.query.now.sort c.args.candidates.now.items
    c.add.new.candidates.items (page_part kept c.args.asked.now.query.now p) (row_of_page kept p) _
    (page_listed kept c.args.asked.now.query.now p true
    (sym c.if-not-listed.false ∙ c.in_ok-listed.ensures p at))
    (page_subject_is kept c.args.page p at)
    (pushed (row_of_page kept p) (page_row_at kept c.args.page p at)))
    c.add.ensures
