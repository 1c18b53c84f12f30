use Rattle.std.proofs.Common.{◌∙◌, ◌∷◌, [], sym, true}
use Rattle.std.proofs.lemmas.Result.{on_ok_weaker}
use Rattle.pl_base.specs.Rows.{Kept, store_of}
use Rattle.pl_query.specs.Candidates.{mark_subject, wanted_marks}
use Rattle.pl_query.specs.Subjects.{row_of_mark}
use Rattle.pl_query.proofs.PageParts.{added_one, mark_row_at, mark_subject_is, one_mark}
use Rattle.pl_query.proofs.RowsShown.{item_there}
use Rattle.pl_query.proofs.candidates.bookmarks.add_item.Goals as goal

pub is_wanted-requires-clause-item : goal.is_wanted-requires-clause-item
is_wanted-requires-clause-item g c =
    item_there (g.R.Rows.kept c.args.rows.now) c.args.item c.args.page c.requires.there

pub returns : goal.returns
returns g c =
    let kept : Kept = g.R.Rows.kept c.args.rows.now in
    on_ok_weaker c.add.result
    (λ pushed p i at_page at_item.
    added_one mark_subject (store_of kept) c.args.asked.now.query.now.sort c.args.candidates.now.items
    c.add.new.candidates.items (wanted_marks kept c.args.asked.now.query.now p (i ∷ [])) (row_of_mark kept i p) _
    (one_mark kept c.args.asked.now.query.now p i true
    (sym c.if-not-is_wanted.false ∙ c.is_wanted.ensures i at_item))
    (mark_subject_is kept c.args.item c.args.page i p at_item at_page)
    (pushed (row_of_mark kept i p) (mark_row_at kept c.args.item c.args.page i p at_item at_page)))
    c.add.ensures
