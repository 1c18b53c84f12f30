use Rattle.std.proofs.Common.{◌∙◌, ◌∷◌, [], sym, true}
use Rattle.std.proofs.lemmas.Result.{on_ok_weaker}
use Rattle.pl_base.specs.Rows.{Kept, store_of}
use Rattle.pl_query.specs.Candidates.{visit_subject, visits_in_times}
use Rattle.pl_query.specs.Subjects.{row_of_visit}
use Rattle.pl_query.proofs.PageParts.{added_one, one_visit, visit_row_at, visit_subject_is}
use Rattle.pl_query.proofs.RowsShown.{visit_there}
use Rattle.pl_query.proofs.candidates.visits.add_visit.Goals as goal

pub is_in_times-requires-clause-visit : goal.is_in_times-requires-clause-visit
is_in_times-requires-clause-visit g c =
    visit_there (g.R.Rows.kept c.args.rows.now) c.args.visit c.args.page c.requires.there

pub returns : goal.returns
returns g c =
    let kept : Kept = g.R.Rows.kept c.args.rows.now in
    on_ok_weaker c.add.result
    (λ pushed p v at_page at_visit.
    added_one visit_subject (store_of kept) c.args.asked.now.query.now.sort c.args.candidates.now.items
    c.add.new.candidates.items (visits_in_times kept c.args.asked.now.query.now p (v ∷ [])) (row_of_visit kept v p) _
    (one_visit kept c.args.asked.now.query.now p v true
    (sym c.if-not-is_in_times.false ∙ c.is_in_times.ensures v at_visit))
    (visit_subject_is kept c.args.visit c.args.page v p at_visit at_page)
    (pushed (row_of_visit kept v p) (visit_row_at kept c.args.visit c.args.page v p at_visit at_page)))
    c.add.ensures
