use Rattle.std.proofs.Common.{◌∙◌, false, sym, true}
use Rattle.std.proofs.lemmas.Result.{on_ok_weaker}
use Rattle.pl_base.specs.Rows.{Kept, store_of}
use Rattle.pl_query.specs.Candidates.{visit_subject, visits_part}
use Rattle.pl_query.proofs.PageParts.{added_alike, added_none, visits_if}
use Rattle.pl_query.proofs.candidates.visits.add_visits.Goals as goal

pub returns-then-not-listed : goal.returns-then-not-listed
returns-then-not-listed g c p at =
    let kept : Kept = g.R.Rows.kept c.args.rows.now in
    added_none visit_subject (store_of kept) c.args.asked.now.query.now.sort c.args.candidates.now.items
    (visits_part kept c.args.asked.now.query.now p)
    (visits_if kept c.args.asked.now.query.now c.args.page p false at
    (sym c.if-not-listed.true ∙ c.in_ok-listed.ensures p at))

pub returns : goal.returns
returns g c =
    let kept : Kept = g.R.Rows.kept c.args.rows.now in
    on_ok_weaker c.add_visits_in_times.result
    (λ added p at.
    added_alike visit_subject (store_of kept) c.args.asked.now.query.now.sort c.args.candidates.now.items
    c.add_visits_in_times.new.candidates.items _ (visits_part kept c.args.asked.now.query.now p)
    (visits_if kept c.args.asked.now.query.now c.args.page p true at
    (sym c.if-not-listed.false ∙ c.in_ok-listed.ensures p at))
    (added p at))
    c.add_visits_in_times.ensures
