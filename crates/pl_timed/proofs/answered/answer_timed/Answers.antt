use Rattle.std.proofs.Common.{◌∙◌, filter, subst}
use Rattle.std.proofs.lemmas.Result.{IfOk-weaker}
use Rattle.pl_base.specs.Rows.{store_of}
use Rattle.pl_indexed.specs.Found.{AreFound}
use Rattle.pl_place.specs.declared.query.Query.{Query}
use Rattle.pl_timed.specs.Timed.{takes}
use Rattle.pl_timed.proofs.TimedRows.{taken_apart, timed_told}
use Rattle.pl_timed.proofs.answered.answer_timed.Goals as goal

pub rows_of-requires : goal.rows_of-requires
rows_of-requires g c =
    taken_apart (store_of (g.R.Rows.kept c.args.rows.now)) c.in_ok-timed.timed.query.now c.args.known.now.views.items
    c.in_ok-found.found.items c.requires.knows.followed.order c.in_ok-found.ensures

pub returns : goal.returns
returns g c =
    let store = store_of (g.R.Rows.kept c.args.rows.now) in
    let q = c.args.query.now in
    let views = c.args.known.now.views.items in
    IfOk-weaker c.rows_of.result _ _
    (λ rows told.
    told (filter (takes store q) views)
    (subst (λ (r : Query). AreFound r.sort (filter (takes store r) views) c.in_ok-found.found.items)
    c.in_ok-timed.ensures.query c.in_ok-found.ensures)
    ∙ timed_told store q views c.requires.timed c.requires.good c.requires.knows.views)
    c.rows_of.ensures
