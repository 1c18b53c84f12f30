use Rattle.std.proofs.lemmas.Result.{IfOk-weaker}
use Rattle.std.proofs.Common.{◌∙◌, ap, map, subst}
use Rattle.pl_place.specs.declared.query.Query.{Query}
use Rattle.pl_dated.specs.declared.first.FoundVisit.{FoundVisit}
use Rattle.pl_dated.specs.Latest.{seen}
use Rattle.pl_dated.specs.Listed.{FirstOf, row_of_seen}
use Rattle.pl_dated.proofs.LatestTold.{latest_told}
use Rattle.pl_dated.proofs.answered.answer_latest.Goals as goal

pub returns : goal.returns
returns g c =
    let kept = g.R.Rows.kept c.args.rows.now in
    let q = c.args.query.now in
    let views = c.args.known.now.views.items in
    let f : FirstOf kept q views c.in_ok-first.first =
    subst (λ (r : Query). FirstOf kept r views c.in_ok-first.first) c.in_ok-timed.ensures.query c.in_ok-first.ensures in
    IfOk-weaker c.result_rows.result _ _
    (λ rows told.
    latest_told kept q c.requires.latest c.requires.good (g.met.R.Rows.well_kept c.args.rows.now) views
    c.requires.knows.views c.in_ok-first.first f c.into_found.result.items
    (c.into_found.ensures q.max_results f.visits) rows.items
    (told ∙ ap (map (λ (v : FoundVisit). row_of_seen (seen v))) c.deref.ensures.value))
    c.result_rows.ensures
