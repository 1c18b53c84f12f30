use Rattle.std.proofs.Common.{◌∙◌, ◌≤◌, ℤ, rules, subst, sym, take, w64}
use Rattle.std.proofs.lemmas.Int.{to_z-of_z}
use Rattle.pl_base.specs.Rows.{page_visits, store_of}
use Rattle.pl_base.specs.Totals.{most_share, share}
use Rattle.pl_marks.proofs.PageDue.{due_is}
use Rattle.pl_score.proofs.StoreSamples.{small_bonuses}
use Rattle.pl_marks.proofs.PageScore.{sample_filled, score_is, score_small}
use Rattle.pl_marks.proofs.mark.aged_page.Goals as goal

pub score-requires-clause-bonuses : goal.score-requires-clause-bonuses
score-requires-clause-bonuses g c =
    small_bonuses (store_of (g.R.Rows.kept c.args.rows.now))
    (take 10 (page_visits (g.R.Rows.kept c.args.rows.now) c.args.page)) c.deref.result.now
    (c.deref.ensures.value ∙ c.in_ok-sample.ensures.sample)

pub score-requires-clause-sampled : goal.score-requires-clause-sampled
score-requires-clause-sampled g c some =
    sample_filled (g.R.Rows.kept c.args.rows.now) c.args.page c.deref.result.now c.args.count
    (c.deref.ensures.value ∙ c.in_ok-sample.ensures.sample) c.requires.count some

pub returns-clause-frecency : goal.returns-clause-frecency
returns-clause-frecency g c p same typed place =
    to_z-of_z w64 c.score.result (search rules)
    ∙ c.score.ensures
    ∙ score_is (g.R.Rows.kept c.args.rows.now) c.args.page p c.deref.result.now c.day-day.result c.args.count
    c.args.referenced c.args.typed c.args.is_place
    (c.deref.ensures.value ∙ c.in_ok-sample.ensures.sample) c.day-day.ensures.day c.requires.count
    c.requires.referenced same typed place

pub returns-clause-small : goal.returns-clause-small
returns-clause-small g c =
    subst (λ (z : ℤ). share z ≤ most_share) (sym (to_z-of_z w64 c.score.result (search rules) ∙ c.score.ensures))
    (score_small (g.R.Rows.kept c.args.rows.now) c.args.page c.deref.result.now c.day-day.result c.args.count
    c.args.referenced c.args.typed c.args.is_place (g.met.R.Rows.well_kept c.args.rows.now)
    (c.deref.ensures.value ∙ c.in_ok-sample.ensures.sample) c.day-day.ensures.day c.requires.count
    c.requires.referenced)

pub returns-clause-due : goal.returns-clause-due
returns-clause-due g c =
    due_is (g.R.Rows.kept c.args.rows.now) c.args.page c.deref-2.result.now c.day-day.result c.next_due.result
    (c.deref-2.ensures.value ∙ c.in_ok-sample.ensures.sample) c.day-day.ensures.day c.next_due.ensures
