use Rattle.std.proofs.Common.{◌∙◌, ap, sym}
use Rattle.pl_base.specs.Rows.{store_of}
use Rattle.pl_timed.specs.Timed.{is_within}
use Rattle.pl_timed.proofs.LatestTells.{latest_visited}
use Rattle.pl_timed.proofs.visits.is_visited.Goals as goal

pub returns-then-is_latest_in_times : goal.returns-then-is_latest_in_times
returns-then-is_latest_in_times g c =
    sym
    (latest_visited (g.R.Rows.kept c.args.rows.now) c.args.timed.now.query.now
    (g.met.R.Rows.well_kept c.args.rows.now) c.args.view.now c.requires.last
    (sym (c.is_latest_in_times.ensures (store_of (g.R.Rows.kept c.args.rows.now)) c.requires.asked)
    ∙ c.if-is_latest_in_times.true))

pub has_earlier_in_times-requires-clause-outside : goal.has_earlier_in_times-requires-clause-outside
has_earlier_in_times-requires-clause-outside g c =
    let store = store_of (g.R.Rows.kept c.args.rows.now) in
    let q = c.args.timed.now.query.now in
    ap (is_within store q) (sym c.requires.last)
    ∙ sym (c.is_latest_in_times.ensures store c.requires.asked)
    ∙ c.if-is_latest_in_times.false
