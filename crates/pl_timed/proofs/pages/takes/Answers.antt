use Rattle.std.proofs.Common.{◌≡◌, ◌∙◌, ◌&&◌, Bool, true, false, refl, sym}
use Rattle.pl_base.specs.Rows.{store_of}
use Rattle.pl_query.specs.Decides.{decides}
use Rattle.pl_query.specs.QueryAnswer.{has_visit_in_times}
use Rattle.pl_timed.proofs.LatestTells.{none_visited}
use Rattle.pl_timed.proofs.pages.takes.Goals as goal

none : (a b : Bool) → b ≡ false → false ≡ (a && b)
none true b is = sym is
none false b is = refl

pub returns-then-is_before_times : goal.returns-then-is_before_times
returns-then-is_before_times g c =
    let store = store_of (g.R.Rows.kept c.args.rows.now) in
    let q = c.args.timed.now.query.now in
    none (decides q c.args.view.now) (has_visit_in_times store q c.args.view.now.id)
    (none_visited (g.R.Rows.kept c.args.rows.now) q (g.met.R.Rows.well_kept c.args.rows.now) c.args.view.now
    c.requires.last
    (sym (c.is_before_times.ensures store c.requires.times) ∙ c.if-is_before_times.true))
