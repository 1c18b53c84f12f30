use Rattle.std.proofs.Common.{◌==◌}
use Rattle.pl_base.specs.Rows.{KeptPage, mark_of}
use Rattle.pl_base.proofs.LookUps.{there_some}
use Rattle.trials_forms.proofs.asked.has_page.Goals as goal

pub returns : goal.returns
returns g c told =
    there_some (λ (p : KeptPage). p.page.id.0 == c.args.page.0) mark_of (g.R.Rows.kept c.args.rows.now).pages
    c.page_at.result c.is_some.result c.page_at.ensures.mark c.is_some.ensures told
