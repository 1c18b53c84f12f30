use Rattle.std.proofs.Common.{◌==◌}
use Rattle.pl_base.specs.Rows.{KeptPage, mark_of}
use Rattle.pl_base.proofs.LookUps.{there_ok}
use Rattle.rows_main.proofs.known.known_page.Goals as goal

pub returns : goal.returns
returns g c =
    there_ok (λ (p : KeptPage). p.page.id.0 == c.args.page.0) mark_of (g.R.Rows.kept c.args.rows.now).pages
    c.page_at.result c.ok_or.result c.page_at.ensures.mark c.ok_or.ensures.ok_part
