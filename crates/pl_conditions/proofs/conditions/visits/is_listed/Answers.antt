use Rattle.std.proofs.Common.{◌==◌, ◌∙◌, ap, not, sym}
use Rattle.pl_base.specs.Rows.{KeptPage, mark_of}
use Rattle.pl_base.proofs.LookUps.{found_where}
use Rattle.pl_conditions.proofs.MarkLaws.{hidden_at}
use Rattle.pl_conditions.proofs.conditions.visits.is_listed.Goals as goal

pub unwrap-mark-requires : goal.unwrap-mark-requires
unwrap-mark-requires g c =
    found_where (λ (p : KeptPage). p.page.id.0 == c.args.page.0) mark_of (g.R.Rows.kept c.args.rows.now).pages
    c.page_at.result c.requires.page c.page_at.ensures.mark

pub returns-else-query : goal.returns-else-query
returns-else-query g c p at =
    rw c.if-query.false
    (ap not (hidden_at (g.R.Rows.kept c.args.rows.now) c.args.page c.unwrap-mark.result p c.requires.right
    (sym c.unwrap-mark.ensures ∙ c.page_at.ensures.mark) at))
