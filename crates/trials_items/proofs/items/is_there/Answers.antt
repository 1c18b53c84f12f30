use Rattle.std.proofs.Common.{◌==◌}
use Rattle.pl_base.specs.Rows.{KeptPage, mark_of}
use Rattle.pl_base.proofs.LookUps.{there_some}
use Rattle.pl_plain.specs.Flat.{kept_of}
use Rattle.trials_items.proofs.items.is_there.Goals as goal

pub returns-in-Some : goal.returns-in-Some
returns-in-Some g c some =
    rw c.in-Some.is
    (there_some (λ (p : KeptPage). p.page.id.0 == c.in-Some.page.0) mark_of
    (kept_of c.args.flat.now).pages c.page_at.result c.is_some.result c.page_at.ensures.mark
    c.is_some.ensures some)
