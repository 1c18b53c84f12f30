use Rattle.std.proofs.Common.{◌∙◌, ap, sym}
use Rattle.std.specs.Result.{result_ok}
use Rattle.pl_plain.specs.Flat.{kept_of}
use Rattle.pl_base.proofs.PageLaws.{page_there}
use Rattle.trials.proofs.rows.set_mark.Goals as goal

pub set_mark-requires : goal.set_mark-requires
set_mark-requires g c =
    page_there (kept_of c.args.flat.now) c.args.page c.in_ok-ok_or.field-0
    (ap result_ok (sym c.in_ok-ok_or.was) ∙ sym c.ok_or.ensures.ok_part ∙ c.page_at.ensures.mark)
