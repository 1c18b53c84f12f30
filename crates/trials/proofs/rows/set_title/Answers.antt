use Rattle.std.proofs.Common.{◌∙◌, ap, arith, sym}
use Rattle.std.specs.Result.{result_ok}
use Rattle.pl_plain.specs.Flat.{kept_of}
use Rattle.pl_base.proofs.PageLaws.{page_there}
use Rattle.trials.proofs.RowsLemmas.{room_for_title}
use Rattle.trials.proofs.rows.set_title.Goals as goal

pub set_title-requires-clause-page : goal.set_title-requires-clause-page
set_title-requires-clause-page g c =
    page_there (kept_of c.args.flat.now) c.args.page c.in_ok-ok_or.field-0
    (ap result_ok (sym c.in_ok-ok_or.was) ∙ sym c.ok_or.ensures.ok_part ∙ c.page_at.ensures.mark)

pub set_title-requires-clause-live : goal.set_title-requires-clause-live
set_title-requires-clause-live g c =
    room_for_title (kept_of c.args.flat.now) c.args.page c.args.title.now c.in_ok-ok_or.field-0
    c.args.flat.now.rows.page_ids.ascending
    (ap result_ok (sym c.in_ok-ok_or.was) ∙ sym c.ok_or.ensures.ok_part ∙ c.page_at.ensures.mark) (omega arith)
    (omega (arith, c.live.ensures.live))
