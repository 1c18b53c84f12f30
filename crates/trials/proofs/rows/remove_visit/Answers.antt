use Rattle.std.proofs.Common.{◌∙◌, ap, sym}
use Rattle.std.specs.Result.{result_ok}
use Rattle.pl_plain.specs.Flat.{kept_of}
use Rattle.pl_base.proofs.VisitLists.{visit_there}
use Rattle.trials.proofs.rows.remove_visit.Goals as goal

pub remove_visit-requires : goal.remove_visit-requires
remove_visit-requires g c =
    visit_there (kept_of c.args.flat.now) c.args.visit c.in_ok-ok_or.field-0
    (ap result_ok (sym c.in_ok-ok_or.was) ∙ sym c.ok_or.ensures.ok_part ∙ c.visit_at.ensures.row)
