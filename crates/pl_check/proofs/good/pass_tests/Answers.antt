use Rattle.std.proofs.Common.{◌∙◌, sym}
use Rattle.pl_check.proofs.GoodRows.{items_rise}
use Rattle.pl_check.proofs.good.pass_tests.Goals as goal

pub have_good_rows-requires-clause-items : goal.have_good_rows-requires-clause-items
have_good_rows-requires-clause-items c =
    items_rise c.args.rows.now (sym c.have_good_ids.ensures ∙ c.if-not-have_good_ids.false)
