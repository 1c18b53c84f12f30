use Rattle.std.proofs.Common.{◌∙◌, ap}
use Rattle.pl_place.specs.QueryForm.{ascend}
use Rattle.pl_place.specs.FormLaws.{ascend-by_number}
use Rattle.pl_place.proofs.firsts.by_number.Goals as goal

pub returns-clause-form : goal.returns-clause-form
returns-clause-form c =
    ap ascend (c.from.ensures ∙ c.in_ok-those_told.ensures) ∙ ascend-by_number c.args.told.now
