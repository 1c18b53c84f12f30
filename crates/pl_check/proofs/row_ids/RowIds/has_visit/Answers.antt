use Rattle.std.proofs.Common.{◌∙◌}
use Rattle.pl_check.proofs.row_ids.RowIds.has_visit.Goals as goal

pub returns : goal.returns
returns c = λ pages visits are. c.has.ensures ∙ are.visits c.args.id.0
