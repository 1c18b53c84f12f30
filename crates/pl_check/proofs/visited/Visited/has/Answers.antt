use Rattle.std.proofs.Common.{◌∙◌}
use Rattle.pl_check.proofs.visited.Visited.has.Goals as goal

pub returns : goal.returns
returns c = λ visits are. c.has.ensures ∙ are.pages c.args.page
