use Rattle.std.proofs.Common.{refl}
use Rattle.pl_graft.proofs.GoingOn.{goes_nowhere}
use Rattle.pl_graft.proofs.grafting.Grafting.page_of_node.Goals as goal

pub returns-in-None-clause-goes_on : goal.returns-in-None-clause-goes_on
returns-in-None-clause-goes_on g c =
    goes_nowhere (g.R.Rows.kept c.args.rows.now) c.args.self.now c.args.self.now refl refl
