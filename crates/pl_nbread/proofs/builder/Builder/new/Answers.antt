use Rattle.pl_nbread.proofs.BuildingSteps.{yields_empty}
use Rattle.pl_nbread.proofs.builder.Builder.new.Goals as goal

pub returns-clause-tree : goal.returns-clause-tree
returns-clause-tree c =
    yields_empty c.new.result c.new-2.result c.new-3.result c.new-4.result c.new-5.result c.new-6.result
    c.new.ensures.items c.new-2.ensures.items c.new-3.ensures.items c.new-4.ensures.items c.new-5.ensures.items
