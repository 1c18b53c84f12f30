use Rattle.pl_graft.proofs.GainedPages.{inserted}
use Rattle.pl_graft.proofs.grafting.node.gain.Goals as goal

pub returns-in_ok-insert : goal.returns-in_ok-insert
returns-in_ok-insert c other =
    rw (c.in_ok-insert.ensures.keys, c.in-Some.is) (inserted c.args.gained.now.keys c.in-Some.page other)
