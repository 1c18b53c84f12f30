use Rattle.pl_owned.proofs.OwnersTold.{previous_there}
use Rattle.pl_owned.proofs.alone.is_alone.Goals as goal

pub link-before-requires : goal.link-before-requires
link-before-requires g c =
    record { there = previous_there c.args.rail c.args.slot.0 c.args.arena.now c.requires }
