use Rattle.std.proofs.Common.{refl}
use Rattle.pl_record.proofs.RowKinds.{link_there}
use Rattle.pl_record.proofs.visit_slots.taking.last_before.Goals as goal
use Rattle.pl_slot.specs.declared.kind.SlotKind.TheVariants as kinds
use Rattle.pl_slot.specs.declared.links.Link.TheVariants.{Last}
use Rattle.pl_slot.specs.declared.links.Rail.TheVariants.{Targets}

pub last-requires : goal.last-requires
last-requires g c =
    record {
      owner = link_there Targets Last c.args.source.0 kinds.Visit 44 c.args.arena.now c.requires.source refl;
    }
