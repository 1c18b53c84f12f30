use Rattle.pl_slot.proofs.ArenaLaws.{free_held}
use Rattle.pl_slot.proofs.taking.next_free.Goals as goal

pub known_row-requires : goal.known_row-requires
known_row-requires c = record { there = free_held c.args.slot.0 c.args.sheets.now c.requires.there }
