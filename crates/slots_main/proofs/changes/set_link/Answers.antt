use Rattle.slots_main.proofs.PlaceLaws.{place_link}
use Rattle.slots_main.proofs.changes.set_link.Goals as goal

pub link-first-requires : goal.link-first-requires
link-first-requires g c = record { there = place_link c.args.slot.0 c.args.arena.now c.requires.place }
