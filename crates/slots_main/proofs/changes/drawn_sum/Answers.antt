use Rattle.std.proofs.Common.{◌+◌}
use Rattle.slots_main.proofs.PlaceLaws.{place_slot}
use Rattle.slots_main.proofs.changes.drawn_sum.Goals as goal

pub read-requires : goal.read-requires
read-requires g c =
    record {
      there =
          place_slot (c.below.result + 1) c.args.arena.now (c.requires.places c.below.result c.below.ensures);
    }
