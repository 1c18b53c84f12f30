use Rattle.std.proofs.Common.{◌+◌, arith}
use Rattle.slots_main.proofs.PlaceLaws.{place_slot}
use Rattle.slots_main.proofs.changes.whole_sum.Goals as goal

pub read-requires : goal.read-requires
read-requires g c =
    record {
      there =
          place_slot (c.loop-number.number + 1) c.args.arena.now
          (c.requires.places c.loop-number.number (omega arith));
    }
