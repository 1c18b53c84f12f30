use Rattle.slots_main.proofs.PlaceLaws.{place_live, put_kinds}
use Rattle.slots_main.proofs.changes.put_place.Goals as goal

pub write-requires-clause-live : goal.write-requires-clause-live
write-requires-clause-live c = place_live c.args.slot.0 c.args.arena.now c.requires.place

pub returns : goal.returns
returns c =
    record {
      kinds =
          put_kinds c.args.slot.0 c.place.result c.args.arena.now c.write.new.self c.requires.place
          c.place.ensures.kind c.write.ensures.rows;
    }
