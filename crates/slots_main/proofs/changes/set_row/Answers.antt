use Rattle.slots_main.proofs.PlaceLaws.{kind_held, place_live, place_slot, put_kinds}
use Rattle.slots_main.proofs.changes.set_row.Goals as goal

pub read-row-requires : goal.read-row-requires
read-row-requires g c = record { there = place_slot c.args.slot.0 c.args.arena.now c.requires.place }

pub with_further_visit-requires-clause-kind : goal.with_further_visit-requires-clause-kind
with_further_visit-requires-clause-kind g c =
    kind_held c.args.slot.0 c.read-row.result c.args.arena.now c.requires.place c.read-row.ensures.row

pub write-requires-clause-live : goal.write-requires-clause-live
write-requires-clause-live g c = place_live c.args.slot.0 c.args.arena.now c.requires.place

pub returns : goal.returns
returns g c =
    record {
      kinds =
          put_kinds c.args.slot.0 c.with_further_visit.result c.args.arena.now c.write.new.self c.requires.place
          c.with_further_visit.ensures.kind c.write.ensures.rows;
    }
