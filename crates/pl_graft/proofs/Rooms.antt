-- Where ids and slots suffice for an import, they suffice for each part of it.
use Rattle.std.proofs.Common.{arith}
use Rattle.pl_base.specs.Store.{Store}
use Rattle.pl_graft.specs.Standing.{HasRoom}
use Rattle.pl_graft.proofs.Slots.{IsAtMost}

pub room_before : (a b : Store) → IsAtMost a b → HasRoom b → HasRoom a
room_before a b less room =
    record {
      page_ids = omega (arith, less.page, room.page_ids);
      item_ids = omega (arith, less.item, room.item_ids);
      live = omega (arith, less.live, room.live);
    }
