use Rattle.std.proofs.Common.{refl}
use Rattle.slots_main.proofs.PlaceLaws.{held_kind}
use Rattle.slots_main.proofs.places.is_place.Goals as goal

pub returns-in-Place : goal.returns-in-Place
returns-in-Place g c _ = held_kind c.args.slot.0 _ c.args.arena.now c.in-Place.ensures.row refl
