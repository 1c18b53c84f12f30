use Rattle.std.proofs.Common.{◌∙◌, ap}
use Rattle.pl_slot.specs.Arena.{is_slot}
use Rattle.pl_slot.proofs.arena.Arena.read.Goals as goal

pub known_row-requires : goal.known_row-requires
known_row-requires g c =
    record {
      there =
          c.self.invariant.slots.rows c.args.slot.0 (ap (is_slot c.args.slot.0) c.self.view_is ∙ c.requires.there);
    }
