use Rattle.std.proofs.Common.{length}
use Rattle.pl_desk.specs.Untold.{torn_left}
use Rattle.pl_desk.proofs.quick_desk.QuickDeskDesk.write_at.Goals as goal

pub returns-then-not-has_room-clause-leaves : goal.returns-then-not-has_room-clause-leaves
returns-then-not-has_room-clause-leaves c =
    torn_left c.args.self.now c.args.self.now c.args.at (length c.args.bytes.now)

pub returns-clause-leaves : goal.returns-clause-leaves
returns-clause-leaves c = torn_left c.args.self.now c.args.self.now c.args.at (length c.args.bytes.now)
