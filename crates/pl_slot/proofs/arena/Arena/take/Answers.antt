use Rattle.std.proofs.Common.{sym}
use Rattle.pl_slot.proofs.TakenLaws.{taken_then}
use Rattle.pl_slot.proofs.arena.Arena.take.Goals as goal

pub returns-clause-taken : goal.returns-clause-taken
returns-clause-taken c =
    rw (sym c.self.view_is)
    (taken_then c.take_free.result c.args.row.now c.self.inside.sheets c.make_free.new.sheets c.take_free.new.sheets
    c.in_ok-make_free.ensures.ok c.take_free.ensures.first c.make_free.ensures.arena c.requires.row
    c.take_free.ensures.rows c.take_free.ensures.count)
