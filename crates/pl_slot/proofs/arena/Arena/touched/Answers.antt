use Rattle.std.proofs.Common.{sym}
use Rattle.pl_slot.proofs.Settled.{either, Settles, settles}
use Rattle.pl_slot.proofs.arena.Arena.touched.Goals as goal
use Rattle.pl_slot.proofs.arena.Arena.touched.Goals.{After-touched}

kept : (c : After-touched) → Settles c.self.inside.sheets c.touched.new.self
kept c =
    settles c.self.inside.sheets c.touched.new.self c.self.invariant
    (either c.touched.result _ _ c.touched.ensures.ok c.touched.ensures.err)

pub invariant_of-self : goal.invariant_of-self
invariant_of-self c = (kept c).arena

pub returns-clause-rows : goal.returns-clause-rows
returns-clause-rows c = rw (sym c.self.view_is) ((kept c).rows)

pub returns-clause-header : goal.returns-clause-header
returns-clause-header c = rw (sym c.self.view_is) ((kept c).header)

pub returns-clause-count : goal.returns-clause-count
returns-clause-count c = rw (sym c.self.view_is) ((kept c).count)
