use Rattle.std.proofs.Common.{arith, sym}
use Rattle.pl_slot.specs.Header.{with_last}
use Rattle.pl_slot.proofs.FieldLaws.{FieldSet, last_put}
use Rattle.pl_slot.proofs.arena.Arena.set_last_of.Goals as goal
use Rattle.pl_slot.proofs.arena.Arena.set_last_of.Goals.{After-put_four}

set_there : (c : After-put_four)
    → FieldSet (with_last c.args.kind c.args.slot) c.self.inside.sheets c.put_four.new.sheets
set_there c =
    last_put c.args.kind c.ends_at.result c.args.slot.0 c.self.inside.sheets c.put_four.new.sheets c.self.invariant
    (omega arith) c.ends_at.ensures c.put_four.ensures

pub invariant_of-self : goal.invariant_of-self
invariant_of-self c = (set_there c).arena

pub returns-clause-set : goal.returns-clause-set
returns-clause-set c = rw (sym c.self.view_is) ((set_there c).set)

pub returns-clause-as_many : goal.returns-clause-as_many
returns-clause-as_many c = rw (sym c.self.view_is) ((set_there c).as_many)
