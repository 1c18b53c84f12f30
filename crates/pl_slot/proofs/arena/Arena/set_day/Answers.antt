use Rattle.std.proofs.Common.{arith, refl, sym}
use Rattle.pl_slot.specs.Header.{Header}
use Rattle.pl_slot.proofs.FieldLaws.{FieldSet, field_set}
use Rattle.pl_slot.proofs.HeaderLaws.{day_set}
use Rattle.pl_slot.proofs.arena.Arena.set_day.Goals as goal
use Rattle.pl_slot.proofs.arena.Arena.set_day.Goals.{After-put_four}

set_there : (c : After-put_four)
    → FieldSet (λ (h : Header). record h { day = c.args.day }) c.self.inside.sheets c.put_four.new.sheets
set_there c =
    field_set 1 c.args.day.0 (λ (h : Header). record h { day = c.args.day }) c.self.inside.sheets c.put_four.new.sheets
    c.self.invariant (omega arith) (omega arith) c.put_four.ensures (day_set c.args.day.0 c.self.inside.sheets) refl refl

pub invariant_of-self : goal.invariant_of-self
invariant_of-self c = (set_there c).arena

pub returns : goal.returns
returns c = record { set = rw (sym c.self.view_is) ((set_there c).set); arena = (set_there c).arena }
