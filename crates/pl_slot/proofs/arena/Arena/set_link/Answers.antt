use Rattle.std.proofs.Common.{arith, sym}
use Rattle.pl_slot.proofs.LinkLaws.{LinkSet, link_slot, link_written}
use Rattle.pl_slot.proofs.arena.Arena.set_link.Goals as goal
use Rattle.pl_slot.proofs.arena.Arena.set_link.Goals.{After-put_four_of}

link_there : (c : After-put_four_of)
    → LinkSet c.args.rail c.args.link c.args.slot c.args.to c.self.inside.sheets c.put_four_of.new.sheets
link_there c =
    link_written c.args.rail c.args.link c.args.slot c.args.to c.place.result c.self.inside.sheets c.args.self.now
    c.put_four_of.new.sheets c.self.view_is c.self.invariant c.requires.there c.place.ensures.there
    c.place.ensures.within (omega arith) c.put_four_of.ensures

pub put_four_of-requires-clause-there : goal.put_four_of-requires-clause-there
put_four_of-requires-clause-there c =
    link_slot c.args.rail c.args.link c.args.slot c.self.inside.sheets c.args.self.now c.self.view_is c.requires.there

pub invariant_of-self : goal.invariant_of-self
invariant_of-self c = (link_there c).arena

pub returns : goal.returns
returns c = record { set = rw (sym c.self.view_is) ((link_there c).set) }
