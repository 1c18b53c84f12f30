use Rattle.pl_slot.proofs.LinkLaws.{link_read, link_slot}
use Rattle.pl_slot.proofs.arena.Arena.link.Goals as goal

pub four_of-requires-clause-there : goal.four_of-requires-clause-there
four_of-requires-clause-there g c =
    link_slot c.args.rail c.args.link c.args.slot c.self.inside.sheets c.args.self.now c.self.view_is c.requires.there

pub returns-clause-named : goal.returns-clause-named
returns-clause-named g c =
    link_read c.args.rail c.args.link c.args.slot c.place.result c.four_of.result c.self.inside.sheets c.args.self.now
    c.self.view_is c.requires.there c.place.ensures.there c.place.ensures.within c.four_of.ensures
