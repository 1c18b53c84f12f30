use Rattle.pl_rail.proofs.CallLaws.{header_named, slot_asked, slot_named}
use Rattle.pl_rail.proofs.sides.end.Goals as goal

pub link-requires : goal.link-requires
link-requires g c =
    record {
      there =
          slot_asked c.args.side c.args.rail c.in-At.slot c.args.owner c.end_link.result c.args.arena.now c.in-At.is
          c.end_link.ensures c.requires.there;
    }

pub returns-in-Header-clause-named : goal.returns-in-Header-clause-named
returns-in-Header-clause-named g c =
    header_named c.args.side c.args.rail c.in-Header.kind c.args.owner c.args.arena.now c.header_end.result
    c.in-Header.is c.requires.there c.header_end.ensures

pub returns-in-At-clause-named : goal.returns-in-At-clause-named
returns-in-At-clause-named g c =
    slot_named c.args.side c.args.rail c.in-At.slot c.args.owner c.end_link.result c.args.arena.now c.link.result
    c.in-At.is c.end_link.ensures c.link.ensures.named
