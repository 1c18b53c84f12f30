use Rattle.pl_rail.proofs.CallLaws.{set_by_header, set_by_owner, slot_asked}
use Rattle.pl_rail.proofs.sides.set_end.Goals as goal

pub set_link-requires : goal.set_link-requires
set_link-requires c =
    record {
      there =
          slot_asked c.args.side c.args.rail c.in-At.slot c.args.owner c.end_link.result c.args.arena.now c.in-At.is
          c.end_link.ensures c.requires.there;
    }

pub returns-in-Header : goal.returns-in-Header
returns-in-Header c =
    set_by_header c.args.side c.args.rail c.in-Header.kind c.args.owner c.args.to c.args.arena.now
    c.set_header_end.new.arena c.in-Header.is c.requires.there c.set_header_end.ensures.set
    c.set_header_end.ensures.as_many

pub returns-in-At : goal.returns-in-At
returns-in-At c =
    set_by_owner c.args.side c.args.rail c.in-At.slot c.args.owner c.end_link.result c.args.to c.args.arena.now
    c.set_link.new.self c.in-At.is c.end_link.ensures c.set_link.ensures.set
