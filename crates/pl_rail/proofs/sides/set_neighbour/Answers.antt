use Rattle.std.proofs.Common.{◌∙◌, sym}
use Rattle.pl_rail.proofs.CallLaws.{end_asked, set_end_of, set_side_of, side_asked}
use Rattle.pl_rail.proofs.sides.set_neighbour.Goals as goal

pub set_end-requires : goal.set_end-requires
set_end-requires c =
    record {
      there =
          end_asked c.args.side c.args.rail c.args.owner c.args.arena.now c.args.slot
          (sym c.is_none.ensures ∙ c.if-is_none.true) c.requires.there;
    }

pub set_link-requires : goal.set_link-requires
set_link-requires c =
    record {
      there =
          side_asked c.args.side c.args.rail c.args.owner c.side_link.result c.args.arena.now c.args.slot
          (sym c.is_none.ensures ∙ c.if-is_none.false) c.side_link.ensures c.requires.there;
    }

pub returns-then-is_none : goal.returns-then-is_none
returns-then-is_none c =
    set_end_of c.args.side c.args.rail c.args.owner c.args.slot c.args.to c.args.arena.now c.set_end.new.arena
    (sym c.is_none.ensures ∙ c.if-is_none.true) c.set_end.ensures

pub returns-else-is_none : goal.returns-else-is_none
returns-else-is_none c =
    set_side_of c.args.side c.args.rail c.args.owner c.side_link.result c.args.slot c.args.to c.args.arena.now
    c.set_link.new.self (sym c.is_none.ensures ∙ c.if-is_none.false) c.side_link.ensures c.set_link.ensures.set
