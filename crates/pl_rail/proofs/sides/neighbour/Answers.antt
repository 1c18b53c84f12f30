use Rattle.std.proofs.Common.{◌∙◌, sym}
use Rattle.pl_rail.proofs.CallLaws.{end_asked, end_read, side_asked, side_read}
use Rattle.pl_rail.proofs.sides.neighbour.Goals as goal

pub end-requires : goal.end-requires
end-requires g c =
    record {
      there =
          end_asked c.args.side c.args.rail c.args.owner c.args.arena.now c.args.slot
          (sym c.is_none.ensures ∙ c.if-is_none.true) c.requires.there;
    }

pub link-requires : goal.link-requires
link-requires g c =
    record {
      there =
          side_asked c.args.side c.args.rail c.args.owner c.side_link.result c.args.arena.now c.args.slot
          (sym c.is_none.ensures ∙ c.if-is_none.false) c.side_link.ensures c.requires.there;
    }

pub returns-then-is_none-clause-named : goal.returns-then-is_none-clause-named
returns-then-is_none-clause-named g c =
    end_read c.args.side c.args.rail c.args.owner c.args.arena.now c.args.slot c.end.result
    (sym c.is_none.ensures ∙ c.if-is_none.true) c.end.ensures.named

pub returns-else-is_none-clause-named : goal.returns-else-is_none-clause-named
returns-else-is_none-clause-named g c =
    side_read c.args.side c.args.rail c.args.owner c.side_link.result c.args.arena.now c.args.slot c.link.result
    (sym c.is_none.ensures ∙ c.if-is_none.false) c.side_link.ensures c.link.ensures.named
