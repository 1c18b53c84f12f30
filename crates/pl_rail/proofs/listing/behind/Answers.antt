use Rattle.std.proofs.Common.{◌∙◌, sym}
use Rattle.pl_rail.specs.declared.owner.Side.TheVariants as sides
use Rattle.pl_rail.proofs.CallLaws.{member_there}
use Rattle.pl_rail.proofs.listing.behind.Goals as goal

pub neighbour-named-requires : goal.neighbour-named-requires
neighbour-named-requires g c =
    record {
      there =
          member_there c.args.rail c.args.owner sides.Before c.args.slot c.args.arena.now
          (sym c.is_member.ensures.member ∙ c.if-not-is_member.false);
    }

pub neighbour-requires : goal.neighbour-requires
neighbour-requires g c =
    record {
      there =
          member_there c.args.rail c.args.owner sides.Behind c.args.slot c.args.arena.now
          (sym c.is_member.ensures.member ∙ c.if-not-is_member.false);
    }
