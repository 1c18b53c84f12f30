use Rattle.std.proofs.Common.{IsSome, subst, sym}
use Rattle.pl_rail.specs.declared.owner.Side.TheVariants.{Before}
use Rattle.pl_rail.proofs.SideLaws.{joined, other_side}
use Rattle.pl_rail.proofs.sides.join.Goals as goal

pub set_neighbour-requires-2 : goal.set_neighbour-requires-2
set_neighbour-requires-2 c =
    record { there = subst IsSome (sym (c.set_neighbour.ensures.opposite Before c.args.next other_side)) c.requires.back }

pub returns : goal.returns
returns c =
    joined c.args.rail c.args.owner c.args.slot c.args.next c.args.arena.now c.set_neighbour.new.arena
    c.set_neighbour-2.new.arena c.set_neighbour.ensures c.set_neighbour-2.ensures
