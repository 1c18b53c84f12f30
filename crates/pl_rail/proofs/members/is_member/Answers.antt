use Rattle.std.proofs.Common.{◌∙◌, sym}
use Rattle.pl_rail.proofs.MemberCount.{member_told, no_member}
use Rattle.pl_rail.proofs.members.is_member.Goals as goal

pub returns-then-not-is_slot-clause-member : goal.returns-then-not-is_slot-clause-member
returns-then-not-is_slot-clause-member g c =
    sym
    (no_member c.args.rail c.args.owner c.args.arena.now c.args.slot (sym c.is_slot.ensures ∙ c.if-not-is_slot.true))

pub returns-clause-member : goal.returns-clause-member
returns-clause-member g c =
    member_told c.args.rail c.args.owner c.args.arena.now c.args.slot c.read.result c.kind-kind.result
    c.member_kind.result c.is_kind.result c.read.ensures.row c.kind-kind.ensures c.member_kind.ensures c.is_kind.ensures
