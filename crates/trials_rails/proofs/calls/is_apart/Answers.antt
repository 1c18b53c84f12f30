use Rattle.std.proofs.Common.{◌∙◌, eqb-true, sym}
use Rattle.pl_rail.specs.declared.owner.Side.TheVariants.{Before, Behind}
use Rattle.pl_rail.proofs.ListLaws.{member_link}
use Rattle.trials_rails.proofs.AskedLemmas.{apart}
use Rattle.trials_rails.proofs.calls.is_apart.Goals as goal

pub link-before-requires : goal.link-before-requires
link-before-requires g c =
    record {
      there =
          member_link c.args.chain.rail c.args.chain.owner Before c.args.arena.now c.args.slot
          (sym c.is_member.ensures.member ∙ c.if-not-is_member.false);
    }

pub link-behind-requires : goal.link-behind-requires
link-behind-requires g c =
    record {
      there =
          member_link c.args.chain.rail c.args.chain.owner Behind c.args.arena.now c.args.slot
          (sym c.is_member.ensures.member ∙ c.if-not-is_member.false);
    }

pub returns-then-before-slot : goal.returns-then-before-slot
returns-then-before-slot g c told =
    apart c.args.chain.rail c.args.chain.owner c.args.slot c.link-before.result c.link-behind.result c.args.arena.now
    (sym c.is_member.ensures.member ∙ c.if-not-is_member.false) c.link-before.ensures.named c.link-behind.ensures.named
    c.if-before-slot.true (eqb-true c.link-behind.result.0 0 told)
