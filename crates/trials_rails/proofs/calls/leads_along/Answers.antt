use Rattle.std.proofs.Common.{◌≡◌, ◌∙◌, rules, sym, true}
use Rattle.pl_rail.specs.declared.owner.Side.TheVariants.{Behind}
use Rattle.pl_rail.proofs.ListLaws.{member_link}
use Rattle.trials_rails.proofs.calls.leads_along.Goals as goal

pub next-met-requires : goal.next-met-requires
next-met-requires g c =
    let told : c.is_member.result ≡ true = search rules in
    record {
      member =
          member_link c.args.chain.rail c.args.chain.owner Behind c.args.arena.now c.in-Some.slot
          (sym c.is_member.ensures.member ∙ told);
    }
