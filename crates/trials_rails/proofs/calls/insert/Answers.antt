use Rattle.std.proofs.Common.{◌≡◌, ◌∙◌, rules, sym, true}
use Rattle.pl_rail.specs.declared.owner.Side.TheVariants.{Before}
use Rattle.pl_rail.proofs.ListLaws.{member_link}
use Rattle.trials_rails.proofs.calls.insert.Goals as goal

pub link-before-requires : goal.link-before-requires
link-before-requires g c =
    let told : c.is_member.result ≡ true = search rules in
    record {
      there =
          member_link c.args.chain.rail c.args.chain.owner Before c.args.arena.now c.args.slot
          (sym c.is_member.ensures.member ∙ told);
    }
