use Rattle.std.proofs.Common.{◌≡◌, ◌∙◌, rules, sym, true}
use Rattle.trials_rails.proofs.AskedLemmas.{side_named}
use Rattle.trials_rails.proofs.calls.named_by.Goals as goal

pub link-requires : goal.link-requires
link-requires g c =
    let told : c.is_member.result ≡ true = search rules in
    record {
      there =
          side_named c.args.chain.rail c.args.chain.owner c.args.side c.side_link.result c.args.arena.now c.args.slot
          c.side_link.ensures (sym c.is_member.ensures.member ∙ told);
    }
