use Rattle.std.proofs.Common.{IsSome, subst}
use Rattle.pl_slot.specs.Links.{ends_at}
use Rattle.trials_rails.proofs.AskedLemmas.{end_named}
use Rattle.trials_rails.proofs.calls.is_owner.Goals as goal

pub returns : goal.returns
returns g c told =
    end_named c.args.rail c.args.slot.0 c.args.arena.now c.read.result c.read.ensures.row
    (subst (λ kind. IsSome (ends_at c.args.rail kind)) c.kind.ensures (c.has_ends.ensures told))
