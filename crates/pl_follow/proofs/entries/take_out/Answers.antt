use Rattle.std.proofs.Common.{◌∙◌, ap}
use Rattle.std.specs.BTreeMap.{is_at}
use Rattle.std.specs.Map.{lookup, remove_entry}
use Rattle.pl_follow.proofs.EntriesFollow.{entry_left, entry_told}
use Rattle.pl_follow.proofs.ViewRanks.{frecency_cmp}
use Rattle.pl_follow.proofs.entries.take_out.Goals as goal

pub returns-clause-entries : goal.returns-clause-entries
returns-clause-entries c =
    λ views.
    entry_left c.args.entries.now c.remove.new.self c.args.old.now views
    (c.remove.ensures.entries
    ∙ ap (λ r. remove_entry (is_at (frecency_cmp r)) c.args.entries.now.entries) c.rank.ensures)

pub returns-clause-sketch : goal.returns-clause-sketch
returns-clause-sketch c =
    λ views keeps has.
    c.remove.ensures.value
    ∙ ap (λ r. lookup (is_at (frecency_cmp r)) c.args.entries.now.entries) c.rank.ensures
    ∙ entry_told c.args.entries.now c.args.old.now views keeps has
