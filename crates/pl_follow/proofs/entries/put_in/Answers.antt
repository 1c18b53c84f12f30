use Rattle.std.proofs.Common.{◌∙◌, ap}
use Rattle.std.specs.BTreeMap.{insert_entry}
use Rattle.pl_follow.proofs.EntriesFollow.{entry_come}
use Rattle.pl_follow.proofs.ViewRanks.{frecency_cmp}
use Rattle.pl_follow.proofs.entries.put_in.Goals as goal

pub returns : goal.returns
returns c views =
    entry_come c.args.entries.now c.insert.new.self c.args.new.now c.args.sketch views c.requires.sketch
    (c.in_ok-insert.ensures.entries
    ∙ ap (λ r. insert_entry frecency_cmp c.args.entries.now.entries r c.args.sketch) c.rank.ensures)
