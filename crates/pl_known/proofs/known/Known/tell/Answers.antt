use Rattle.std.proofs.lemmas.Result.{on_ok_weaker}
use Rattle.std.specs.Option.{option_copied}
use Rattle.pl_follow.proofs.ChangedLists.{changed_in_order}
use Rattle.pl_known.proofs.known.Known.tell.Goals as goal

pub returns-clause-follows : goal.returns-clause-follows
returns-clause-follows c =
    on_ok_weaker c.change-5.result
    (λ told views stand suits.
    record {
      order = changed_in_order (option_copied c.args.old) (option_copied c.args.new) views stand.order suits;
      fit = suits.becomes;
      urls = c.in_ok-change.ensures.follows views stand.urls suits;
      ranks = c.in_ok-change-2.ensures.follows views stand.ranks suits;
      texts = c.in_ok-change-3.ensures.follows views stand.texts suits;
      days = c.in_ok-change-4.ensures.follows views stand.days suits;
      totals = told views stand.totals suits;
    })
    c.change-5.ensures.follows
