use Rattle.std.specs.Option.{option_copied}
use Rattle.std.proofs.lemmas.Result.{on_ok_weaker}
use Rattle.pl_follow.proofs.ViewRanks.{visits_follow}
use Rattle.pl_follow.proofs.order.OrderIndexFollow.change.Goals as goal

pub change_entry-requires : goal.change_entry-requires
change_entry-requires c =
    record {
      change = record {
        views = c.requires.change.views;
        stood = c.requires.change.stood.frecencies;
        suits = c.requires.change.suits;
      };
    }

pub returns : goal.returns
returns c =
    record {
      follows = on_ok_weaker c.replace_rank.result
          (λ replaces views orders suits.
          record {
            frecencies = c.in_ok-change_entry.ensures views orders.frecencies suits;
            visits = visits_follow (option_copied c.args.old) (option_copied c.args.new) views
                orders.frecencies.ordered suits c.rank_by_visit.result c.rank_by_visit-2.result
                c.rank_by_visit.ensures c.rank_by_visit-2.ensures c.args.self.now.visits.keys
                c.replace_rank.new.ranks.keys replaces orders.visits;
          })
          c.replace_rank.ensures;
    }
