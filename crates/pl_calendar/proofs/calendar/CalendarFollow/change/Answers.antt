use Rattle.std.specs.Option.{option_copied}
use Rattle.std.proofs.lemmas.Result.{on_ok_weaker}
use Rattle.pl_follow.proofs.ChangedLists.{changed_in_order}
use Rattle.pl_calendar.proofs.EntryOrder.{days_follow}
use Rattle.pl_calendar.proofs.calendar.CalendarFollow.change.Goals as goal

pub returns : goal.returns
returns c =
    record {
      follows = on_ok_weaker c.replace_rank.result
          (λ replaces views keeps suits.
          record {
            ordered = changed_in_order (option_copied c.args.old) (option_copied c.args.new) views keeps.ordered suits;
            entries = days_follow (option_copied c.args.old) (option_copied c.args.new) views keeps.ordered suits
                c.entry.result c.entry-2.result c.entry.ensures c.entry-2.ensures c.args.self.now.entries.keys
                c.replace_rank.new.ranks.keys replaces keeps.entries;
          })
          c.replace_rank.ensures;
    }
