use Rattle.std.proofs.Common.{Some}
use Rattle.std.proofs.lemmas.Result.{on_ok_weaker}
use Rattle.pl_follow.specs.Changes.{without_id}
use Rattle.pl_totals.proofs.Followed.{comes, goes}
use Rattle.pl_totals.proofs.totals.Totals.replace.Goals as goal

pub lose-requires : goal.lose-requires
lose-requires c =
    let may = c.requires.may in
    record {
      may =
          record {
            views = may.views;
            stands = may.stands;
            holds = goes c.args.old.now (Some c.args.new.now) may.views may.holds;
          };
    }

pub gain-requires : goal.gain-requires
gain-requires c =
    let may = c.requires.may in
    record {
      may =
          record {
            views = without_id c.args.old.now.id may.views;
            stands =
                c.in_ok-lose.ensures.stands may.views may.stands
                (goes c.args.old.now (Some c.args.new.now) may.views may.holds);
            holds = comes (Some c.args.old.now) c.args.new.now may.views may.holds;
          };
    }

pub returns : goal.returns
returns c = record {
  stands =
      on_ok_weaker c.gain.result
      (λ gained views stands suits. gained (without_id c.args.old.now.id views)
      (c.in_ok-lose.ensures.stands views stands (goes c.args.old.now (Some c.args.new.now) views suits))
      (comes (Some c.args.old.now) c.args.new.now views suits))
      c.gain.ensures.stands;
}
