use Rattle.std.specs.Option.{option_copied}
use Rattle.pl_follow.proofs.TextsFollow.{new_prefix}
use Rattle.pl_follow.proofs.entries.change_entry.Goals as goal

pub sketched-requires : goal.sketched-requires
sketched-requires c =
    record {
      prefix =
          new_prefix (option_copied c.args.old) c.in-None-Some.new.now c.requires.change.views
          (rw c.in-None-Some.is-1 at c.requires.change.suits);
    }

pub returns-in-Some-None : goal.returns-in-Some-None
returns-in-Some-None c =
    rw (c.in-Some-None.is-0, c.in-Some-None.is-1)
    (λ views keeps suits. c.take_out.ensures.entries views keeps suits.goes)
