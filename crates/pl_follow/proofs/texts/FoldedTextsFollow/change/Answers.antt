use Rattle.std.specs.Option.{option_copied}
use Rattle.pl_follow.proofs.TextsFollow.{new_prefix}
use Rattle.pl_follow.proofs.texts.FoldedTextsFollow.change.Goals as goal

pub folded_texts-requires : goal.folded_texts-requires
folded_texts-requires c =
    record {
      prefix =
          new_prefix (option_copied c.args.old) c.in-None-Some.new.now c.requires.change.views
          (rw c.in-None-Some.is-1 at c.requires.change.suits);
    }

pub returns-in-Some-None : goal.returns-in-Some-None
returns-in-Some-None c =
    rw (c.in-Some-None.is-0, c.in-Some-None.is-1)
    (record { follows = λ views stands suits. c.take_out.ensures views stands suits.goes })
