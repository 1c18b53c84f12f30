use Rattle.pl_words.proofs.PrefixSteps.{cut_behind}
use Rattle.pl_words.proofs.words.searched.Goals as goal

pub range_from-requires : goal.range_from-requires
range_from-requires c _ =
    cut_behind c.args.url.now c.args.prefix.now c.utf8.url c.utf8.prefix c.requires.prefix
