use Rattle.std.proofs.Common.{◌∙◌, ap}
use Rattle.pl_nbread.specs.References.{decoded}
use Rattle.pl_words.proofs.TagNames.{trimmed_is}
use Rattle.pl_nbread.proofs.values.title.Goals as goal

pub returns : goal.returns
returns c =
    c.from.ensures ∙ c.in_ok-decoded.ensures
    ∙ ap decoded (trimmed_is c.args.text.now c.trim_ascii.result.now c.trim_ascii.ensures.value)
