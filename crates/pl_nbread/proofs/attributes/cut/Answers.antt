-- Where a text is cut.
use Rattle.std.proofs.Common.{◌∙◌, ap, drop, take}
use Rattle.pl_nbread.proofs.ScanSteps.{find_is}
use Rattle.pl_nbread.proofs.attributes.cut.Goals as goal

pub returns-clause-front : goal.returns-clause-front
returns-clause-front c =
    c.split_at.ensures.front
    ∙ ap (λ n. take n c.args.text.now)
    (c.unwrap_or.ensures ∙ find_is c.args.ends.now c.args.text.now c.find.result c.requires.ascii c.find.ensures.cases)

pub returns-clause-behind : goal.returns-clause-behind
returns-clause-behind c =
    c.split_at.ensures.back
    ∙ ap (λ n. drop n c.args.text.now)
    (c.unwrap_or.ensures ∙ find_is c.args.ends.now c.args.text.now c.find.result c.requires.ascii c.find.ensures.cases)
