-- What stands behind a comment.
use Rattle.std.proofs.Common.{◌∙◌}
use Rattle.pl_nbread.proofs.ScanParts.{comment_found, comment_open}
use Rattle.pl_nbread.proofs.part.behind_comment.Goals as goal

pub returns-in-Some : goal.returns-in-Some
returns-in-Some c =
    let w = c.in-Some.ensures.cases in
    w.4 ∙ comment_found w.0 c.args.text.now _ w.2.0 w.2.1.split

pub returns-in-None : goal.returns-in-None
returns-in-None c = comment_open c.args.text.now c.in-None.ensures.cases
