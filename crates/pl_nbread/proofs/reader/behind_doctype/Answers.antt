use Rattle.std.proofs.Common.{sym}
use Rattle.std.proofs.lemmas.Bool.{true≢false}
use Rattle.pl_nbread.proofs.FileStart.{cut_short}
use Rattle.pl_nbread.proofs.reader.behind_doctype.Goals as goal

pub returns-in_err-front : goal.returns-in_err-front
returns-in_err-front c =
    rw c.from_residual.ensures
    (cut_short c.args.text.now c.utf8.text (λ cut. true≢false (sym (c.in_err-front.ensures.variant.1 cut))))
