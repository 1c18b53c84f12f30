use Rattle.std.proofs.Common.{◌∙◌, ◌++◌, List, ℕ, ap}
use Rattle.std.specs.String.{string_bytes}
use Rattle.pl_nbwrite.specs.BookmarkText.{seconds}
use Rattle.pl_nbwrite.proofs.ListSteps.{dates-written}
use Rattle.pl_nbwrite.proofs.lines.push_dates.Goals as goal

pub returns : goal.returns
returns c =
    c.in_ok-write.ensures.bytes
    ∙ ap (λ (x : List ℕ). string_bytes c.args.file.now ++ x)
    (dates-written (seconds c.args.added) (seconds c.args.modified))
