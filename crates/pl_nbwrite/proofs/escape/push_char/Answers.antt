use Rattle.std.proofs.Common.{◌∙◌, ◌++◌, List, ℕ, ap, sym}
use Rattle.std.specs.String.{string_bytes}
use Rattle.pl_nbwrite.proofs.EscapeSteps.{escaped-plain}
use Rattle.pl_nbwrite.proofs.escape.push_char.Goals as goal

pub returns-in_ok-push : goal.returns-in_ok-push
returns-in_ok-push c =
    c.in_ok-push.ensures.bytes
    ∙ ap (λ (x : List ℕ). string_bytes c.args.file.now ++ x) (sym (escaped-plain c.args.c c.in_default.ensures))
