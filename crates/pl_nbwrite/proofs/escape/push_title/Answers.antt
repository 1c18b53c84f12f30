use Rattle.std.proofs.Common.{◌≡◌, ◌++◌, List, None, ℕ, lit<, subst, sym}
use Rattle.std.specs.Prelude.{OnOk}
use Rattle.std.specs.String.{string_bytes}
use Rattle.std.proofs.lemmas.Str.Pattern.{strip_prefix_char}
use Rattle.pl_nbwrite.proofs.EscapeSteps.{title-other}
use Rattle.pl_nbwrite.proofs.escape.push_title.Goals as goal

pub returns-in_default : goal.returns-in_default
returns-in_default c =
    let other = strip_prefix_char 32 c.args.title.now None c.in_default.ensures.cases (lit< tt) in
    subst
    (λ (x : List ℕ). OnOk c.push_title_end.result
    (string_bytes c.push_title_end.new.file ≡ string_bytes c.args.file.now ++ x))
    (sym (title-other c.args.title.now other)) c.push_title_end.ensures
