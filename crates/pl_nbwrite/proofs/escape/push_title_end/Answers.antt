use Rattle.std.proofs.Common.{◌≡◌, ◌∙◌, ◌++◌, ◌∷◌, [], List, None, Some, ℕ, ap, lit<, subst, sym}
use Rattle.std.specs.Prelude.{OnOk, codes}
use Rattle.std.specs.String.{string_bytes}
use Rattle.std.proofs.lemmas.Str.Pattern.{strip_suffix_char}
use Rattle.pl_nbwrite.specs.BookmarkText.{escaped, title_end}
use Rattle.pl_base.proofs.ListLaws.{append_twice}
use Rattle.pl_nbwrite.proofs.EscapeSteps.{title_end-other, title_end-space}
use Rattle.pl_nbwrite.proofs.escape.push_title_end.Goals as goal

pub returns-in_default : goal.returns-in_default
returns-in_default c =
    let other = strip_suffix_char 32 c.args.text.now None c.in_default.ensures.cases (lit< tt) in
    subst
    (λ (x : List ℕ). OnOk c.push_escaped.result
    (string_bytes c.push_escaped.new.file ≡ string_bytes c.args.file.now ++ x))
    (sym (title_end-other c.args.text.now other)) c.push_escaped.ensures

pub returns : goal.returns
returns c =
    let is : c.args.text.now ≡ c.in-Some.front.now ++ 32 ∷ [] =
    strip_suffix_char 32 c.args.text.now (Some c.in-Some.front) c.in-Some.ensures.cases (lit< tt) in
    append_twice (string_bytes c.args.file.now) (string_bytes c.push_escaped-2.new.file)
    (string_bytes c.push_str.new.self) (escaped c.in-Some.front.now) (codes "&#32;")
    c.in_ok-push_escaped.ensures c.in_ok-push_str.ensures.bytes
    ∙ ap (λ (x : List ℕ). string_bytes c.args.file.now ++ x)
    (sym (ap title_end is ∙ title_end-space c.in-Some.front.now))
