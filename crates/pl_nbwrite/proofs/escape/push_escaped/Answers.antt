use Rattle.std.proofs.Common.{◌∙◌, ◌++◌, List, ℕ, ap, sym}
use Rattle.std.proofs.lemmas.Iterator.{YieldsList-from_chars}
use Rattle.std.proofs.lemmas.Iterator.Consumers.{YieldsList-end}
use Rattle.std.specs.Prelude.{encode_utf8, encode_utf8_all}
use Rattle.std.specs.String.{string_bytes}
use Rattle.pl_nbwrite.specs.BookmarkText.{escape, escaped}
use Rattle.pl_base.proofs.ListLaws.{append_twice}
use Rattle.pl_words.proofs.WrittenBytes.{written-chars, written-push}
use Rattle.pl_nbwrite.proofs.escape.push_escaped.Goals as goal

pub loop-c-preserved : goal.loop-c-preserved
loop-c-preserved c =
    append_twice (string_bytes c.args.file.now) (string_bytes c.loop-c.file) (string_bytes c.push_char.new.file)
    (escaped (encode_utf8_all c.loop-c.yielded)) (escaped (encode_utf8 c.in-Some.c)) c.loop-c.invariant
    c.in_ok-push_char.ensures
    ∙ ap (λ (x : List ℕ). string_bytes c.args.file.now ++ x) (sym (written-push escape c.loop-c.yielded c.in-Some.c))

pub returns : goal.returns
returns c =
    let all =
    YieldsList-end (YieldsList-from_chars c.args.text.now c.utf8.text cc) c.loop-c.yielded _ c.loop-c.yielded_by _ _
    c.in-None.is c.next.ensures.steps in
    c.loop-c.invariant
    ∙ ap (λ (x : List ℕ). string_bytes c.args.file.now ++ x)
    (written-chars escape c.args.text.now c.loop-c.yielded c.utf8.text all.0)
