use Rattle.std.proofs.Common.{◌∙◌, ◌++◌, ap, append_assoc, sym}
use Rattle.std.proofs.lemmas.Iterator.{YieldsList-from_chars}
use Rattle.std.proofs.lemmas.Iterator.Consumers.{YieldsList-end}
use Rattle.std.specs.Prelude.{encode_utf8, encode_utf8_all}
use Rattle.std.specs.String.{string_bytes}
use Rattle.pl_script.specs.Script.{escaped}
use Rattle.pl_words.proofs.WrittenBytes.{written-chars, written-push}
use Rattle.pl_script.proofs.Escapes.{written}
use Rattle.pl_script.proofs.field.push_chars.Goals as goal

pub loop-c-preserved : goal.loop-c-preserved
loop-c-preserved c =
    c.in_ok-push_char.ensures ∙ ap (λ front. front ++ escaped (encode_utf8 c.in-Some.c)) c.loop-c.invariant
    ∙ append_assoc (string_bytes c.args.written.now) (escaped (encode_utf8_all c.loop-c.yielded))
    (escaped (encode_utf8 c.in-Some.c))
    ∙ ap (λ more. string_bytes c.args.written.now ++ more) (sym (written-push written c.loop-c.yielded c.in-Some.c))

pub returns : goal.returns
returns c =
    let all =
    YieldsList-end (YieldsList-from_chars c.args.text.now c.utf8.text cc) c.loop-c.yielded _ c.loop-c.yielded_by _ _
    c.in-None.is c.next.ensures.steps in
    c.loop-c.invariant
    ∙ ap (λ more. string_bytes c.args.written.now ++ more)
    (written-chars written c.args.text.now c.loop-c.yielded c.utf8.text all.0)
