use Rattle.std.proofs.Common.{◌≡◌, ◌∙◌, Some, false, ap, subst, sym}
use Rattle.std.specs.String.{string_bytes}
use Rattle.std.specs.Str.{IsUtf8}
use Rattle.std.proofs.lemmas.Str.{IsUtf8-string_bytes}
use Rattle.pl_script.specs.Script.{unescaped}
use Rattle.pl_script.proofs.Escapes.{text_of-utf8, text_of-not_utf8}
use Rattle.pl_script.proofs.field.text.Goals as goal

pub returns-in-Ok : goal.returns-in-Ok
returns-in-Ok c =
    let read : Some c.in-Some.bytes.items ≡ unescaped false c.args.field.now =
    rw c.in-Some.is at c.in_ok-bytes.ensures in
    let same : string_bytes c.in-Ok.text ≡ c.in-Some.bytes.items = ap (λ v. v.items) c.in-Ok.ensures.ok in
    let utf8 = subst IsUtf8 same (IsUtf8-string_bytes c.in-Ok.text) in
    ap Some (c.from.ensures ∙ same) ∙ sym (text_of-utf8 c.args.field.now c.in-Some.bytes.items read utf8)

pub returns : goal.returns
returns c =
    let read : Some c.in-Some.bytes.items ≡ unescaped false c.args.field.now =
    rw c.in-Some.is at c.in_ok-bytes.ensures in
    let other : ¬ (IsUtf8 c.in-Some.bytes.items) = λ utf8. let ok = c.in-Err.ensures.succeeds utf8 in cc in
    sym (text_of-not_utf8 c.args.field.now c.in-Some.bytes.items read other)
