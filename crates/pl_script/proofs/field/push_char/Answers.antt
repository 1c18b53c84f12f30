use Rattle.std.proofs.Common.{◌∙◌, ◌++◌, ap, sym}
use Rattle.std.specs.String.{string_bytes}
use Rattle.pl_script.proofs.Escapes.{escaped-plain}
use Rattle.pl_script.proofs.field.push_char.Goals as goal

pub returns-in_ok-push-3 : goal.returns-in_ok-push-3
returns-in_ok-push-3 c =
    c.in_ok-push-3.ensures.bytes
    ∙ ap (λ more. string_bytes c.args.written.now ++ more)
    (sym (escaped-plain c.args.c (sym c.in_default.ensures)))
