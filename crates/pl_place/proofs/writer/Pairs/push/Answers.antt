use Rattle.std.proofs.Common.{◌∙◌, [], ◌∷◌, ◌++◌, ap, arith}
use Rattle.std.specs.String.{string_bytes}
use Rattle.pl_place.specs.Canonical.{escaped, pair}
use Rattle.pl_place.proofs.Escapes.{escaped_by, pair_pushed}
use Rattle.pl_place.proofs.writer.Pairs.push.Goals as goal

pub returns : goal.returns
returns c =
    let name = c.in_ok-text.ensures.ok ∙ c.name.ensures in
    let equals = c.in_ok-push.ensures.ascii (omega arith) in
    let front = c.in_ok-push.ensures.bytes ∙ ap (λ x. string_bytes c.in_ok-text.text ++ x) equals
    ∙ ap (λ x. x ++ 61 ∷ []) name in
    let back = c.utf8_percent_encode.ensures.text ∙ escaped_by _ c.escaped_set.ensures c.args.value.now in
    let text =
    c.in_ok-append_to.ensures.ok ∙ ap (λ x. string_bytes c.push.new.self ++ x) back
    ∙ ap (λ x. x ++ escaped c.args.value.now) front in
    pair_pushed string_bytes _ _ _ c.args.key c.args.value.now c.in_ok-push-2.ensures.items text
    ∙ ap (λ x. x ++ pair c.args.key c.args.value.now ∷ []) c.self.view_is
