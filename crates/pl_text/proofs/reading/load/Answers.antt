use Rattle.std.proofs.Common.{◌∙◌, ap, subst, sym}
use Rattle.std.specs.Str.{IsUtf8}
use Rattle.pl_text.proofs.reading.load.Goals as goal

pub unreachable-requires : goal.unreachable-requires
unreachable-requires g c =
    let has = c.requires.text in
    let same = c.in_ok-bytes.ensures.text has.0 has.1 in
    let ok = c.in-Err.ensures.succeeds (subst IsUtf8 (sym same) (c.requires.utf8 has.0 has.1)) in
    cc

pub returns-clause-text : goal.returns-clause-text
returns-clause-text g c text holds =
    c.from.ensures ∙ ap (λ v. v.items) c.in-Ok.ensures.ok ∙ c.in_ok-bytes.ensures.text text holds
