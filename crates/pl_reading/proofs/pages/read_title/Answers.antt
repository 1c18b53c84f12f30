use Rattle.std.proofs.Common.{◌∙◌, ap, arith, subst, sym}
use Rattle.std.proofs.lemmas.Str.{IsUtf8-string_bytes}
use Rattle.std.specs.Str.{IsUtf8}
use Rattle.pl_reading.proofs.TextLaws.{is_text}
use Rattle.pl_reading.proofs.pages.read_title.Goals as goal

pub returns-in-Ok-clause-text : goal.returns-in-Ok-clause-text
returns-in-Ok-clause-text g c =
    is_text c.args.arena.now c.args.at c.in_ok-bytes.bytes.items c.from.result c.requires c.in_ok-bytes.ensures.text
    (c.from.ensures ∙ ap (λ v. v.items) c.in-Ok.ensures.ok)

pub returns-in-Ok-clause-title : goal.returns-in-Ok-clause-title
returns-in-Ok-clause-title g c =
    let is =
    is_text c.args.arena.now c.args.at c.in_ok-bytes.bytes.items c.from.result c.requires c.in_ok-bytes.ensures.text
    (c.from.ensures ∙ ap (λ v. v.items) c.in-Ok.ensures.ok) in (
      subst IsUtf8 (sym c.from.ensures) (IsUtf8-string_bytes c.in-Ok.text),
      omega (arith, is.size, c.if-at-gt-LONGEST_TITLE.false),
    )

pub returns-clause-none : goal.returns-clause-none
returns-clause-none g c not title is good =
    let same = c.in_ok-bytes.ensures.text title is.held in
    let ok = c.in-Err.ensures.succeeds (subst IsUtf8 (sym same) good.0) in
    absurd (cc)
