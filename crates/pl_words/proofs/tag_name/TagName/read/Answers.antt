use Rattle.std.proofs.Common.{◌∙◌, subst, sym}
use Rattle.std.proofs.lemmas.Bool.{true≢false}
use Rattle.pl_base.specs.Good.{IsTagName}
use Rattle.pl_words.proofs.TagNames.{trimmed_is}
use Rattle.pl_words.proofs.TagTests.{no_tag_is_named, tag_is_named}
use Rattle.pl_words.proofs.tag_name.TagName.read.Goals as goal

pub returns-then-not-is_tag_name-clause-bad : goal.returns-then-not-is_tag_name-clause-bad
returns-then-not-is_tag_name-clause-bad c _ =
    let same = trimmed_is c.args.text.now c.trim_ascii-name.result.now c.trim_ascii-name.ensures.value in
    no_tag_is_named c.args.text.now
    (λ tag. true≢false
    (sym (c.is_tag_name.ensures.1 (subst IsTagName (sym same) tag)) ∙ c.if-not-is_tag_name.true))

pub returns-in_err-of-clause-no_memory : goal.returns-in_err-of-clause-no_memory
returns-in_err-of-clause-no_memory c _ =
    subst IsTagName (trimmed_is c.args.text.now c.trim_ascii-name.result.now c.trim_ascii-name.ensures.value)
    (c.is_tag_name.ensures.0 c.if-not-is_tag_name.false)

pub returns-clause-trimmed : goal.returns-clause-trimmed
returns-clause-trimmed c =
    c.in_ok-of.ensures
    ∙ trimmed_is c.args.text.now c.trim_ascii-name.result.now c.trim_ascii-name.ensures.value

pub returns-clause-ok : goal.returns-clause-ok
returns-clause-ok c =
    tag_is_named c.args.text.now c.in_ok-of.field-0
    (c.in_ok-of.ensures
    ∙ trimmed_is c.args.text.now c.trim_ascii-name.result.now c.trim_ascii-name.ensures.value)
    (subst IsTagName (sym c.in_ok-of.ensures) (c.is_tag_name.ensures.0 c.if-not-is_tag_name.false))
