use Rattle.std.proofs.Common.{◌∙◌, Err, ap, not, subst, sym}
use Rattle.std.proofs.lemmas.Bool.{not-false, true≢false}
use Rattle.std.proofs.lemmas.Result.{err_from_is_err_and}
use Rattle.std.proofs.lemmas.Slice.Eq.{bytes_eq-Decides}
use Rattle.std.specs.Str.{IsUtf8}
use Rattle.pl_reading.proofs.TextLaws.{is_text, other_url, refused_url}
use Rattle.pl_reading.proofs.pages.read_url.Goals as goal

pub returns-in_default-clause-none : goal.returns-in_default-clause-none
returns-in_default-clause-none g c not url is good =
    c.in_default.ensures.cases.0
    (subst IsUtf8 (sym (c.deref.ensures.value ∙ c.in_ok-bytes.ensures.text url is.held)) good.0)

pub returns-in_err-url-clause-none : goal.returns-in_err-url-clause-none
returns-in_err-url-clause-none g c told url is good =
    let p = err_from_is_err_and c.from_residual-in_err-url.result c.from_residual-in_err-url.ensures.1 in
    refused_url c.in-Ok.text.now url c.in_err-url.field-0.0 p.0 (λ bad. c.in_err-url.ensures.bad_url (ap Err bad))
    (c.in-Ok.ensures.cases.0 ∙ c.deref.ensures.value ∙ c.in_ok-bytes.ensures.text url is.held) good p.2
    (let both = sym p.1 ∙ told in cc)

pub returns-then-ne-clause-none : goal.returns-then-ne-clause-none
returns-then-ne-clause-none g c told url is good =
    let same =
    other_url c.in-Ok.text.now url c.in_ok-url.url c.in_ok-url.ensures.url
    (c.in-Ok.ensures.cases.0 ∙ c.deref.ensures.value ∙ c.in_ok-bytes.ensures.text url is.held) good in
    true≢false
    (sym c.if-ne.true ∙ c.ne.ensures
    ∙ ap not ((bytes_eq-Decides c.text.result.now c.in-Ok.text.now).1 (c.text.ensures.value ∙ same)))

pub returns-clause-text : goal.returns-clause-text
returns-clause-text g c =
    is_text c.args.arena.now c.args.at c.in_ok-bytes.bytes.items c.in_ok-url.url c.requires c.in_ok-bytes.ensures.text
    (sym c.text.ensures.value
    ∙ (bytes_eq-Decides c.text.result.now c.in-Ok.text.now).0 (not-false _ (sym c.ne.ensures ∙ c.if-ne.false))
    ∙ c.in-Ok.ensures.cases.0 ∙ c.deref.ensures.value)
