use Rattle.std.proofs.Common.{◌≡◌, ◌∙◌, ap, subst, sym}
use Rattle.std.specs.Str.{IsUtf8}
use Rattle.std.proofs.lemmas.Bool.{not-false}
use Rattle.std.proofs.lemmas.Slice.Eq.{bytes_eq-Decides}
use Rattle.pl_base.specs.Address.{canon}
use Rattle.trials_checks.proofs.tables.url_of.Goals as goal

pub returns : goal.returns
returns c =
    let same : c.in_ok-url.url ≡ c.args.address.now =
    sym c.text.ensures.value
    ∙ (bytes_eq-Decides c.text.result.now c.args.address.now).0 (not-false _ (sym c.ne.ensures ∙ c.if-ne.false)) in
    (subst IsUtf8 (sym same) c.utf8.address, ap canon same ∙ c.in_ok-url.ensures.url)
