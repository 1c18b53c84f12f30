use Rattle.std.proofs.Common.{◌∙◌, ap, bytes_eq, sym}
use Rattle.std.specs.Option.{option_copied}
use Rattle.pl_base.specs.declared.view.View.{View}
use Rattle.pl_known.proofs.KnownPages.{found_by_id, none_found}
use Rattle.pl_known.proofs.known.Known.find.Goals as goal

pub returns-in_err-find : goal.returns-in_err-find
returns-in_err-find c =
    let views = c.args.self.now.views.items in
    ap option_copied c.from_residual.ensures
    ∙ sym (none_found (λ (v : View). bytes_eq v.url c.args.url.now) views
    (sym (c.find.ensures views c.requires.urls) ∙ c.in_err-find.was))

pub returns : goal.returns
returns c =
    let views = c.args.self.now.views.items in
    c.view.ensures
    ∙ found_by_id (λ (v : View). bytes_eq v.url c.args.url.now) c.in_ok-find.field-0 views c.requires.order
    (sym (c.find.ensures views c.requires.urls) ∙ c.in_ok-find.was)
