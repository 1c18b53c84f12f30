use Rattle.std.proofs.Common.{◌∙◌, Some, None, ap, sym}
use Rattle.std.specs.Option.{option_copied}
use Rattle.pl_base.specs.Visiting.{find_page}
use Rattle.pl_told.proofs.FoundPage.{found_alike, none_found, some_found}
use Rattle.pl_told.proofs.pages.page.Goals as goal

pub returns-in_default : goal.returns-in_default
returns-in_default c = λ store knows.
    none_found store (find_page c.args.url.now store.pages)
    (found_alike store c.args.known.now.views.items c.args.url.now c.text.result.now None knows.views
    c.text.ensures.value (sym (ap option_copied c.in_default.is) ∙ c.find.ensures))

pub returns : goal.returns
returns c = λ store knows.
    some_found store (find_page c.args.url.now store.pages) c.in-Some.view.now c.in_ok-told.field-0
    (found_alike store c.args.known.now.views.items c.args.url.now c.text.result.now (Some c.in-Some.view.now)
    knows.views c.text.ensures.value (sym (ap option_copied c.in-Some.is) ∙ c.find.ensures))
    (c.in_ok-told.ensures store)
