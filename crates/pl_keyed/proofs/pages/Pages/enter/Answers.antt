use Rattle.std.proofs.Common.{◌≡◌, ◌∙◌, None, ap, sym}
use Rattle.pl_base.specs.Visiting.{find_page}
use Rattle.pl_keyed.specs.KnownPages.{page_of_url}
use Rattle.pl_keyed.proofs.PageLookups.{known_more, knows_with, not_found}
use Rattle.pl_keyed.proofs.pages.Pages.enter.Goals as goal

pub returns-clause-pages : goal.returns-clause-pages
returns-clause-pages c all p knows at id =
    let none : find_page c.args.url.now all ≡ None =
    not_found all c.args.url.now
    (sym c.in_default.is ∙ c.in_ok-page.ensures.known ∙ ap (page_of_url c.args.self.now.urls) c.text.ensures.value
    ∙ knows.urls c.args.url.now) in
    knows_with _ all p c.args.url.now at none
    (known_more c.args.self.now c.enter_url.new.urls c.enter_origin.new.origins c.args.url.now c.in_ok-parts.parts
    c.args.next c.in_ok-parts.ensures.parts (rw c.text.ensures.value at c.in_ok-page.ensures.urls)
    c.in_ok-other.ensures.origins all p knows none at id)
