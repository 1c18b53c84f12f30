use Rattle.pl_keyed.proofs.PageLookups.{known_more}
use Rattle.pl_keyed.proofs.pages.Pages.put.Goals as goal

pub returns-clause-pages : goal.returns-clause-pages
returns-clause-pages c all p knows none at id =
    known_more c.args.self.now c.enter_url.new.urls c.enter_origin.new.origins c.args.url.now c.in_ok-parts.parts
    c.args.page c.in_ok-parts.ensures c.in_ok-enter_url.ensures.urls c.in_ok-other.ensures.origins all p knows none at
    id
