use Rattle.pl_keyed.proofs.PageLookups.{known_more}
use Rattle.pl_keyed.proofs.pages.Pages.add.Goals as goal

pub returns : goal.returns
returns c =
    known_more c.args.self.now c.enter_url.new.urls c.enter_origin.new.origins c.args.url.now c.args.parts.now
    c.args.page c.requires.parts c.in_ok-enter_url.ensures.urls c.in_ok-enter_origin.ensures.origins
