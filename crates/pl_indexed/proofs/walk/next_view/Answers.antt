use Rattle.std.proofs.Common.{◌∙◌, sym}
use Rattle.std.specs.Option.{option_copied}
use Rattle.pl_indexed.proofs.NextViews.{one_next}
use Rattle.pl_indexed.proofs.walk.next_view.Goals as goal

pub returns : goal.returns
returns c =
    let views = c.args.known.now.views.items in
    let ordered = c.requires.followed.order in
    c.view.ensures
    ∙ one_next c.args.order (option_copied c.args.behind) views ordered c.in_ok-page.page
    (sym c.in_ok-page.was ∙ c.next_page.ensures views ordered c.requires.followed.ranks)
