use Rattle.std.proofs.Common.{◌∙◌, ap, sym}
use Rattle.std.specs.Option.{option_and_then}
use Rattle.pl_base.specs.declared.id.PageId.{PageId}
use Rattle.pl_known.specs.Known.{view_of}
use Rattle.pl_tagged.proofs.entries.entry_view.Goals as goal

pub returns : goal.returns
returns g c =
    c.view.ensures
    ∙ ap (option_and_then (λ (page : PageId). view_of page c.args.known.now.views.items))
    (sym c.in_ok-page.was ∙ c.entry_page.ensures)
