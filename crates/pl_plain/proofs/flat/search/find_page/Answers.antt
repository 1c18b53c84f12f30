use Rattle.std.proofs.Common.{◌∙◌, ◌==◌, ap, sym}
use Rattle.std.specs.Option.{option_copied}
use Rattle.pl_plain.specs.declared.flat.row.FlatPage.{FlatPage}
use Rattle.pl_base.proofs.Searches.{found_at, got_at, none_at}
use Rattle.pl_plain.proofs.flat.search.find_page.Goals as goal

pub returns-in_err-page_index : goal.returns-in_err-page_index
returns-in_err-page_index c =
    ap option_copied c.from_residual.ensures
    ∙ none_at (λ (p : FlatPage). p.id.0 == c.args.id.0) c.args.pages.now
    (sym c.page_index.ensures ∙ c.in_err-page_index.was)

pub returns : goal.returns
returns c =
    got_at c.args.pages.now c.in_ok-page_index.field-0 c.get.result c.get.ensures.lookup.3
    ∙ found_at (λ (p : FlatPage). p.id.0 == c.args.id.0) c.args.pages.now c.in_ok-page_index.field-0
    (sym c.page_index.ensures ∙ c.in_ok-page_index.was)
