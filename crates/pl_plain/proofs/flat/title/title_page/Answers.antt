use Rattle.std.proofs.Common.{◌∙◌, refl, sym}
use Rattle.pl_plain.specs.FlatRows.{with_title_of}
use Rattle.pl_plain.proofs.RowChanges.{changed_nowhere, changed_there}
use Rattle.pl_plain.proofs.flat.title.title_page.Goals as goal

pub returns-in-Some : goal.returns-in-Some
returns-in-Some c =
    changed_there c.args.id (with_title_of c.args.title) c.args.pages.now c.in-Some.index c.index-pages-index.result _
    c.requires (sym c.page_index.ensures ∙ c.in-Some.is) refl

pub returns-in_default : goal.returns-in_default
returns-in_default c =
    changed_nowhere c.args.id (with_title_of c.args.title) c.args.pages.now
    (sym c.page_index.ensures ∙ c.in_default.is)
