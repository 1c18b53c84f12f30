use Rattle.std.proofs.Common.{◌∙◌, sym}
use Rattle.pl_plain.specs.FlatRows.{with_mark_of}
use Rattle.pl_plain.proofs.RowChanges.{changed_nowhere, changed_there}
use Rattle.pl_plain.proofs.flat.mark.mark_page.Goals as goal

pub returns-in-Some : goal.returns-in-Some
returns-in-Some c =
    changed_there c.args.id (with_mark_of c.args.mark) c.args.pages.now c.in-Some.index c.index-pages-index.result
    c.set_mark.new.self c.requires (sym c.page_index.ensures ∙ c.in-Some.is) c.set_mark.ensures

pub returns-in_default : goal.returns-in_default
returns-in_default c =
    changed_nowhere c.args.id (with_mark_of c.args.mark) c.args.pages.now
    (sym c.page_index.ensures ∙ c.in_default.is)
