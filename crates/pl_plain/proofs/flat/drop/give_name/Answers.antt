use Rattle.std.proofs.Common.{◌∙◌, ap, false, set, sym}
use Rattle.std.proofs.lemmas.List.Edits.{map_over_more}
use Rattle.pl_plain.specs.FlatRows.{renamed_row}
use Rattle.pl_plain.proofs.flat.drop.give_name.Goals as goal

pub loop-page-preserved : goal.loop-page-preserved
loop-page-preserved c =
    ap (set c.loop-page.page-items c.loop-page.page-index)
    (c.rename.ensures ∙ ap (renamed_row false c.args.last c.args.name) (sym c.page-item.is))
    ∙ map_over_more (renamed_row false c.args.last c.args.name) c.deref_mut-page-items.result.now
    c.loop-page.page-items c.loop-page.page-index c.page-item.result c.loop-page-test.true c.loop-page.invariant
    c.page-item.is
