use Rattle.std.proofs.Common.{◌∙◌, ap, sym}
use Rattle.pl_base.specs.declared.item.ItemRow.{ItemRow}
use Rattle.pl_place.specs.declared.sort.SortKey.{SortKey}
use Rattle.pl_marked.specs.declared.found.Key.TheVariants.{Number}
use Rattle.pl_marked.specs.Found.{key_value}
use Rattle.pl_marked.proofs.found.key_value.Goals as goal

pub returns-in-Added : goal.returns-in-Added
returns-in-Added g c i at =
    ap (λ (r : ItemRow). Number r.added.0) (c.item_row.ensures i at)
    ∙ ap (λ (key : SortKey). key_value key c.args.view.now i) (sym c.in-Added.is)

pub returns-in-Modified : goal.returns-in-Modified
returns-in-Modified g c i at =
    ap (λ (r : ItemRow). Number r.modified.0) (c.item_row-in-Modified.ensures i at)
    ∙ ap (λ (key : SortKey). key_value key c.args.view.now i) (sym c.in-Modified.is)
