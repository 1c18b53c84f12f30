use Rattle.std.proofs.Common.{◌==◌, ◌∙◌, ap, false, is_some, sym, true}
use Rattle.pl_base.specs.declared.item.ItemRow.{ItemRow}
use Rattle.pl_base.specs.Rows.{Kept, store_of}
use Rattle.pl_base.specs.Store.{Item}
use Rattle.pl_base.specs.Tree.{item_row}
use Rattle.pl_base.proofs.LookUps.{found_where}
use Rattle.pl_query.proofs.MarksLatest.{dates_alike, entry_is, inside, outside}
use Rattle.pl_query.proofs.RowsShown.{item_is}
use Rattle.pl_query.proofs.mark_dates.with_item.Goals as goal

pub returns-then-is_some : goal.returns-then-is_some
returns-then-is_some g c i at =
    let kept : Kept = g.R.Rows.kept c.args.rows.now in
    sym (inside (store_of kept) c.args.dates i
    (entry_is (store_of kept) c.args.item i true at
    (ap is_some (sym c.tag_folder.ensures.folder) ∙ sym c.is_some.ensures ∙ c.if-is_some.true)))

pub unwrap-row-requires : goal.unwrap-row-requires
unwrap-row-requires g c =
    found_where (λ (i : Item). i.id.0 == c.args.item.0) (item_row (g.R.Rows.kept c.args.rows.now).items)
    (g.R.Rows.kept c.args.rows.now).items c.item_at.result c.requires c.item_at.ensures.row

pub returns : goal.returns
returns g c i at =
    let kept : Kept = g.R.Rows.kept c.args.rows.now in
    dates_alike c.args.dates i c.later.result c.later-2.result c.unwrap-row.result
    (c.later.ensures) (c.later-2.ensures)
    (ap (λ (r : ItemRow). r.added.0)
    (item_is kept.items c.args.item i c.unwrap-row.result at (sym c.unwrap-row.ensures ∙ c.item_at.ensures.row)))
    (ap (λ (r : ItemRow). r.modified.0)
    (item_is kept.items c.args.item i c.unwrap-row.result at (sym c.unwrap-row.ensures ∙ c.item_at.ensures.row)))
    ∙ sym (outside (store_of kept) c.args.dates i
    (entry_is (store_of kept) c.args.item i false at
    (ap is_some (sym c.tag_folder.ensures.folder) ∙ sym c.is_some.ensures ∙ c.if-is_some.false)))
