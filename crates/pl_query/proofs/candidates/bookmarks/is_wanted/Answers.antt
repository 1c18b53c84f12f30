use Rattle.std.proofs.Common.{◌==◌, ◌∙◌, ◌&&◌, Bool, ap, false, is_some, sym, true}
use Rattle.pl_base.specs.declared.item.ItemRow.{ItemRow}
use Rattle.pl_base.specs.Rows.{Kept, store_of}
use Rattle.pl_base.specs.Store.{Item}
use Rattle.pl_base.specs.Tree.{item_row}
use Rattle.pl_base.proofs.LookUps.{found_where}
use Rattle.pl_conditions.specs.Conditions.{in_times}
use Rattle.pl_query.proofs.MarksLatest.{entry_is}
use Rattle.pl_query.proofs.PageParts.{entry_unwanted, wanted_by}
use Rattle.pl_query.proofs.RowsShown.{item_is}
use Rattle.pl_query.proofs.candidates.bookmarks.is_wanted.Goals as goal

pub returns-then-is_some : goal.returns-then-is_some
returns-then-is_some g c i at =
    let kept : Kept = g.R.Rows.kept c.args.rows.now in
    entry_unwanted (store_of kept) c.args.asked.now.query.now i
    (entry_is (store_of kept) c.args.item i true at
    (ap is_some (sym c.tag_folder.ensures.folder) ∙ sym c.is_some.ensures ∙ c.if-is_some.true))

pub unwrap-row-requires : goal.unwrap-row-requires
unwrap-row-requires g c =
    found_where (λ (i : Item). i.id.0 == c.args.item.0) (item_row (g.R.Rows.kept c.args.rows.now).items)
    (g.R.Rows.kept c.args.rows.now).items c.item_at.result c.requires.item c.item_at.ensures.row

pub returns-then-is_in_times : goal.returns-then-is_in_times
returns-then-is_in_times g c i at =
    let kept : Kept = g.R.Rows.kept c.args.rows.now in
    ap (λ (b : Bool). b && c.is_in_parents.result) (sym c.if-is_in_times.true)
    ∙ wanted_by (store_of kept) c.args.asked.now.query.now i c.is_in_times.result c.is_in_parents.result
    (entry_is (store_of kept) c.args.item i false at
    (ap is_some (sym c.tag_folder.ensures.folder) ∙ sym c.is_some.ensures ∙ c.if-is_some.false))
    (c.is_in_times.ensures (store_of kept) c.requires.asked
    ∙ ap (λ (r : ItemRow). in_times (store_of kept) c.args.asked.now.query.now r.added)
    (item_is kept.items c.args.item i c.unwrap-row.result at (sym c.unwrap-row.ensures ∙ c.item_at.ensures.row)))
    (c.is_in_parents.ensures i at)
