use Rattle.std.proofs.Common.{◌∙◌, ◌&&◌, Bool, ap, false, is_some, sym, true}
use Rattle.pl_base.specs.declared.item.ItemRow.{ItemRow}
use Rattle.pl_base.specs.Rows.{Kept, store_of}
use Rattle.pl_conditions.specs.Conditions.{in_times}
use Rattle.pl_query.proofs.MarksLatest.{entry_is}
use Rattle.pl_query.proofs.PageParts.{entry_unwanted, wanted_by}
use Rattle.pl_marked.proofs.ready.is_wanted.Goals as goal

pub returns-then-is_some : goal.returns-then-is_some
returns-then-is_some g c i at =
    let kept : Kept = g.R.Rows.kept c.args.rows.now in
    entry_unwanted (store_of kept) c.args.timed.now.query.now i
    (entry_is (store_of kept) c.args.item i true at
    (ap is_some (sym c.tag_folder.ensures.folder) ∙ sym c.is_some.ensures ∙ c.if-is_some.true))

pub returns-then-is_in_times : goal.returns-then-is_in_times
returns-then-is_in_times g c i at =
    let kept : Kept = g.R.Rows.kept c.args.rows.now in
    ap (λ (b : Bool). b && c.is_in_parents.result) (sym c.if-is_in_times.true)
    ∙ wanted_by (store_of kept) c.args.timed.now.query.now i c.is_in_times.result c.is_in_parents.result
    (entry_is (store_of kept) c.args.item i false at
    (ap is_some (sym c.tag_folder.ensures.folder) ∙ sym c.is_some.ensures ∙ c.if-is_some.false))
    (c.is_in_times.ensures (store_of kept) c.requires.timed
    ∙ ap (λ (r : ItemRow). in_times (store_of kept) c.args.timed.now.query.now r.added) (c.item_row.ensures i at))
    (c.is_in_parents.ensures i at)
