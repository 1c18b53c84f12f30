use Rattle.std.proofs.Common.{◌∙◌, arith, get_or, map, subst, sym}
use Rattle.std.proofs.lemmas.List.{take_all}
use Rattle.std.proofs.lemmas.Result.{err_from_is_err_and}
use Rattle.std.specs.List.{AllZip, zip}
use Rattle.std.specs.Vec.{vec_items}
use Rattle.pl_owned.proofs.OwnersTold.{at_itself, zip_more}
use Rattle.pl_reading.specs.Read.{IsItemOf, IsItemRead}
use Rattle.pl_reading.proofs.Zips.{paired_at, paired_long, zip_none}
use Rattle.pl_reading.proofs.items.stored_items.Goals as goal
use Rattle.pl_base.specs.declared.item.ItemKind.TheVariants.{Bookmark}
use Rattle.pl_rail.specs.Rails.{none}
use Rattle.pl_record.specs.declared.rows.Item.{Item}

abbrev no_item : Item
no_item =
    record {
      id = record { 0 = 0 };
      kind = Bookmark;
      parent = none;
      page = none;
      title = record { slot = none; length = 0 };
      added = record { 0 = 0 };
      modified = record { 0 = 0 };
    }

pub returns-in_err-stored_item-clause-none : goal.returns-in_err-stored_item-clause-none
returns-in_err-stored_item-clause-none g c told stored zip_is =
    let p =
    err_from_is_err_and c.from_residual-in_err-stored_item.result c.from_residual-in_err-stored_item.ensures.1 in
    let long = paired_long vec_items c.args.items.now c.args.children.now c.requires.as_many in
    zip_none (IsItemOf c.args.arena.now) (zip c.args.items.now (map vec_items c.args.children.now)) stored
    c.loop-index.index _ (omega (arith, long))
    (paired_at vec_items c.args.items.now c.args.children.now c.loop-index.index
    (get_or c.args.items.now c.loop-index.index no_item) c.index-children-index.result
    (omega arith) c.requires.as_many (at_itself c.args.items.now c.loop-index.index no_item (omega arith))
    c.index-children-index.is)
    (λ item is.
    c.in_err-stored_item.ensures.none (let both = sym p.1 ∙ told in let same = p.2 in cc) item
    (subst
    (λ slots. IsItemRead c.args.arena.now (get_or c.args.items.now c.loop-index.index no_item) slots item)
    (sym c.deref.ensures.value) is)) zip_is

pub loop-index-preserved : goal.loop-index-preserved
loop-index-preserved g c =
    let long = paired_long vec_items c.args.items.now c.args.children.now c.requires.as_many in
    rw c.in_ok-push.ensures.items
    (zip_more (IsItemOf c.args.arena.now) (zip c.args.items.now (map vec_items c.args.children.now))
    c.loop-index.stored.items c.loop-index.index _ c.in_ok-stored_item.field-0 (omega (arith, long))
    (paired_at vec_items c.args.items.now c.args.children.now c.loop-index.index
    (get_or c.args.items.now c.loop-index.index no_item) c.index-children-index.result
    (omega arith) c.requires.as_many (at_itself c.args.items.now c.loop-index.index no_item (omega arith))
    c.index-children-index.is) c.loop-index.invariant
    (subst
    (λ slots. IsItemRead c.args.arena.now (get_or c.args.items.now c.loop-index.index no_item) slots
    c.in_ok-stored_item.field-0) c.deref.ensures.value c.in_ok-stored_item.ensures.read))

pub returns-clause-read : goal.returns-clause-read
returns-clause-read g c =
    subst (λ rows. AllZip (IsItemOf c.args.arena.now) rows c.loop-index.stored.items)
    (take_all c.loop-index.index (zip c.args.items.now (map vec_items c.args.children.now))
    (omega (arith, paired_long vec_items c.args.items.now c.args.children.now c.requires.as_many)))
    c.loop-index.invariant
