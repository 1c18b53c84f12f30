use Rattle.std.proofs.Common.{◌∙◌, ap, take}
use Rattle.pl_words.proofs.TagListLaws.{once-firsts}
use Rattle.pl_words.specs.TagLists.{each_once}
use Rattle.pl_place.specs.QueryForm.{is_same_item}
use Rattle.pl_place.proofs.FirstsLemmas.{items_known, items_new}
use Rattle.pl_place.proofs.firsts.first_items.Goals as goal

pub loop-item-preserved-then-is_known_item : goal.loop-item-preserved-then-is_known_item
loop-item-preserved-then-is_known_item c =
    items_known c.args.told.now c.loop-item.items.items c.loop-item.item-index _ c.loop-item-test.true
    c.loop-item.invariant (rw c.deref.ensures.value at c.if-is_known_item.ensures)

pub loop-item-preserved : goal.loop-item-preserved
loop-item-preserved c =
    c.in_ok-push.ensures.items
    ∙ items_new c.args.told.now c.loop-item.items.items c.loop-item.item-index _ c.loop-item-test.true
    c.loop-item.invariant (rw c.deref.ensures.value at c.if-is_known_item.ensures)

pub returns-clause-form : goal.returns-clause-form
returns-clause-form c =
    ap (each_once is_same_item) (c.from.ensures ∙ c.loop-item.invariant)
    ∙ once-firsts is_same_item (take c.loop-item.item-index c.args.told.now)
