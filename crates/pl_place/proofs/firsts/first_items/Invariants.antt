use Rattle.std.proofs.Common.{◌≡◌, take}
use Rattle.pl_words.specs.TagLists.{firsts}
use Rattle.pl_place.specs.QueryForm.{is_same_item}
use Rattle.pl_place.proofs.firsts.first_items.Given as goal

abbrev pub invariant-loop-item : goal.invariant-loop-item
invariant-loop-item l = l.items.items ≡ firsts is_same_item (take l.item-index l.told)
