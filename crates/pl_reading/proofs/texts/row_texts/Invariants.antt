use Rattle.std.proofs.Common.{◌≡◌, ◌++◌, map, take}
use Rattle.std.specs.List.{flat_map}
use Rattle.pl_record.specs.declared.rows.Item.{Item}
use Rattle.pl_reading.specs.Texts.{page_texts}
use Rattle.pl_reading.proofs.texts.row_texts.Given as goal

abbrev pub invariant-loop-item : goal.invariant-loop-item
invariant-loop-item l =
    l.texts.items
    ≡ flat_map page_texts l.places ++ map (λ (i : Item). i.title) (take l.item-index l.items)
