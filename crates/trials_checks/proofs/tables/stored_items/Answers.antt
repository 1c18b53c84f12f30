use Rattle.std.proofs.lemmas.List.Elements.{All-push}
use Rattle.pl_base.specs.Good.{IsTitle}
use Rattle.pl_base.specs.Store.{Item}
use Rattle.trials_checks.proofs.tables.stored_items.Goals as goal

pub loop-item-preserved : goal.loop-item-preserved
loop-item-preserved c =
    rw c.in_ok-push.ensures.items
    (All-push (λ (i : Item). IsTitle i.title) c.loop-item.rows.items c.in_ok-stored_item.field-0
    c.loop-item.invariant c.in_ok-stored_item.ensures)
