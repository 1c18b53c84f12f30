use Rattle.std.proofs.Common.{◌≡◌, ◌∙◌, ◌==◌, List, Option, Some, None, ap, is_some, refl, sym, true}
use Rattle.std.specs.Option.{option_map}
use Rattle.std.proofs.lemmas.Bool.{false≢true}
use Rattle.pl_base.specs.declared.id.ItemId.{ItemId}
use Rattle.pl_base.specs.declared.item.ItemRow.{ItemRow}
use Rattle.pl_base.specs.Store.{Item}
use Rattle.pl_base.specs.Tree.{has_item, item_at, item_row}
use Rattle.pl_base.proofs.LookUps.{found_some}
use Rattle.pl_linked.specs.Linked.{kept_of}
use Rattle.trials_linked.proofs.opening.is_there.Goals as goal

-- an item whose row is told is there
there : (items : List Item) (id : ItemId) (o : Option ItemRow)
    → o ≡ option_map (item_row items) (item_at items id) → is_some o ≡ true → has_item items id ≡ true
there items id o is some = choose (item_at items id) refl is
  where
    choose : (at : Option Item) → item_at items id ≡ at → o ≡ option_map (item_row items) at
        → has_item items id ≡ true
    choose None at is = absurd (false≢true (sym (ap is_some is) ∙ some))
    choose (Some i) at is = found_some (λ (i : Item). i.id.0 == id.0) items i at

pub returns : goal.returns
returns g c told =
    there (kept_of c.args.linked.now).items c.args.item c.item_at.result c.item_at.ensures.row
    (sym c.is_some.ensures ∙ told)
