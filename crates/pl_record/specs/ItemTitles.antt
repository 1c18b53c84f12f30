-- An item with another title.
use Rattle.std.specs.Prelude.{ℕ, List}
use Rattle.pl_base.specs.declared.id.ItemId.{ItemId}
use Rattle.pl_base.specs.Store.{Item}
use Rattle.pl_base.specs.Tree.{with_changed}

-- the items where this one has another title, and its old modified date
abbrev pub entitled : ItemId → List ℕ → List Item → List Item
entitled id title items = with_changed id (λ (i : Item). record i { title = title }) items
