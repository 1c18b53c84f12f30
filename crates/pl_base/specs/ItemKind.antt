-- What an item of the bookmark tree is: the item types of Mozilla's nsINavBookmarksService, by
-- their numbers.
use Rattle.std.specs.Prelude.{ℕ, List, [], ◌∷◌, ◌==◌, Option}
use Rattle.std.specs.List.{find}
use Rattle.pl_base.specs.declared.item.ItemKind.{ItemKind}
use Rattle.pl_base.specs.declared.item.ItemKind.TheVariants.{Bookmark, Folder, Separator}

-- the number of a kind
abbrev pub item_kind_number : ItemKind → ℕ
item_kind_number Bookmark = 1
item_kind_number Folder = 2
item_kind_number Separator = 3

-- all kinds
abbrev pub item_kinds : List ItemKind
item_kinds = Bookmark ∷ Folder ∷ Separator ∷ []

-- the kind with this number
abbrev pub item_kind_at : ℕ → Option ItemKind
item_kind_at n = find (λ k. item_kind_number k == n) item_kinds
