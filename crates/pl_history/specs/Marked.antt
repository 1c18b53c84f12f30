-- What gives a page a bookmark or a tag.
use Rattle.std.specs.Prelude.{ℕ, Bool, false, List, Some}
use Rattle.std.specs.Option.{is_some}
use Rattle.pl_base.specs.declared.date.Micros.{Micros}
use Rattle.pl_base.specs.declared.id.PageId.{PageId}
use Rattle.pl_base.specs.declared.item.ItemKind.TheVariants.{Bookmark}
use Rattle.pl_base.specs.Store.{Item}
use Rattle.pl_tree.specs.declared.new_item.NewItem.{NewItem}
use Rattle.pl_tree.specs.Tagged.{tag_entry}
use Rattle.pl_history.specs.declared.find.Target.{Target}
use Rattle.pl_history.specs.declared.find.Target.TheVariants.{Known, New}

-- a new bookmark of a page
abbrev pub page_item : PageId → List ℕ → Micros → NewItem
page_item page title date =
    record { kind = Bookmark; title = title; page = Some page; date = date }

-- the page is known and has the tag
abbrev pub has_tag : Target → List ℕ → List Item → Bool
has_tag (Known page) name items = is_some (tag_entry page name items)
has_tag (New origin) name items = false
