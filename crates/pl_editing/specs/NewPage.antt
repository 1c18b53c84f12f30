-- A page that was made with an item, and what is computed of it.
use Rattle.std.specs.Prelude.{◌≡◌, Bool, true, false, IsTrue}
use Rattle.std.specs.List.{All}
use Rattle.pl_base.specs.declared.id.PageId.{PageId}
use Rattle.pl_base.specs.declared.row.Mark.{Mark}
use Rattle.pl_base.specs.Frecency.{unvisited_frecency}
use Rattle.pl_base.specs.Good.{has_page_at, is_visited}
use Rattle.pl_base.specs.Marks.{is_referenced}
use Rattle.pl_base.specs.Store.{Page, Store}

-- the page is there, has an item and no visit, and was never typed
pub record IsNew (store : Store) (page : PageId) : Type 0 where
  pub there : IsTrue (has_page_at store page)
  pub referenced : IsTrue (is_referenced store page)
  pub unvisited : is_visited store page ≡ false
  pub untyped : All (λ (p : Page). p.id ≡ page → p.typed ≡ false) store.pages

-- its mark, by whether it is a query
abbrev pub new_mark : Bool → Mark
new_mark is_place =
    record {
      frecency = unvisited_frecency true false is_place;
      count = 0;
      typed = false;
      hidden = is_place;
    }
