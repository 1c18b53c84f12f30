-- The pages that an import gives an item, and what it leaves as it was.
use Rattle.std.specs.Prelude.{◌≡◌, ◌++◌, ℕ, false, List, Bool, ◌&&◌, map, nat_le, pos}
use Rattle.std.specs.List.{All, filter, list_any}
use Rattle.pl_base.specs.declared.id.PageId.{PageId}
use Rattle.pl_base.specs.Rows.{HaveSums, Kept, KeptOrigin, KeptPage}
use Rattle.pl_base.specs.Store.{Item, Page, Store}
use Rattle.pl_base.specs.Tree.{is_page}

-- an item from this id on has the page
abbrev pub has_new_item : ℕ → List Item → PageId → Bool
has_new_item first items page =
    list_any (λ (i : Item). nat_le first i.id.0 && is_page page i.page) items

-- the pages that have an item more, by ascending id
abbrev pub gained : Store → Store → List PageId
gained old new =
    map (λ (p : Page). p.id)
    (filter (λ (p : Page). has_new_item old.ids.item new.items p.id) new.pages)

-- nothing was computed of a page yet
pub record IsBlank (p : KeptPage) : Type 0 where
  pub frecency : p.frecency ≡ pos 0
  pub count : p.count ≡ 0
  pub hidden : p.hidden ≡ false

-- there are pages and origins more, with nothing computed of them; day, visits and what was
-- computed of the others are as they were, and so the sums of the totals hold still
pub record Grows (old new : Kept) : Type 0 where
  pub day : new.day ≡ old.day
  pub visits : new.visits ≡ old.visits
  pub visit_ids : new.ids.visit ≡ old.ids.visit
  pub added : List KeptPage
  pub pages : new.pages ≡ old.pages ++ added
  pub blank : All IsBlank added
  pub opened : List KeptOrigin
  pub origins : new.origins ≡ old.origins ++ opened
  pub no_totals : All (λ (a : KeptOrigin). a.total ≡ 0) opened
  pub sums : HaveSums old → HaveSums new
