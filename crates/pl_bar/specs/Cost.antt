-- How many records the address bar reads where pages of the first tier are all that it offers.
use Rattle.std.specs.Prelude.{ℕ, pos, ◌+◌, ◌*◌, ◌≤◌, ◌&&◌, not, Bool, List, length}
use Rattle.std.specs.List.{filter, list_any, sum_by}
use Rattle.std.specs.Ordering.{int_eq}
use Rattle.pl_base.specs.declared.id.PageId.{PageId}
use Rattle.pl_base.specs.Fold.{folded}
use Rattle.pl_base.specs.Frecency.{frecency_of}
use Rattle.pl_base.specs.Store.{Store, Page}
use Rattle.pl_base.specs.Tree.{references}
use Rattle.pl_words.specs.Bar.{marks_of, words_of}
use Rattle.pl_bar.specs.AddressBar.{first_tier, offered, ranks_before}

-- the most records that are read for the items of a page
abbrev pub items_cost : Store → PageId → ℕ
items_cost store id = 16 * (1 + length (references store.items id))

-- the most records that are read for a page: of its row, and of its items
abbrev pub page_cost : Store → PageId → ℕ
page_cost store id = 16 * (2 + length (references store.items id))

-- the first tier alone has so many pages
abbrev pub FillsFirst : Store → List ℕ → ℕ → Type 0
FillsFirst store text most =
    most ≤ length (first_tier store (marks_of (folded text)) (words_of (folded text)))

-- the page comes, by frecency and then id, the greatest first, no later than the last of these
abbrev pub is_reached : Store → List Page → Page → Bool
is_reached store answered p = list_any (λ (q : Page). not (ranks_before store q p)) answered

-- its frecency is not 0
abbrev pub is_counted : Store → Page → Bool
is_counted store p = not (int_eq (frecency_of store p) (pos 0))

-- the pages that are gone through until the last of these is found
abbrev pub gone_through : Store → List Page → List Page
gone_through store answered =
    filter (λ (p : Page). is_counted store p && is_reached store answered p) store.pages

-- the most records that are read for the pages that are offered
abbrev pub offering_cost : Store → List ℕ → ℕ → ℕ
offering_cost store text most =
    sum_by (λ (p : Page). page_cost store p.id) (gone_through store (offered store text most))
