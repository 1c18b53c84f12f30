-- The pages that the address bar offers, and what is told of them.
use Rattle.std.proofs.Common.{◌≡◌, ◌∙◌, ◌&&◌, ◌++◌, ◌==◌, ℕ, ℤ, Bool, true, false, List, [], ◌∷◌, Option, Some, None}
use Rattle.std.proofs.Common.{ap, map, not, refl, subst, sym}
use Rattle.std.specs.List.{AllByRecursion, filter_map}
use Rattle.std.specs.Option.{IsSome, option_map}
use Rattle.std.proofs.lemmas.List.Elements.{filter_map-append}
use Rattle.pl_bar.specs.AddressBar.{all_match, candidates, first_tier, is_candidate, offered, ranks_before}
use Rattle.pl_bar.specs.AddressBar.{second_tier, tiers}
use Rattle.pl_base.specs.declared.id.PageId.{PageId}
use Rattle.pl_base.specs.declared.row.Mark.{Mark}
use Rattle.pl_base.specs.Fold.{folded}
use Rattle.pl_base.specs.Frecency.{frecency_of}
use Rattle.pl_base.specs.Rows.{IsRight, IsWellKept, Kept, KeptPage, has_page, mark_of, page_at, store_of}
use Rattle.pl_base.specs.Rows.{title_of, url_of}
use Rattle.pl_base.specs.Sorting.{sorted_by}
use Rattle.pl_base.specs.Store.{Page, Store}
use Rattle.pl_base.proofs.IdsLaws.{same_page}
use Rattle.pl_base.proofs.ListLaws.{all-filter, all_append, all_take, found_in, some_in, to_map, weaker}
use Rattle.pl_base.proofs.SortLaws.{all_sorted}
use Rattle.pl_base.proofs.LookUps.{found_passes, found_self}
use Rattle.pl_base.proofs.PageLaws.{pages_apart}
use Rattle.pl_marks.proofs.PageRows.{AreTold, right_mark, told_at}
use Rattle.pl_words.specs.Bar.{marks_of, words_of}
use Rattle.pl_words.specs.declared.bar_text.Marks.{Marks}
use Rattle.pl_step.specs.declared.reply.BarRow.{BarRow}
use Rattle.pl_step.specs.Step.{bar_row}

-- ---- a page

abbrev pub bar_row_with : PageId → ℤ → List ℕ → List ℕ → BarRow
bar_row_with id frecency url title = record { id = id; frecency = frecency; url = url; title = title }

-- what the rows tell of a page is what is told of one that is offered
pub row_told : (kept : Kept) (id : PageId) (p : KeptPage) (mark : Mark) (url title : List ℕ) → IsRight kept
    → page_at kept id ≡ Some p → Some mark ≡ option_map mark_of (page_at kept id) → Some url ≡ url_of kept id
    → Some title ≡ title_of kept id
    → bar_row_with id mark.frecency url title ≡ bar_row (store_of kept) p.page
row_told kept id p mark url title right at marks urls titles =
    let t : AreTold kept p mark url title = told_at kept id p mark url title at marks urls titles in
    let is : p.page.id ≡ id =
    same_page p.page.id id (found_passes (λ (q : KeptPage). q.page.id.0 == id.0) kept.pages p at) in
    let frecency : mark.frecency ≡ frecency_of (store_of kept) p.page =
    ap (λ (m : Mark). m.frecency) (t.mark_is ∙ right_mark kept id p right at) in
    rw (frecency, t.url_is, t.title_is, ← is) refl

-- what is told of the page with this id
abbrev pub row_at : Kept → PageId → Option BarRow
row_at kept id = option_map (λ (p : KeptPage). bar_row (store_of kept) p.page) (page_at kept id)

-- ---- the pages that are offered are pages of the store

-- the page is found by its id
abbrev pub IsFound : Kept → Page → Type 0
IsFound kept p = option_map (λ (q : KeptPage). q.page) (page_at kept p.id) ≡ Some p

all_found : (kept : Kept) → IsWellKept kept → AllByRecursion (IsFound kept) (store_of kept).pages
all_found kept h =
    to_map (IsFound kept) (λ (q : KeptPage). q.page) kept.pages
    (weaker (λ (q : KeptPage). page_at kept q.page.id ≡ Some q) (λ (q : KeptPage). IsFound kept q.page) kept.pages
    (λ q at. ap (option_map (λ (r : KeptPage). r.page)) at)
    (found_self (λ (q : KeptPage). q.page.id.0) kept.pages (pages_apart kept h)))

pub offered_found : (kept : Kept) (text : List ℕ) (most : ℕ) → IsWellKept kept
    → AllByRecursion (IsFound kept) (offered (store_of kept) text most)
offered_found kept text most h =
    let store : Store = store_of kept in
    let marks : Marks = marks_of (folded text) in
    let words : List (List ℕ) = words_of (folded text) in
    let before : Page → Page → Bool = ranks_before store in
    let first : List Page = first_tier store marks words in
    let second : List Page = second_tier store marks words in
    let all : AllByRecursion (IsFound kept) (candidates store marks) =
    all-filter (IsFound kept) (is_candidate store marks) store.pages (all_found kept h) in
    all_take (IsFound kept) most (tiers store marks words)
    (all_append (IsFound kept) (sorted_by before first) (sorted_by before second)
    (all_sorted before (IsFound kept) first
    (all-filter (IsFound kept) (all_match store marks words true) (candidates store marks) all))
    (all_sorted before (IsFound kept) second
    (all-filter (IsFound kept)
    (λ (p : Page). all_match store marks words false p && not (all_match store marks words true p))
    (candidates store marks) all)))

-- ---- the rows that are told

-- a page has this id
abbrev pub IsThere : Kept → PageId → Type 0
IsThere kept id = has_page kept id ≡ true

has_found : (kept : Kept) (p : Page) → IsFound kept p → IsThere kept p.id
has_found kept p found =
    some_in (λ (q : KeptPage). q.page.id.0 == p.id.0) kept.pages (choose (page_at kept p.id) found)
  where
    choose : (o : Option KeptPage) → option_map (λ (q : KeptPage). q.page) o ≡ Some p → IsSome o
    choose None none = absurd (cc)
    choose (Some q) some = refl

-- the ids of the pages that are offered are ids of the store
pub offered_there : (kept : Kept) (text : List ℕ) (most : ℕ) (ids : List PageId) → IsWellKept kept
    → ids ≡ map (λ (p : Page). p.id) (offered (store_of kept) text most) → AllByRecursion (IsThere kept) ids
offered_there kept text most ids h is =
    subst (AllByRecursion (IsThere kept)) (sym is)
    (to_map (IsThere kept) (λ (p : Page). p.id) (offered (store_of kept) text most)
    (weaker (IsFound kept) (λ (p : Page). IsThere kept p.id) (offered (store_of kept) text most) (has_found kept)
    (offered_found kept text most h)))

row_found : (kept : Kept) (p : Page) → IsFound kept p → row_at kept p.id ≡ Some (bar_row (store_of kept) p)
row_found kept p found = choose (page_at kept p.id) found
  where
    choose : (o : Option KeptPage) → option_map (λ (q : KeptPage). q.page) o ≡ Some p
        → option_map (λ (q : KeptPage). bar_row (store_of kept) q.page) o ≡ Some (bar_row (store_of kept) p)
    choose None none = absurd (cc)
    choose (Some q) some = ap (option_map (bar_row (store_of kept))) some

rows_of : (kept : Kept) (ps : List Page) → AllByRecursion (IsFound kept) ps
    → filter_map (row_at kept) (map (λ (p : Page). p.id) ps) ≡ map (bar_row (store_of kept)) ps
rows_of kept [] all = refl
rows_of kept (p ∷ ps) all =
    rw (row_found kept p all.0)
    (ap (λ (rows : List BarRow). bar_row (store_of kept) p ∷ rows) (rows_of kept ps all.1))

-- what is told of all that are offered
pub rows_offered : (kept : Kept) (text : List ℕ) (most : ℕ) (ids : List PageId) → IsWellKept kept
    → ids ≡ map (λ (p : Page). p.id) (offered (store_of kept) text most)
    → filter_map (row_at kept) ids ≡ map (bar_row (store_of kept)) (offered (store_of kept) text most)
rows_offered kept text most ids h is =
    ap (filter_map (row_at kept)) is
    ∙ rows_of kept (offered (store_of kept) text most) (offered_found kept text most h)

-- a row more
pub row_more : (kept : Kept) (rows more : List BarRow) (ids : List PageId) (id : PageId) (row : BarRow)
    → IsThere kept id → more ≡ rows ++ row ∷ []
    → ((p : KeptPage) → page_at kept id ≡ Some p → row ≡ bar_row (store_of kept) p.page)
    → rows ≡ filter_map (row_at kept) ids → more ≡ filter_map (row_at kept) (ids ++ id ∷ [])
row_more kept rows more ids id row has pushed told before =
    pushed
    ∙ ap (λ (rs : List BarRow). rs ++ row ∷ []) before
    ∙ ap (λ (rs : List BarRow). filter_map (row_at kept) ids ++ rs) last
    ∙ sym (filter_map-append (row_at kept) ids (id ∷ []))
  where
    choose : (o : Option KeptPage) → page_at kept id ≡ o → IsSome o
        → row ∷ [] ≡ filter_map (row_at kept) (id ∷ [])
    choose None at some = absurd (cc)
    choose (Some p) at some = rw at (ap (λ (r : BarRow). r ∷ []) (told p at))

    last : row ∷ [] ≡ filter_map (row_at kept) (id ∷ [])
    last = choose (page_at kept id) refl (found_in (λ (p : KeptPage). p.page.id.0 == id.0) kept.pages has)
