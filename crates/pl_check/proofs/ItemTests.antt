-- The tests of items, and what a search by halves says of the pages that they have.
use Rattle.std.proofs.Common.{◌≡◌, ◌≢◌, ◌↔◌, ◌∙◌, ◌==◌, ◌||◌, ◌≤◌, ℕ, true, false, IsTrue, List}
use Rattle.std.proofs.Common.{[], ◌∷◌, Option, Some, None, Result, Ok, Err, ap, arith, get_or, length}
use Rattle.std.proofs.Common.{nat_le, inl, inr, refl, sym}
use Rattle.std.specs.List.{cons_option, list_any}
use Rattle.std.specs.Option.{IfSome, IsSome, option_map}
use Rattle.std.specs.List.Sorted.{IsBinarySearchResult, IsNonDecreasingBy, IsSearchInRange}
use Rattle.std.specs.declared.cmp.Ordering.TheVariants.{Less, Equal, Greater}
use Rattle.std.specs.Ordering.{nat_cmp, ordering_index}
use Rattle.std.specs.Result.{is_ok}
use Rattle.std.proofs.lemmas.Bool.{and_from, and_parts, cases_lt, eq-eqb, false≢true, le-leb, leb-true}
use Rattle.std.proofs.lemmas.Bool.{ne_eqb, not-true, true≢false}
use Rattle.std.proofs.lemmas.Bool.Decides.{nat_tests}
use Rattle.std.proofs.lemmas.Cmp.{ranked}
use Rattle.std.proofs.lemmas.List.Folds.{list_any_at, list_any_none}
use Rattle.pl_base.specs.declared.id.ItemId.{ItemId}
use Rattle.pl_base.specs.declared.id.PageId.{PageId}
use Rattle.pl_base.specs.declared.item.ItemKind.{ItemKind}
use Rattle.pl_base.specs.declared.item.ItemKind.TheVariants.{Bookmark, Folder, Separator}
use Rattle.pl_base.specs.Date.{last_date}
use Rattle.pl_base.specs.Good.{IsGoodItem, has_page_at}
use Rattle.pl_base.specs.Store.{Item, Page}
use Rattle.pl_base.specs.Tree.{is_page}
use Rattle.pl_stored.specs.declared.stored.StoredPage.{StoredPage}
use Rattle.pl_stored.specs.Stored.{Stored, stored_page, stored_store}
use Rattle.pl_base.specs.Good.{IsTitle}
use Rattle.pl_check.specs.Items.{AreReferences, has_own_page, is_bookmark, is_folder, is_good_item}
use Rattle.pl_check.specs.Items.{referenced_pages}
use Rattle.pl_base.proofs.ItemLookUps.{folder_kind}
use Rattle.pl_base.proofs.ListLaws.{list_any-map}

-- ---- pages

higher : (a b k : ℕ) → a ≤ b → ordering_index (nat_cmp a k) ≤ ordering_index (nat_cmp b k)
higher a b k le = grind (arith, nat_tests)

-- a search by key tells whether a number is among those that do not fall
pub any_searched : {X : Type 0} (n : X → ℕ) (xs : List X) → IsNonDecreasingBy n xs → (k : ℕ) (r : Result ℕ ℕ)
    → IsSearchInRange r (length xs) → IsBinarySearchResult (λ x. nat_cmp (n x) k) xs r
    → is_ok r ≡ list_any (λ x. n x == k) xs
any_searched n [] rises k (Ok i) range searched = absurd (omega arith)
any_searched n [] rises k (Err i) range searched = refl
any_searched n (x ∷ xs) rises k (Ok i) range searched =
    let at : n (get_or (x ∷ xs) i x) ≡ k = ranked (n (get_or (x ∷ xs) i x)) k Equal (sym (searched x)) in
    sym (list_any_at (λ y. n y == k) (x ∷ xs) i x range (eq-eqb (n (get_or (x ∷ xs) i x)) k at))
any_searched n (x ∷ xs) rises k (Err i) range searched =
    let parts = searched (λ a b d before within.
    higher (n (get_or (x ∷ xs) a d)) (n (get_or (x ∷ xs) b d)) k (rises a b d before within)) in
    sym (list_any_none (λ y. n y == k) (x ∷ xs) (λ j d within.
    ne_eqb (n (get_or (x ∷ xs) j d)) k
    (λ same.
    elim (cases_lt j i) [
      | inl before ↦ omega (arith, ranked (n (get_or (x ∷ xs) j d)) k Less (sym (parts.0 j d (omega arith) before)))
      | inr behind ↦ omega (arith, ranked (n (get_or (x ∷ xs) j d)) k Greater (sym (parts.1 j d behind within)))
    ])))

-- the numbers of the pages are those that the items have
pub referenced : (items : List Item) → AreReferences items (referenced_pages items)
referenced [] page = refl
referenced (i ∷ items) page = choose i.page (referenced items page)
  where
    choose : (own : Option PageId)
        → list_any (λ n. n == page.0) (referenced_pages items) ≡ list_any (λ (j : Item). is_page page j.page) items
        → list_any (λ n. n == page.0) (cons_option (option_map (λ (p : PageId). p.0) own) (referenced_pages items))
        ≡ (is_page page own || list_any (λ (j : Item). is_page page j.page) items)
    choose None rest = rest
    choose (Some p) rest = ap (λ b. (p.0 == page.0) || b) rest

-- ---- items

pub bookmark_kind : (k : ItemKind) → is_bookmark k ≡ true → k ≡ Bookmark
bookmark_kind Bookmark h = refl
bookmark_kind Folder h = absurd (false≢true h)
bookmark_kind Separator h = absurd (false≢true h)

-- the page is there
abbrev IsThere : List StoredPage → PageId → Type 0
IsThere pages id = list_any (λ (p : StoredPage). p.id.0 == id.0) pages ≡ true

own_page-to : (pages : List StoredPage) (kind : ItemKind) (page : Option PageId) → has_own_page pages kind page ≡ true
    → (IsSome page ↔ (kind ≡ Bookmark)) × IfSome page (IsThere pages)
own_page-to pages kind None h = (
  (λ some. absurd (false≢true some), λ same. absurd (true≢false (ap is_bookmark (sym same) ∙ not-true _ h))),
  tt,
)
own_page-to pages kind (Some page) h =
    let parts = and_parts (is_bookmark kind) (list_any (λ (p : StoredPage). p.id.0 == page.0) pages) h in
    ((λ some. bookmark_kind kind parts.0, λ same. refl), parts.1)

own_page-from : (pages : List StoredPage) (kind : ItemKind) (page : Option PageId) → IsSome page ↔ (kind ≡ Bookmark)
    → IfSome page (IsThere pages) → has_own_page pages kind page ≡ true
own_page-from pages Bookmark None own there = absurd (false≢true (own.1 refl))
own_page-from pages Folder None own there = refl
own_page-from pages Separator None own there = refl
own_page-from pages kind (Some page) own there =
    and_from (is_bookmark kind) (list_any (λ (p : StoredPage). p.id.0 == page.0) pages)
    (ap is_bookmark (own.0 refl)) there

-- a list with an element is not empty
pub not_empty : {X : Type 0} (x : X) (xs : List X) → (length (x ∷ xs) == 0) ≡ false
not_empty x xs = ne_eqb (length (x ∷ xs)) 0 (λ same. omega (arith, same))

folder-to : (ids : List ItemId) (kind : ItemKind) → ((length ids == 0) || is_folder kind) ≡ true → ids ≢ []
    → kind ≡ Folder
folder-to [] kind h some = absurd (some refl)
folder-to (id ∷ ids) kind h some =
    folder_kind is_folder refl refl kind (sym (ap (λ b. b || is_folder kind) (not_empty id ids)) ∙ h)

folder-from : (ids : List ItemId) (kind : ItemKind) → (ids ≢ [] → kind ≡ Folder)
    → ((length ids == 0) || is_folder kind) ≡ true
folder-from [] kind h = refl
folder-from (id ∷ ids) kind h =
    ap (λ b. b || is_folder kind) (not_empty id ids) ∙ ap is_folder (h (λ none. absurd (cc)))

-- the page is there in the store too
there-to : (rows : Stored) (page : Option PageId) → IfSome page (IsThere rows.pages)
    → IfSome page (λ id. IsTrue (has_page_at (stored_store rows) id))
there-to rows None there = tt
there-to rows (Some id) there = list_any-map (λ (p : Page). p.id.0 == id.0) stored_page rows.pages ∙ there

there-from : (rows : Stored) (page : Option PageId) → IfSome page (λ id. IsTrue (has_page_at (stored_store rows) id))
    → IfSome page (IsThere rows.pages)
there-from rows None there = tt
there-from rows (Some id) there = sym (list_any-map (λ (p : Page). p.id.0 == id.0) stored_page rows.pages) ∙ there

pub item-to : (rows : Stored) (i : Item) → IsTitle i.title → is_good_item rows.pages i ≡ true
    → IsGoodItem (stored_store rows) i
item-to rows i short h =
    let last = and_parts _ ((length i.children == 0) || is_folder i.kind) h in
    let third = and_parts _ (has_own_page rows.pages i.kind i.page) last.0 in
    let dates = and_parts (nat_le i.added.0 last_date) (nat_le i.modified.0 last_date) third.0 in
    let own = own_page-to rows.pages i.kind i.page third.1 in
    record {
      title = short;
      added = leb-true i.added.0 last_date dates.0;
      modified = leb-true i.modified.0 last_date dates.1;
      bookmark = own.0;
      page = there-to rows i.page own.1;
      children = folder-to i.children i.kind last.1;
    }

pub item-from : (rows : Stored) (i : Item) → IsGoodItem (stored_store rows) i → is_good_item rows.pages i ≡ true
item-from rows i h =
    and_from _ ((length i.children == 0) || is_folder i.kind)
    (and_from _ (has_own_page rows.pages i.kind i.page)
    (and_from (nat_le i.added.0 last_date) (nat_le i.modified.0 last_date) (le-leb i.added.0 last_date h.added)
    (le-leb i.modified.0 last_date h.modified))
    (own_page-from rows.pages i.kind i.page h.bookmark (there-from rows i.page h.page)))
    (folder-from i.children i.kind h.children)
