-- What the rows tell of the page of an item.
use Rattle.std.proofs.Common.{◌≡◌, ◌∙◌, ◌==◌, ℕ, Bool, true, false, IsTrue, List, [], ◌∷◌, Option, Some, None}
use Rattle.std.proofs.Common.{IfSome, find, if◌then◌else◌, map, refl, subst, sym}
use Rattle.std.specs.Option.{option_map}
use Rattle.std.proofs.lemmas.List.Elements.{recursion_from_All}
use Rattle.pl_base.specs.declared.id.ItemId.{ItemId}
use Rattle.pl_base.specs.declared.id.PageId.{PageId}
use Rattle.pl_base.specs.declared.item.ItemRow.{ItemRow}
use Rattle.pl_base.specs.Good.{IsGood, IsGoodItem, has_page_at}
use Rattle.pl_base.specs.Rows.{Kept, KeptPage, has_page, store_of, url_of}
use Rattle.pl_base.specs.Store.{Item, Page, page_url}
use Rattle.pl_base.specs.Tree.{item_at, item_row}
use Rattle.pl_base.proofs.ListLaws.{list_any-map}
use Rattle.pl_base.proofs.LookUps.{found_holds}

url_found : (pages : List KeptPage) (id : PageId)
    → option_map (λ (p : Page). p.url) (find (λ (p : Page). p.id.0 == id.0) (map (λ (p : KeptPage). p.page) pages))
    ≡ option_map (λ (p : KeptPage). p.page.url) (find (λ (p : KeptPage). p.page.id.0 == id.0) pages)
url_found [] id = refl
url_found (p ∷ pages) id = choose (p.page.id.0 == id.0) (url_found pages id)
  where
    choose : (b : Bool)
        → option_map (λ (q : Page). q.url) (find (λ (q : Page). q.id.0 == id.0) (map (λ (q : KeptPage). q.page) pages))
        ≡ option_map (λ (q : KeptPage). q.page.url) (find (λ (q : KeptPage). q.page.id.0 == id.0) pages)
        → option_map (λ (q : Page). q.url)
        (if b then Some p.page else find (λ (q : Page). q.id.0 == id.0) (map (λ (q : KeptPage). q.page) pages))
        ≡ option_map (λ (q : KeptPage). q.page.url)
        (if b then Some p else find (λ (q : KeptPage). q.page.id.0 == id.0) pages)
    choose true rest = refl
    choose false rest = rest

-- the URL that the rows tell is that of the page
pub url_told : (kept : Kept) (id : PageId) (url : List ℕ) → Some url ≡ url_of kept id
    → Some url ≡ page_url (store_of kept) id
url_told kept id url is = is ∙ sym (url_found kept.pages id)

-- the page of an item is there
pub page_there : (kept : Kept) (id : ItemId) (row : ItemRow) → IsGood (store_of kept)
    → Some row ≡ option_map (item_row kept.items) (item_at kept.items id)
    → IfSome row.page (λ page. has_page kept page ≡ true)
page_there kept id row good is = choose (item_at kept.items id) refl is
  where
    still : (page : Option PageId) → IfSome page (λ p. IsTrue (has_page_at (store_of kept) p))
        → IfSome page (λ p. has_page kept p ≡ true)
    still None there = tt
    still (Some p) there =
        sym (list_any-map (λ (q : Page). q.id.0 == p.0) (λ (q : KeptPage). q.page) kept.pages) ∙ there

    choose : (o : Option Item) → item_at kept.items id ≡ o → Some row ≡ option_map (item_row kept.items) o
        → IfSome row.page (λ page. has_page kept page ≡ true)
    choose None at none = absurd (cc)
    choose (Some i) at some =
        let same : row ≡ item_row kept.items i = cc in
        subst (λ (r : ItemRow). IfSome r.page (λ page. has_page kept page ≡ true)) (sym same)
        (still i.page (found_holds (IsGoodItem (store_of kept)) (λ (j : Item). j.id.0 == id.0) kept.items i
        (recursion_from_All (IsGoodItem (store_of kept)) kept.items good.items) at).page)
