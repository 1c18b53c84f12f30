-- What is known of the pages tells the prefix and the host of each.
use Rattle.std.proofs.Common.{◌≡◌, ◌∙◌, ◌++◌, ◌==◌, ap, find, map, List, refl, Some, subst, sym}
use Rattle.std.specs.List.{Contains}
use Rattle.std.proofs.lemmas.List.{map-append}
use Rattle.std.proofs.lemmas.List.Elements.{All-contains, All-from_recursion, Contains-append_left}
use Rattle.std.proofs.lemmas.Option.{same_Some}
use Rattle.pl_base.specs.declared.id.PageId.{PageId}
use Rattle.pl_base.specs.declared.view.View.{View}
use Rattle.pl_base.specs.Rows.{IsWellKept, Kept, KeptPage, store_of, with_items}
use Rattle.pl_base.specs.Store.{Item, Page, Store}
use Rattle.pl_base.proofs.LookUps.{Apart, found_self}
use Rattle.pl_marks.proofs.PageRows.{ids_apart}
use Rattle.pl_known.specs.declared.known.Known.{Known}
use Rattle.pl_known.specs.Known.{Knows}
use Rattle.pl_history.specs.Addresses.{HaveAddresses}
use Rattle.pl_history.proofs.KeptAddresses.{addresses_known, addresses_same}
use Rattle.pl_history.proofs.OthersAlike.{pages_once, texts_stay}

same_one : (pages : List Page) → Apart (λ (p : Page). p.id.0) pages → (p q : Page) → Contains pages p
    → Contains pages q → q.id ≡ p.id → q ≡ p
same_one pages apart p q there here same =
    let found : (r : Page) → Contains pages r → find (λ (s : Page). s.id.0 == r.id.0) pages ≡ Some r =
    λ r stands. All-contains (λ (r : Page). find (λ (s : Page). s.id.0 == r.id.0) pages ≡ Some r) pages r
    (All-from_recursion (λ (r : Page). find (λ (s : Page). s.id.0 == r.id.0) pages ≡ Some r) pages
    (found_self (λ (s : Page). s.id.0) pages apart))
    stands in
    same_Some q p
    (sym (found q here)
    ∙ ap (λ (id : PageId). find (λ (s : Page). s.id.0 == id.0) pages) same
    ∙ found p there)

-- the views that are handed on tell the addresses of the pages
pub views_told : (kept : Kept) (known : Known) (views : List View) → views ≡ known.views.items
    → Knows (store_of kept) known → IsWellKept kept → HaveAddresses views kept
views_told kept known views same knows h =
    let store : Store = store_of kept in
    subst (λ (vs : List View). HaveAddresses vs kept) (sym same)
    (addresses_known known.views.items store kept knows.views
    (texts_stay store store (pages_once kept h) refl (λ q there. (q, there, refl, refl, refl))))

-- so they do where items changed and no page did
pub addresses_with_items : (old new : Kept) (items : List Item) (known : Known) → Knows (store_of old) known
    → IsWellKept old → new ≡ with_items items old → HaveAddresses known.views.items new
addresses_with_items old new items known knows h is =
    addresses_same known.views.items old new (ap (λ (k : Kept). (store_of k).pages) is)
    (views_told old known known.views.items refl knows h)

-- and where pages came behind those that were there, and no two have the same id
pub addresses_grown : (old new : Kept) (added : List KeptPage) (known : Known) → Knows (store_of old) known
    → IsWellKept new → new.pages ≡ old.pages ++ added → HaveAddresses known.views.items new
addresses_grown old new added known knows h is =
    let mid : Kept = with_items old.items new in
    let pages : (store_of new).pages ≡ (store_of old).pages ++ map (λ (p : KeptPage). p.page) added =
    ap (map (λ (p : KeptPage). p.page)) is ∙ map-append (λ (p : KeptPage). p.page) old.pages added in
    addresses_same known.views.items mid new refl
    (addresses_known known.views.items (store_of old) mid knows.views
    (record {
      items = refl;
      pages = λ p q there here same.
          let stays : Contains (store_of new).pages p =
          subst (λ (ps : List Page). Contains ps p) (sym pages)
          (Contains-append_left (store_of old).pages (map (λ (p : KeptPage). p.page) added) p there) in
          let one : q ≡ p = same_one (store_of new).pages (ids_apart new h) p q stays here same in
          (ap (λ (r : Page). r.url) one, ap (λ (r : Page). r.title) one);
    }))
