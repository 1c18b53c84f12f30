-- Well kept rows with good items whose pages stand there by a visit or an item hold a good store.
use Rattle.std.proofs.Common.{◌≡◌, ◌≢◌, ◌<◌, ◌==◌, ◌∙◌, ℕ, All, IsTrue, List, Option, Some, None, get_or, refl}
use Rattle.std.proofs.Common.{subst, sym}
use Rattle.std.specs.Option.{IfSome, IsSome, option_map}
use Rattle.std.proofs.lemmas.List.Elements.{All-map, All-weaker}
use Rattle.pl_base.specs.declared.id.PageId.{PageId}
use Rattle.pl_base.specs.declared.id.VisitId.{VisitId}
use Rattle.pl_base.specs.Good.{HasGoodItems, IsGood, IsGoodItem}
use Rattle.pl_base.specs.Good.{IsGoodPage, IsTagFolder, has_page_at}
use Rattle.pl_base.specs.Redirects.{visit_by_id}
use Rattle.pl_base.specs.Rows.{IsWellKept, Kept, KeptPage, has_page as is_kept, has_visit, store_of}
use Rattle.pl_base.specs.Store.{Item, Page, Store, Visit}
use Rattle.pl_base.specs.Tags.{tags_of}
use Rattle.pl_base.proofs.OriginLaws.{store_url_own}
use Rattle.pl_history.specs.Sound.{AreStanding}
use Rattle.pl_base.proofs.ListLaws.{All-from_map, AllPairs-map, list_any-map, map-map}
use Rattle.pl_base.proofs.LookUps.{found_where}

-- ---- the items

-- the items of a good store
pub items_of : (store : Store) → IsGood store → HasGoodItems store
items_of store good = record { items = good.items; roots = good.roots; tree = good.tree; tags = good.tags }

page_still : (old new : Store) (page : Option PageId)
    → ((id : PageId) → IsTrue (has_page_at old id) → IsTrue (has_page_at new id))
    → IfSome page (λ id. IsTrue (has_page_at old id)) → IfSome page (λ id. IsTrue (has_page_at new id))
page_still old new None stays there = tt
page_still old new (Some id) stays there = stays id there

-- the same items are good in a store that has their pages
pub items_with : (old new : Store) → old.items ≡ new.items
    → All (λ (i : Item). IfSome i.page (λ id. IsTrue (has_page_at new id))) old.items → HasGoodItems old
    → HasGoodItems new
items_with old new same pages good =
    let mid : Store = record new { items = old.items } in
    subst (λ (items : List Item). HasGoodItems (record new { items = items })) same
    (record {
      items =
          λ k d within.
          let h : IsGoodItem old (get_or old.items k d) = good.items k d within in
          record {
            title = h.title;
            added = h.added;
            modified = h.modified;
            bookmark = h.bookmark;
            page = pages k d within;
            children = h.children;
          };
      roots = record { root = good.roots.root; top = good.roots.top };
      tree = good.tree;
      tags = record {
        folders =
            All-weaker (IsTagFolder old) (IsTagFolder mid)
            (λ t h. record { kind = h.kind; name = h.name; used = h.used; entries = h.entries; pages = h.pages })
            (tags_of old) good.tags.folders;
        names = good.tags.names;
      };
    })

-- and in one that has the same pages and more
pub items_still : (old new : Store) → old.items ≡ new.items
    → ((id : PageId) → IsTrue (has_page_at old id) → IsTrue (has_page_at new id)) → HasGoodItems old
    → HasGoodItems new
items_still old new same stays good =
    items_with old new same
    (λ k d within. page_still old new (get_or old.items k d).page stays (good.items k d within).page) good

-- ---- the rows

source_found : (kept : Kept) (n : ℕ) (source : Option VisitId)
    → IfSome source (λ id. (id.0 < n) × IsTrue (has_visit kept id))
    → IfSome source (λ id. (id.0 < n) × IsSome (visit_by_id (store_of kept) id))
source_found kept n None stands = tt
source_found kept n (Some id) stands = (
  stands.0,
  found_where (λ (v : Visit). v.id.0 == id.0) (λ (v : Visit). v) kept.visits (visit_by_id (store_of kept) id) stands.1
      (sym (option_map-id (visit_by_id (store_of kept) id))),
)
  where
    option_map-id : (o : Option Visit) → option_map (λ (v : Visit). v) o ≡ o
    option_map-id None = refl
    option_map-id (Some v) = refl

pub good_of : (kept : Kept) → IsWellKept kept → HasGoodItems (store_of kept) → AreStanding kept → IsGood (store_of kept)
good_of kept h items standing =
    let store : Store = store_of kept in
    let page_of : KeptPage → Page = λ (p : KeptPage). p.page in
    let there : (id : PageId) → IsTrue (is_kept kept id) → IsTrue (has_page_at store id) =
    λ id some. list_any-map (λ (p : Page). p.id.0 == id.0) page_of kept.pages ∙ some in
    record {
      day = h.day;
      page_ids = rw (map-map (λ (p : Page). p.id.0) page_of kept.pages) h.page_ids;
      visit_ids = h.visit_ids;
      item_ids = h.item_ids;
      pages =
          All-map (IsGoodPage store) page_of kept.pages
          (λ k d within. record {
            url = store_url_own (get_or kept.pages k d).page.url (h.urls k d within);
            title = h.titles k d within;
            typed = standing.typed k d within;
            kept = standing.by_row k d within;
          });
      urls = AllPairs-map (λ (p q : Page). p.url ≢ q.url) page_of kept.pages h.distinct_urls;
      visits =
          λ k d within. record {
            date = (h.visits k d within).0;
            page = there (get_or kept.visits k d).page (h.visits k d within).1;
            source =
                source_found kept (get_or kept.visits k d).id.0 (get_or kept.visits k d).source (h.sources k d within);
          };
      items = items.items;
      roots = items.roots;
      tree = items.tree;
      tags = items.tags;
    }

-- the pages of a good store
pub standing_of : (kept : Kept) → IsGood (store_of kept) → AreStanding kept
standing_of kept good =
    let store : Store = store_of kept in
    let pages : All (λ (p : KeptPage). IsGoodPage store p.page) kept.pages =
    All-from_map (IsGoodPage store) (λ (p : KeptPage). p.page) kept.pages good.pages in
    record { by_row = λ k d within. (pages k d within).kept; typed = λ k d within. (pages k d within).typed }
