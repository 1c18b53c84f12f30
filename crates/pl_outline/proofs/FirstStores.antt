-- Stores whose items are the six roots: the store before its first command, and the one that a restore
-- begins with.
use Rattle.std.proofs.Common.{◌≡◌, ◌<◌, ◌≤◌, arith, refl}
use Rattle.std.proofs.lemmas.List.Elements.{All-from_recursion, All-nil}
use Rattle.pl_base.specs.Good.{IsGood}
use Rattle.pl_base.specs.Store.{Item, Page, Store, opening, roots}
use Rattle.pl_base.proofs.ListLaws.{All-from_map}
use Rattle.pl_base.proofs.RootsLaws.{has_roots, no_tags, roots_are_good, roots_are_tree, roots_ascend, with_roots}
use Rattle.pl_graft.specs.Ready.{IsReady}
use Rattle.pl_graft.specs.Restored.{emptied}
use Rattle.pl_outline.proofs.Bare.{HasPages}
use Rattle.pl_outline.proofs.PagesMore.{has_pages_same}

-- a store without bookmarks, into which a tree may come
pub record IsFirst (store : Store) : Type 0 where
  pub ready : IsReady store
  pub pages : HasPages store
  pub items : store.items ≡ roots

roots_ready : (store : Store) → 7 ≤ store.ids.item → IsReady (with_roots store)
roots_ready store first =
    record {
      good =
          record {
            items = roots_are_good (with_roots store);
            roots = has_roots store;
            tree = roots_are_tree;
            tags = no_tags store;
          };
      ascending = roots_ascend;
      below =
          All-from_recursion (λ (i : Item). i.id.0 < store.ids.item) roots
          (omega arith, (omega arith, (omega arith, (omega arith, (omega arith, (omega arith, tt))))));
      first = first;
    }

-- ---- pages

pub good_pages : (store : Store) → IsGood store → HasPages store
good_pages store good =
    record {
      ascending = good.page_ids.ascending;
      below =
          λ k d within.
          (All-from_map (λ id. (0 < id) × (id < store.ids.page)) (λ (p : Page). p.id.0) store.pages
          good.page_ids.given k d within).1;
      urls = good.urls;
    }

-- ---- the stores

pub opening_first : IsFirst opening
opening_first =
    record {
      ready = roots_ready opening (omega arith);
      pages =
          record {
            ascending = λ k within. absurd (omega arith);
            below = All-nil (λ (p : Page). p.id.0 < 1);
            urls = λ i j d before within. absurd (omega arith);
          };
      items = refl;
    }

-- a good store without its bookmarks
pub emptied_first : (store : Store) → IsGood store → IsFirst (emptied store)
emptied_first store good =
    record {
      ready = roots_ready (emptied store) good.item_ids.next_first;
      pages = has_pages_same store (emptied store) refl refl (good_pages store good);
      items = refl;
    }
