-- The form of a store's file whose rows are linked: which bytes it has, and which bytes stand for a
-- store.
use Rattle.std.specs.Prelude.{◌≡◌, ◌≢◌, ℕ, ◌-◌, true, List, ◌++◌, codes, drop, replicate, IfSome}
use Rattle.std.specs.List.{All, AllPairs}
use Rattle.pl_base.specs.declared.id.ItemId.{ItemId}
use Rattle.pl_base.specs.declared.id.VisitId.{VisitId}
use Rattle.pl_base.specs.Good.{IsTitle, child_ids}
use Rattle.pl_base.specs.Live.{live_slots}
use Rattle.pl_base.specs.Rows.{AreTargets, IsSound, IsWellKept, Kept, has_page, store_of}
use Rattle.pl_base.specs.Store.{Item, Store, Visit}
use Rattle.pl_base.specs.Touched.{page_size}
use Rattle.pl_base.specs.Tree.{has_item}
use Rattle.pl_record.specs.Chains.{HasAlone, HasChains, HasLive}
use Rattle.pl_record.specs.Records.{HoldsOnce, HoldsRows, HoldsTexts, Layout}
use Rattle.pl_sheets.specs.Sheets.{Pages, unchanged}
use Rattle.pl_slot.specs.Arena.{IsArena, header_of}
use Rattle.pl_slot.specs.Header.{Header}

-- the text at the beginning of the header
abbrev pub form_name : List ℕ
form_name = codes "PLSTORE1"

-- where the fields of the header end
abbrev pub header_size : ℕ
header_size = 68

-- the header but for its length in pages, its first free slot and its chains
pub record IsHeader (kept : Kept) (header : Header) : Type 0 where
  pub form : header.form ≡ form_name
  pub day : header.day ≡ kept.day
  pub ids : header.ids ≡ kept.ids
  pub live : header.live ≡ live_slots (store_of kept)
  pub rest : header.rest ≡ replicate (page_size - header_size) 0

-- these rows are a store's: visits came from visits in this order, the title of each item is
-- one, its page is there, each child is an item, and none is one twice
pub record AreRows (kept : Kept) (targets : VisitId → List Visit) : Type 0 where
  pub well : IsWellKept kept
  pub targeted : (source : VisitId) → AreTargets (store_of kept) source (targets source)
  pub titles : All (λ (i : Item). IsTitle i.title) kept.items
  pub own : All (λ (i : Item). IfSome i.page (λ id. has_page kept id ≡ true)) kept.items
  pub children : All (λ (i : Item). All (λ c. has_item kept.items c ≡ true) i.children)
      kept.items
  pub once : AllPairs (λ (a b : ItemId). a ≢ b) (child_ids kept.items)

-- the pages hold the rows and the texts of a store in these slots, and link the slots
pub record IsLaid (at : Layout) (kept : Kept) (targets : VisitId → List Visit) (pages : Pages)
    : Type 0 where
  pub arena : IsArena pages
  pub header : IsHeader kept (header_of pages)
  pub rows : HoldsRows at kept pages
  pub texts : HoldsTexts at kept pages
  pub slots : HoldsOnce at kept pages
  pub live : HasLive at kept pages
  pub chains : HasChains at kept targets pages
  pub alone : HasAlone at kept pages

-- the pages are the form of these rows
pub record IsForm (kept : Kept) (targets : VisitId → List Visit) (pages : Pages) : Type 0 where
  pub at : Layout
  pub rows : AreRows kept targets
  pub laid : IsLaid at kept targets pages

-- ---- bytes

-- the bytes from page 1 on, and the pages that such bytes make
abbrev pub bytes_in : Pages → List ℕ
bytes_in pages = drop page_size pages.bytes

abbrev pub pages_of : List ℕ → Pages
pages_of bytes = unchanged (replicate page_size 0 ++ bytes)

-- bytes from page 1 on stand for a store: they are the form of its rows, whose marks and totals are
-- right
pub record StandsFor (bytes : List ℕ) (store : Store) : Type 0 where
  pub kept : Kept
  pub targets : VisitId → List Visit
  pub form : ∥ IsForm kept targets (pages_of bytes) ∥₁
  pub sound : IsSound kept
  pub same : store_of kept ≡ store
