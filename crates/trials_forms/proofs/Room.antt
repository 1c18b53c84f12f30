-- What a page, a title or an item takes of the slots that are left.
use Rattle.std.proofs.Common.{◌≡◌, ◌+◌, ◌≤◌, ◌==◌, ℕ, Bool, true, false, List, [], ◌∷◌}
use Rattle.std.proofs.Common.{ap, arith, if◌then◌else◌, map, refl}
use Rattle.std.proofs.lemmas.List.{length-map}
use Rattle.pl_base.specs.declared.date.Micros.{Micros}
use Rattle.pl_base.specs.declared.id.ItemId.{ItemId}
use Rattle.pl_base.specs.declared.id.PageId.{PageId}
use Rattle.pl_base.specs.Live.{chunks, live_slots, origin_count, slot_limit}
use Rattle.pl_base.specs.Rows.{IsWellKept, Kept, KeptPage, has_page, live_with_item_title, live_with_title, store_of}
use Rattle.pl_base.specs.Rows.{titled}
use Rattle.pl_base.specs.Store.{Item, Page}
use Rattle.pl_base.specs.Tree.{has_item}
use Rattle.pl_base.proofs.ItemLaws.{once}
use Rattle.pl_base.proofs.ListLaws.{sum_by-map}
use Rattle.pl_base.proofs.OneChanged.{once_by_number, sum_changed}
use Rattle.pl_record.proofs.NamedSlots.{found_of}

-- the URLs are the same whatever the titles
same_urls : (id : PageId) (title : List ℕ) (ps : List KeptPage)
    → map (λ (p : Page). p.url)
    (map (λ (p : KeptPage). p.page) (map (λ (p : KeptPage). if p.page.id.0 == id.0 then titled title p else p) ps))
    ≡ map (λ (p : Page). p.url) (map (λ (p : KeptPage). p.page) ps)
same_urls id title [] = refl
same_urls id title (p ∷ ps) = rw (url_at (p.page.id.0 == id.0), same_urls id title ps) refl
  where
    url_at : (b : Bool) → (if b then titled title p else p).page.url ≡ p.page.url
    url_at true = refl
    url_at false = refl

pub room_title : (kept : Kept) (id : PageId) (title : List ℕ) → IsWellKept kept → has_page kept id ≡ true
    → live_slots (store_of kept) + chunks title ≤ slot_limit → live_with_title id title kept ≤ slot_limit
room_title kept id title h there room =
    let has_id : KeptPage → Bool = λ (p : KeptPage). p.page.id.0 == id.0 in
    let change : KeptPage → KeptPage = λ (p : KeptPage). if p.page.id.0 == id.0 then titled title p else p in
    let page_of : KeptPage → Page = λ (p : KeptPage). p.page in
    let texts : Page → ℕ = λ (p : Page). chunks p.url + chunks p.title in
    let p = found_of has_id kept.pages there in
    omega (
      arith,
      ap origin_count (same_urls id title kept.pages),
      length-map (map change kept.pages) page_of,
      length-map kept.pages change,
      length-map kept.pages page_of,
      sum_by-map texts page_of (map change kept.pages),
      sum_by-map texts page_of kept.pages,
      sum_changed has_id (titled title) (λ (p : KeptPage). texts p.page) kept.pages p.0
          (once_by_number (λ (p : KeptPage). p.page.id.0) id.0 kept.pages h.page_ids.ascending) p.1,
      room,
    )

pub room_item : (kept : Kept) (id : ItemId) (title : List ℕ) (date : Micros) → IsWellKept kept
    → has_item kept.items id ≡ true → live_slots (store_of kept) + chunks title ≤ slot_limit
    → live_with_item_title id title date kept ≤ slot_limit
room_item kept id title date h there room =
    let i = found_of (λ (i : Item). i.id.0 == id.0) kept.items there in
    let change : Item → Item = λ (i : Item). record i { title = title; modified = date } in
    omega (
      arith,
      length-map kept.items (λ (i : Item). if i.id.0 == id.0 then change i else i),
      sum_changed (λ (i : Item). i.id.0 == id.0) change (λ (i : Item). chunks i.title) kept.items i.0
          (once id kept.items h.item_ids.ascending) i.1,
      room,
    )
