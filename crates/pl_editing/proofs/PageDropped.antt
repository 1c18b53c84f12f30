-- A page that went without a visit and without an item, where a tree is to come.
use Rattle.std.proofs.Common.{◌≡◌, ◌∙◌, ◌==◌, ◌||◌, All, Bool, true, false, not, List, [], ◌∷◌, ap, filter}
use Rattle.std.proofs.Common.{if◌then◌else◌, map, refl, subst, sym}
use Rattle.std.specs.List.{AllByRecursion}
use Rattle.std.proofs.lemmas.List.Elements.{All-filter, All-map}
use Rattle.pl_base.specs.declared.date.Day.{Day}
use Rattle.pl_base.specs.declared.id.Ids.{Ids}
use Rattle.pl_base.specs.declared.id.PageId.{PageId}
use Rattle.pl_base.specs.Removal.{is_standing}
use Rattle.pl_base.specs.Rows.{Kept, KeptPage, other_pages, store_of, unnamed}
use Rattle.pl_base.specs.Store.{Item, Page, Store, Visit}
use Rattle.pl_base.proofs.IdsLaws.{same_page}
use Rattle.pl_base.proofs.ListLaws.{All-from_map, map-map, weaker}
use Rattle.pl_history.specs.Settled.{Drops}
use Rattle.pl_nbread.specs.declared.tree.Tree.{Tree}
use Rattle.pl_keyed.specs.NamedUrls.{is_named}
use Rattle.pl_graft.specs.Spared.{is_spared, spared}

abbrev paged : List KeptPage → List Page
paged ps = map (λ (p : KeptPage). p.page) ps

-- of the others those stay that stayed before
others_left : (stays : Page → Bool) (page : PageId) (ps : List KeptPage)
    → AllByRecursion (λ (p : KeptPage). (p.page.id.0 == page.0) ≡ true → stays p.page ≡ false) ps
    → filter stays (paged (other_pages page ps)) ≡ filter stays (paged ps)
others_left stays page [] out = refl
others_left stays page (p ∷ ps) out =
    choose (p.page.id.0 == page.0) out.0 (others_left stays page ps out.1)
  where
    choose : (b : Bool) → (b ≡ true → stays p.page ≡ false)
        → filter stays (paged (other_pages page ps)) ≡ filter stays (paged ps)
        → filter stays (paged (if not b then p ∷ other_pages page ps else other_pages page ps))
        ≡ filter stays (paged (p ∷ ps))
    choose true none rest =
        rest ∙ sym (ap (λ (b : Bool). if b then p.page ∷ filter stays (paged ps) else filter stays (paged ps))
        (none refl))
    choose false none rest = ap (λ (qs : List Page). if stays p.page then p.page ∷ qs else qs) rest

module _ (page : PageId) (old new : Kept) (w : Drops page old new) where
  -- the store without the page
  pub dropped_is : store_of new ≡ record (store_of old) { pages = paged (other_pages page old.pages) }
  dropped_is =
      let s : Store = store_of old in
      let pages : List Page = paged new.pages in
      ap (λ (day : Day). record (store_of new) { day = day }) w.day
      ∙ ap (λ (ids : Ids). record (store_of new) { day = s.day; ids = ids }) w.ids
      ∙ ap (λ (visits : List Visit). record s { pages = pages; visits = visits; items = new.items }) w.visits
      ∙ ap (λ (items : List Item). record s { pages = pages; items = items }) w.items
      ∙ ap (λ (ps : List Page). record s { pages = ps })
      (sym (map-map (λ (p : KeptPage). p.page) unnamed new.pages) ∙ ap paged w.pages
      ∙ map-map (λ (p : KeptPage). p.page) unnamed (other_pages page old.pages))

  -- what holds of each page of the store
  pub dropped_all : (P : Page → Type 0) → All P (store_of old).pages → All P (store_of new).pages
  dropped_all P all =
      subst (λ (s : Store). All P s.pages) (sym dropped_is)
      (All-map P (λ (p : KeptPage). p.page) (other_pages page old.pages)
      (All-filter (λ (p : KeptPage). not (p.page.id.0 == page.0)) (λ (p : KeptPage). P p.page) old.pages
      (All-from_map P (λ (p : KeptPage). p.page) old.pages all)))

  -- the tree spared it not
  pub dropped_spared : (tree : Tree) → is_standing (store_of old) page ≡ false
      → AllByRecursion (λ (p : KeptPage). (p.page.id.0 == page.0) ≡ true → is_named tree p.page.url ≡ false) old.pages
      → spared tree (store_of new) ≡ spared tree (store_of old)
  dropped_spared tree idle unnamed_page =
      let s : Store = store_of old in
      ap (spared tree) dropped_is
      ∙ ap (λ (ps : List Page). record s { pages = ps })
      (others_left (is_spared tree s) page old.pages
      (weaker (λ (p : KeptPage). (p.page.id.0 == page.0) ≡ true → is_named tree p.page.url ≡ false)
      (λ (p : KeptPage). (p.page.id.0 == page.0) ≡ true → is_spared tree s p.page ≡ false) old.pages
      (λ p none same.
      ap (λ (b : Bool). b || is_named tree p.page.url) (ap (is_standing s) (same_page p.page.id page same) ∙ idle)
      ∙ none same) unnamed_page))
