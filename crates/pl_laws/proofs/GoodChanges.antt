-- The good store that each change of a good store leaves, where nothing refuses it.
use Rattle.std.proofs.Common.{◌≡◌, ◌<◌, ◌≤◌, ◌+◌, ◌==◌, ◌&&◌, ◌||◌, ◌∙◌, ℕ, All, Bool, true, false, IsTrue, List}
use Rattle.std.proofs.Common.{[], ◌∷◌, Option, Some, None, IfSome, ap, arith, bytes_eq, eq-eqb, get_or}
use Rattle.std.proofs.Common.{if◌then◌else◌, is_none, is_some, map, nat_lt, refl, subst, sym, unwrap_or}
use Rattle.std.specs.Prelude.{◌↔◌}
use Rattle.std.specs.Option.{IsSome, option_and_then}
use Rattle.std.proofs.lemmas.Bool.{eqb-true, false≢true, ltb-false, or_left}
use Rattle.std.proofs.lemmas.List.Elements.{All-from_recursion, All-map, recursion_from_All}
use Rattle.pl_base.specs.declared.date.Day.{Day}
use Rattle.pl_base.specs.declared.date.Micros.{Micros}
use Rattle.pl_base.specs.declared.id.ItemId.{ItemId}
use Rattle.pl_base.specs.declared.id.PageId.{PageId}
use Rattle.pl_base.specs.declared.id.VisitId.{VisitId}
use Rattle.pl_base.specs.declared.item.ItemKind.TheVariants.{Bookmark}
use Rattle.pl_base.specs.declared.transition.Transition.{Transition}
use Rattle.pl_base.specs.Date.{IsDate, IsDay}
use Rattle.pl_base.specs.Days.{on_day}
use Rattle.pl_base.specs.Good.{HasGoodItems, IsGood, IsGoodItem, IsTagName, IsTitle, end_of_ids, has_page_at}
use Rattle.pl_base.specs.Good.{is_visited}
use Rattle.pl_base.specs.Marks.{is_referenced}
use Rattle.pl_base.specs.Removal.{is_standing, visits_left, without_idle_pages, without_visits}
use Rattle.pl_base.specs.Store.{Item, Page, Store, Visit, item_id, roots}
use Rattle.pl_base.specs.Tree.{child_items, is_page}
use Rattle.pl_base.specs.Visiting.{after_visit, find_page, new_page, new_visit, page_for, visit_page, visited_page}
use Rattle.pl_base.specs.Visiting.{visited_store, with_page_for}
use Rattle.pl_base.proofs.ListLaws.{list_any_last, list_any_push}
use Rattle.pl_base.proofs.LookUps.{found_holds, found_passes}
use Rattle.pl_base.proofs.Truths.{or_more}
use Rattle.pl_base.proofs.RootsLaws.{has_roots, no_tags, roots_are_good, roots_are_tree, roots_ascend}
use Rattle.pl_tree.specs.declared.new_item.NewItem.{NewItem}
use Rattle.pl_tree.specs.declared.place.Place.{Place}
use Rattle.pl_tree.specs.declared.tree_change.TreeChange.TheVariants.{Insert}
use Rattle.pl_tree.specs.Changes.{item_of, with_child, with_new}
use Rattle.pl_tree.specs.Refused.{refusal}
use Rattle.pl_tree.specs.Tagged.{entry_in, new_items, tag_entry, tag_named, tagged_items}
use Rattle.pl_tree.proofs.StoreItems.{item_inserted}
use Rattle.pl_history.proofs.GrownItems.{Adds, adds_tagged}
use Rattle.pl_history.proofs.VisitRows.{grown_store}
use Rattle.pl_graft.specs.Import.{imported}
use Rattle.pl_graft.specs.Restored.{emptied, restored}
use Rattle.pl_graft.proofs.Ready.{has_page_for}
use Rattle.pl_nbread.specs.declared.tree.Tree.{Tree}
use Rattle.pl_nbread.specs.WellFormed.{AreWellFormed}
use Rattle.pl_step.specs.Step.{after_insert, after_tag, is_tagged, title_page}
use Rattle.pl_laws.specs.Texts.{HasTreeTexts, IsUrl}
use Rattle.pl_done.proofs.ChildItems.{children_too}
use Rattle.pl_laws.proofs.GoodIds.{each_below, one_below}
use Rattle.pl_laws.proofs.GoodImport.{IsGrown, below_item, grown_import, loose_tagged}
use Rattle.pl_laws.proofs.GoodItems.{Numbers, Refer, each_page, loose_items, numbers_item, refer_more, refer_put}
use Rattle.pl_laws.proofs.GoodItems.{stand_items, stand_page, stands_same}
use Rattle.pl_laws.proofs.GoodPages.{loose_day, loose_left, loose_page, loose_title, loose_visit}
use Rattle.pl_laws.proofs.GoodParts.{AreStanding, IsLoose, IsWithinIds, good_from, good_left, has_visit, loose}
use Rattle.pl_laws.proofs.GoodParts.{standing, within_ids}
use Rattle.pl_done.proofs.VisitSlots.{below_last}

-- ---- a page for a URL

-- there is an id for the page
abbrev pub HasIdFor : Store → List ℕ → Type 0
HasIdFor store url = (is_none (find_page url store.pages) && (store.ids.page == end_of_ids)) ≡ false

-- a page more changes nothing but the pages and their next id
record IsBeside (old new : Store) : Type 0 where
  pub visit : new.ids.visit ≡ old.ids.visit
  pub item : new.ids.item ≡ old.ids.item
  pub visits : new.visits ≡ old.visits
  pub items : new.items ≡ old.items

beside : (store : Store) (url : List ℕ) → IsBeside store (with_page_for store url)
beside store url = choose (is_none (find_page url store.pages))
  where
    choose : (b : Bool) → IsBeside store (if b then grown_store store url else store)
    choose true = record { visit = refl; item = refl; visits = refl; items = refl }
    choose false = record { visit = refl; item = refl; visits = refl; items = refl }

within_page : (store : Store) (url : List ℕ) → IsWithinIds store → HasIdFor store url
    → IsWithinIds (with_page_for store url)
within_page store url w free = choose (find_page url store.pages) free
  where
    choose : (o : Option Page) → (is_none o && (store.ids.page == end_of_ids)) ≡ false
        → IsWithinIds (if is_none o then grown_store store url else store)
    choose None room =
        record { page = omega (arith, below_last store.ids.page end_of_ids w.page room); item = w.item }
    choose (Some p) room = w

-- ---- a page that is new has no tag

fresh_entry : (store : Store) (page : PageId) (name : List ℕ) → IsLoose store → store.ids.page ≤ page.0
    → is_some (tag_entry page name store.items) ≡ false
fresh_entry store page name l late = choose (tag_named name store.items)
  where
    -- the page of an item is older
    older : (of : Option PageId) → IfSome of (λ id. IsTrue (has_page_at store id)) → is_page page of ≡ true → ⊥
    older None there is = absurd (cc)
    older (Some id) there is =
        let below : id.0 < store.ids.page =
        one_below (λ (p : Page). p.id.0) store.ids.page id.0 store.pages
        (each_below (λ (p : Page). p.id.0) 1 store.ids.page store.pages l.page_ids) there in
        absurd (omega (arith, late, below, eqb-true id.0 page.0 is))

    found : (t : Item) (o : Option Item) → entry_in store.items page t ≡ o → is_some o ≡ false
    found t None at = refl
    found t (Some i) at =
        let test : Item → Bool = λ (j : Item). is_page page j.page in
        let fine : IsGoodItem store i =
        found_holds (IsGoodItem store) test (child_items store.items t.id) i
        (children_too (IsGoodItem store) store.items t.id
        (recursion_from_All (IsGoodItem store) store.items l.items.items)) at in
        absurd (older i.page fine.page (found_passes test (child_items store.items t.id) i at))

    choose : (tag : Option Item) → is_some (option_and_then (entry_in store.items page) tag) ≡ false
    choose None = refl
    choose (Some t) = found t (entry_in store.items page t) refl

-- ---- the changes

module _ (store : Store) (good : IsGood store) where
  l : IsLoose store
  l = loose store good

  s : AreStanding store
  s = standing store good

  w : IsWithinIds store
  w = within_ids store good

  pub good_day : (day : Day) → IsDay day → IsGood (on_day day store)
  good_day day is =
      good_from (on_day day store) (loose_day store day l is) s (record { page = w.page; item = w.item })

  pub good_title : (url title : List ℕ) → IsTitle title
      → IsGood (record store { pages = map (title_page url title) store.pages })
  good_title url title named =
      good_from (record store { pages = map (title_page url title) store.pages }) (loose_title store url title l named)
      (All-map (λ (p : Page). IsTrue (is_standing store p.id)) (title_page url title) store.pages
      (λ k d within. one (get_or store.pages k d) (bytes_eq (get_or store.pages k d).url url) (s k d within)))
      (record { page = w.page; item = w.item })
    where
      one : (p : Page) (b : Bool) → IsTrue (is_standing store p.id)
          → IsTrue (is_standing store (if b then record p { title = title } else p).id)
      one p true stood = stood
      one p false stood = stood

  pub good_gone : (gone : List VisitId) → IsGood (without_visits gone store)
  good_gone gone =
      good_left (record store { visits = visits_left gone store.visits }) (loose_left store gone l)
      (record { page = w.page; item = w.item })

  -- items that change, and keep each page that one has
  pub good_items : (items : List Item) → Numbers store.ids.item items → Refer store.items items
      → HasGoodItems (record store { items = items }) → IsGood (record store { items = items })
  good_items items ids refer h =
      good_from (record store { items = items }) (loose_items store store.ids.item items l ids h)
      (stand_items store store.ids.item items refer s) (record { page = w.page; item = w.item })

  -- items of which some go
  pub good_fewer : (items : List Item) → Numbers store.ids.item items → HasGoodItems (record store { items = items })
      → IsGood (without_idle_pages (record store { items = items }))
  good_fewer items ids h =
      good_left (record store { items = items }) (loose_items store store.ids.item items l ids h)
      (record { page = w.page; item = w.item })

  -- ---- a visit

  module _ (url : List ℕ) (is : IsUrl url) (free : HasIdFor store url) where
    abbrev mid : Store
    mid = with_page_for store url

    abbrev page : PageId
    page = (page_for store url).id

    mid_loose : IsLoose mid
    mid_loose = loose_page store url l is

    mid_within : IsWithinIds mid
    mid_within = within_page store url w free

    module _ (transition : Transition) (date : Micros) (source : Option VisitId) where
      abbrev visit : Visit
      visit = new_visit mid page transition date source

      abbrev after : Store
      after = visited_store page transition date source mid

      abbrev Stands : PageId → Type 0
      Stands id = IsTrue (is_visited after id || is_referenced mid id)

      each_stands : All (λ (p : Page). Stands p.id) mid.pages
      each_stands =
          each_page store url Stands
          (λ id stood.
          or_more (is_visited mid id) (is_visited after id) (is_referenced mid id)
          (list_any_push (λ (v : Visit). v.page.0 == id.0) mid.visits visit) (stands_same store url id ∙ stood))
          (or_left (is_visited after page) (is_referenced mid page)
          (list_any_last (λ (v : Visit). v.page.0 == page.0) mid.visits visit (eq-eqb page.0 page.0 refl)))
          s

      still : (p : Page) (b : Bool) → Stands p.id → Stands (if b then visited_page transition p else p).id
      still p true stood = stood
      still p false stood = stood

      pub good_visit : IsDate date → IfSome source (λ id. IsTrue (has_visit id store.visits))
          → (store.ids.visit == end_of_ids) ≡ false → IsGood (after_visit store url transition date source)
      good_visit dated from room =
          good_from after
          (loose_visit mid page transition date source mid_loose (has_page_for store url) dated
          (subst (λ (vs : List Visit). IfSome source (λ id. IsTrue (has_visit id vs))) (sym (beside store url).visits)
          from)
          (subst (λ n. n < end_of_ids) (sym (beside store url).visit)
          (below_last store.ids.visit end_of_ids good.visit_ids.next_last room)))
          (All-map (λ (p : Page). Stands p.id) (visit_page page transition) mid.pages
          (λ k d within.
          still (get_or mid.pages k d) ((get_or mid.pages k d).id.0 == page.0) (each_stands k d within)))
          (record { page = mid_within.page; item = mid_within.item })

    -- ---- a tag

    none_tagged : (name : List ℕ) → is_tagged store (find_page url store.pages) name ≡ false
        → is_some (tag_entry page name mid.items) ≡ false
    none_tagged name none =
        ap (λ (is : List Item). is_some (tag_entry page name is)) (beside store url).items
        ∙ choose (find_page url store.pages) none
      where
        choose : (o : Option Page) → is_tagged store o name ≡ false
            → is_some (tag_entry (unwrap_or o (new_page store url)).id name store.items) ≡ false
        choose None untagged = fresh_entry store (new_page store url).id name l (omega arith)
        choose (Some p) untagged = untagged

    pub good_tag : (name : List ℕ) (date : Micros) → IsTagName name → IsDate date
        → is_tagged store (find_page url store.pages) name ≡ false
        → nat_lt end_of_ids (store.ids.item + new_items name store.items) ≡ false
        → IsGood (after_tag store url name date)
    good_tag name date named dated none room =
        let items : List Item = tagged_items mid.ids.item page name date mid.items in
        let adds : Adds page mid.items items = adds_tagged mid.ids.item page name date mid.items in
        good_from (after_tag store url name date)
        (loose_tagged mid page name date mid_loose named dated (has_page_for store url) (none_tagged name none))
        (stand_page store url (mid.ids.item + new_items name mid.items) items (refer_more page mid.items items adds)
        adds.own s)
        (record {
          page = mid_within.page;
          item =
              omega (
                arith,
                (beside store url).item,
                ap (new_items name) (beside store url).items,
                ltb-false end_of_ids (store.ids.item + new_items name store.items) room,
              );
        })

  -- ---- a new item

  loose_insert : (old : Store) (parent : ItemId) (place : Place) (new : NewItem) → IsLoose old
      → refusal old.items (Insert parent place) ≡ None → IsTitle new.title → IsDate new.date
      → (IsSome new.page ↔ (new.kind ≡ Bookmark)) → IfSome new.page (λ page. IsTrue (has_page_at old page))
      → IsLoose (after_insert parent place new old)
  loose_insert old parent place new h none named dated bookmark page =
      let id : ItemId = item_id old.ids.item in
      loose_items old (old.ids.item + 1) (with_new id parent place new old.items) h
      (numbers_item old.ids.item (old.ids.item + 1) id parent place (item_of id new) old.items refl refl h.item_ids)
      (item_inserted old h.items h.item_ids.ascending (after_insert parent place new old).ids old.ids.item parent place
      new (below_item old h) h.item_ids.next_first none named dated bookmark page)

  pub good_insert : (parent : ItemId) (place : Place) (new : NewItem)
      → refusal store.items (Insert parent place) ≡ None → (store.ids.item == end_of_ids) ≡ false
      → IsTitle new.title → IsDate new.date → (IsSome new.page ↔ (new.kind ≡ Bookmark))
      → IfSome new.page (λ page. IsTrue (has_page_at store page)) → IsGood (after_insert parent place new store)
  good_insert parent place new none room named dated bookmark page =
      let id : ItemId = item_id store.ids.item in
      good_from (after_insert parent place new store)
      (loose_insert store parent place new l none named dated bookmark page)
      (stand_items store (store.ids.item + 1) (with_new id parent place new store.items)
      (refer_put store.items parent id place (item_of id new)) s)
      (record { page = w.page; item = omega (arith, below_last store.ids.item end_of_ids w.item room) })

  -- with a page for the URL
  pub good_bookmark : (url : List ℕ) → IsUrl url → HasIdFor store url → (parent : ItemId) (place : Place)
      (new : NewItem) → refusal store.items (Insert parent place) ≡ None → (store.ids.item == end_of_ids) ≡ false
      → IsTitle new.title → IsDate new.date → new.kind ≡ Bookmark → new.page ≡ Some (page_for store url).id
      → IsGood (after_insert parent place new (with_page_for store url))
  good_bookmark url is free parent place new none room named dated kind of =
      let mid : Store = with_page_for store url in
      let page : PageId = (page_for store url).id in
      let m : IsWithinIds mid = within_page store url w free in
      let id : ItemId = item_id mid.ids.item in
      good_from (after_insert parent place new mid)
      (loose_insert mid parent place new (loose_page store url l is)
      (ap (λ (items : List Item). refusal items (Insert parent place)) (beside store url).items ∙ none) named dated
      (λ _. kind, λ _. ap is_some of)
      (subst (λ (o : Option PageId). IfSome o (λ page. IsTrue (has_page_at mid page))) (sym of)
      (has_page_for store url)))
      (stand_page store url (mid.ids.item + 1) (with_new id parent place new mid.items)
      (refer_put mid.items parent id place (item_of id new))
      (list_any_last (λ (i : Item). is_page page i.page) (with_child parent place id mid.items) (item_of id new)
      (ap (is_page page) of ∙ eq-eqb page.0 page.0 refl))
      s)
      (record {
        page = m.page;
        item = omega (arith, (beside store url).item, below_last store.ids.item end_of_ids w.item room);
      })

  -- ---- an import

  pub good_import : (tree : Tree) → AreWellFormed tree → HasTreeTexts tree
      → nat_lt end_of_ids (imported tree store).ids.page ≡ false
      → nat_lt end_of_ids (imported tree store).ids.item ≡ false → IsGood (imported tree store)
  good_import tree whole texts pages items =
      let g : IsGrown true (imported tree store) =
      grown_import tree store whole texts (record { loose = l; standing = λ _. s }) in
      good_from (imported tree store) g.loose (g.standing refl)
      (record {
        page = ltb-false end_of_ids (imported tree store).ids.page pages;
        item = ltb-false end_of_ids (imported tree store).ids.item items;
      })

  -- ---- a restore

  abbrev bare : Store
  bare = emptied store

  bare_loose : IsLoose bare
  bare_loose =
      let late = good.item_ids.next_first in
      loose_items store store.ids.item roots l
      (record {
        ascending = roots_ascend;
        given =
            All-from_recursion (λ id. (0 < id) × (id < store.ids.item)) (1 ∷ 2 ∷ 3 ∷ 4 ∷ 5 ∷ 6 ∷ []) (
              (omega arith, omega arith),
              (
                (omega arith, omega arith),
                ((omega arith, omega arith), ((omega arith, omega arith), ((omega arith, omega arith), ((omega arith, omega arith), tt)))),
              ),
            );
        next_first = late;
      })
      (record {
        items = roots_are_good bare;
        roots = has_roots store;
        tree = roots_are_tree;
        tags = no_tags store;
      })

  pub good_restore : (tree : Tree) → AreWellFormed tree → HasTreeTexts tree
      → nat_lt end_of_ids (restored tree store).ids.page ≡ false
      → nat_lt end_of_ids (restored tree store).ids.item ≡ false → IsGood (restored tree store)
  good_restore tree whole texts pages items =
      let g : IsGrown false (imported tree bare) =
      grown_import tree bare whole texts (record { loose = bare_loose; standing = λ all. absurd (false≢true all) }) in
      good_left (imported tree bare) g.loose
      (record {
        page = ltb-false end_of_ids (imported tree bare).ids.page pages;
        item = ltb-false end_of_ids (imported tree bare).ids.item items;
      })
