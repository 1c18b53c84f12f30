-- What a tally stands for once a page, a tag, a node or a list is counted.
use Rattle.std.proofs.Common.{◌≡◌, ◌<◌, ◌∙◌, ◌+◌, ◌==◌, ◌++◌, ℕ, Bool, true, false, List, [], ◌∷◌}
use Rattle.std.proofs.Common.{Option, Some, None, IsTrue, add-zero, add_assoc, ap, if◌then◌else◌, length}
use Rattle.std.proofs.Common.{get_or, refl, subst, sym, take}
use Rattle.std.specs.List.{list_any}
use Rattle.std.specs.Option.{is_none, is_some, option_map}
use Rattle.std.proofs.lemmas.List.{take_more}
use Rattle.pl_base.specs.declared.date.Micros.{Micros}
use Rattle.pl_base.specs.declared.id.ItemId.{ItemId}
use Rattle.pl_base.specs.declared.id.PageId.{PageId}
use Rattle.pl_base.specs.declared.item.ItemRow.{ItemRow}
use Rattle.pl_base.specs.Date.{IsDate}
use Rattle.pl_base.specs.Fold.{folded}
use Rattle.pl_base.specs.Good.{IsTagName, IsTitle, has_page_at}
use Rattle.pl_base.specs.Live.{chunks, live_slots}
use Rattle.pl_base.specs.Store.{Item, Page, Store, item_id}
use Rattle.pl_base.specs.Title.{cut_title}
use Rattle.pl_base.specs.Visiting.{find_page, new_page, page_for, with_page_for}
use Rattle.pl_nbread.specs.declared.tree.Node.{Node}
use Rattle.pl_tree.specs.Tagged.{tag_entry, tag_named}
use Rattle.pl_keyed.specs.declared.pages.Pages.{Pages}
use Rattle.pl_keyed.specs.declared.tags.Entering.{Entering}
use Rattle.pl_keyed.specs.declared.tags.Entering.TheVariants.{Has, Known, New}
use Rattle.pl_keyed.specs.declared.tags.Tags.{Tags}
use Rattle.pl_keyed.specs.KnownPages.{IsOriginPage, KnowsPages, with_page}
use Rattle.pl_keyed.specs.KnownTags.{AreBelow, IsEntering, KnowsTags}
use Rattle.pl_keyed.specs.TagRows.{TagRow, entered, holds_in, row_with, tag_rows}
use Rattle.pl_graft.specs.declared.cost.Tally.{Tally}
use Rattle.pl_graft.specs.Import.{node_row, page_of, tagged_store, with_item_of, with_node, with_page_of, with_row}
use Rattle.pl_graft.specs.Import.{with_tag, with_tags, with_tags_of}
use Rattle.pl_graft.specs.Ready.{IsReady, Takes}
use Rattle.pl_graft.specs.Tally.{IsTallyOf}
use Rattle.pl_graft.proofs.FoundPages.{found_store, knows_for}
use Rattle.pl_graft.proofs.NodeLaws.{IsFormed, kind_fits, page_there, pages_tag, pages_tags, takes_page_of}
use Rattle.pl_graft.proofs.Ready.{below_rows, has_page_for, held, items_page, named, ready_page, ready_row}
use Rattle.pl_graft.proofs.Ready.{ready_tag, tags_row, tags_tag}
use Rattle.pl_graft.proofs.Slots.{live_page, live_row, live_tagged}

-- ---- a page

grown : (store : Store) (url : List ℕ) → find_page url store.pages ≡ None
    → with_page_for store url ≡ record store {
      pages = store.pages ++ new_page store url ∷ [];
      ids = record store.ids { page = store.ids.page + 1 };
    }
grown store url none =
    ap (λ (o : Option Page).
    if is_none o
    then record store {
      pages = store.pages ++ new_page store url ∷ [];
      ids = record store.ids { page = store.ids.page + 1 };
    }
    else store) none

pub page_taken : (old : Tally) (store : Store) (url : List ℕ) (pages : Pages) (live : ℕ) (origin : Option ℕ)
    → IsTallyOf old store → find_page url store.pages ≡ None → IsOriginPage store.pages url origin
    → KnowsPages pages (with_page (new_page store url) store.pages)
    → live ≡ 1 + chunks url + (if is_none origin then 1 else 0)
    → IsTallyOf (record old { pages = pages; live = old.live + live; next_page = old.next_page + 1 })
    (with_page_for store url)
page_taken old store url pages live origin t none of known slots =
    let new : with_page_for store url ≡ record store {
      pages = store.pages ++ new_page store url ∷ [];
      ids = record store.ids { page = store.ids.page + 1 };
    } = grown store url none in
    record {
      pages = knows_for store url pages known;
      tags =
          subst (λ (items : List Item). KnowsTags old.tags (tag_rows items)) (sym (items_page store url)) t.tags;
      live =
          ap (λ (n : ℕ). n + live) t.live ∙ ap (λ (n : ℕ). live_slots store + n) slots
          ∙ sym (live_page store url origin none of);
      page = ap (λ (n : ℕ). n + 1) t.page ∙ sym (ap (λ (s : Store). s.ids.page) new);
      item = t.item ∙ sym (ap (λ (s : Store). s.ids.item) new);
      ready = ready_page store url t.ready;
    }

-- a page that was there is counted no more
pub page_passed : (old : Tally) (store : Store) (url : List ℕ) (pages : Pages) (page : ℕ) → IsTallyOf old store
    → option_map (λ (p : Page). p.id.0) (find_page url store.pages) ≡ Some page
    → KnowsPages pages (with_page (new_page store url) store.pages)
    → IsTallyOf (record old { pages = pages }) (with_page_for store url)
page_passed old store url pages page t some known =
    let same : with_page_for store url ≡ store = found_store store url page some in
    subst (IsTallyOf (record old { pages = pages })) (sym same)
    (record {
      pages = subst (λ (s : Store). KnowsPages pages s.pages) same (knows_for store url pages known);
      tags = t.tags;
      live = t.live;
      page = t.page;
      item = t.item;
      ready = t.ready;
    })

-- ---- a tag

-- all ids of the tags lie below the tally's next one
pub below_item : (tally : Tally) (store : Store) → IsTallyOf tally store
    → AreBelow tally.next_item (tag_rows store.items)
below_item tally store t =
    subst (λ (n : ℕ). AreBelow n (tag_rows store.items)) (sym t.item) (below_rows store t.ready)

-- what a page that wants a tag counts: items, and slots
abbrev tag_items : Entering → ℕ
tag_items Has = 0
tag_items (Known folder) = 1
tag_items (New last) = 2

abbrev tag_slots : List ℕ → Entering → ℕ
tag_slots name Has = 0
tag_slots name (Known folder) = 1
tag_slots name (New last) = 2 + chunks name

-- the store has so many items and slots more
record HasCounted (name : List ℕ) (entering : Entering) (old new : Store) : Type 0 where
  pub live : live_slots new ≡ live_slots old + tag_slots name entering
  pub item : new.ids.item ≡ old.ids.item + tag_items entering

no_name : (o : Option Item) (r : Option TagRow)
    → option_map (λ (t : Item). t.id) o ≡ option_map (λ (r : TagRow). item_id r.id) r → is_none o ≡ is_none r
no_name None None same = refl
no_name None (Some r) same = absurd (cc)
no_name (Some t) None same = absurd (cc)
no_name (Some t) (Some r) same = refl

-- no tag has the name where none has its fold
unnamed : (items : List Item) (name : List ℕ)
    → is_none (tag_named name items) ≡ is_none (row_with (folded name) (tag_rows items))
unnamed items name =
    no_name (tag_named name items) (row_with (folded name) (tag_rows items)) (named items name)

module _ (store : Store) (id : PageId) (date : Micros) (name : List ℕ) where
  -- a tag that the page has
  tag_passed : is_some (tag_entry id name store.items) ≡ true → with_tag id date name store ≡ store
  tag_passed has = ap (λ (b : Bool). if b then store else tagged_store id name date store) has

  -- and one that it has not
  tag_added : is_some (tag_entry id name store.items) ≡ false
      → with_tag id date name store ≡ tagged_store id name date store
  tag_added lacks = ap (λ (b : Bool). if b then store else tagged_store id name date store) lacks

  counted_more : (b : Bool) → is_none (tag_named name store.items) ≡ b
      → live_slots (tagged_store id name date store)
      ≡ live_slots store + ((if b then 2 else 1) + (if b then chunks name else 0))
  counted_more b is =
      live_tagged store id name date
      ∙ ap (λ (a : Bool). live_slots store + (if a then 2 else 1) + (if a then chunks name else 0)) is
      ∙ add_assoc (live_slots store) (if b then 2 else 1) (if b then chunks name else 0)

  counted : (entering : Entering) → IsEntering id (folded name) (tag_rows store.items) entering
      → HasCounted name entering store (with_tag id date name store)
  counted Has has =
      let same : with_tag id date name store ≡ store = tag_passed (held store.items id name ∙ has) in
      record {
        live = ap live_slots same ∙ sym (add-zero (live_slots store));
        item = ap (λ (s : Store). s.ids.item) same ∙ sym (add-zero store.ids.item);
      }
  counted (Known folder) (row, is, lacks, at) =
      let more : with_tag id date name store ≡ tagged_store id name date store =
      tag_added (held store.items id name ∙ lacks) in
      let some : is_none (tag_named name store.items) ≡ false =
      unnamed store.items name ∙ ap (λ (r : Option TagRow). is_none r) is in
      record {
        live = ap live_slots more ∙ counted_more false some;
        item =
            ap (λ (s : Store). s.ids.item) more
            ∙ ap (λ (b : Bool). store.ids.item + (if b then 2 else 1)) some;
      }
  counted (New last) (none, at) =
      let more : with_tag id date name store ≡ tagged_store id name date store =
      tag_added (held store.items id name ∙ ap (holds_in id) none) in
      let new : is_none (tag_named name store.items) ≡ true =
      unnamed store.items name ∙ ap (λ (r : Option TagRow). is_none r) none in
      record {
        live = ap live_slots more ∙ counted_more true new;
        item =
            ap (λ (s : Store). s.ids.item) more
            ∙ ap (λ (b : Bool). store.ids.item + (if b then 2 else 1)) new;
      }

  same_page : (with_tag id date name store).ids.page ≡ store.ids.page
  same_page = choose (is_some (tag_entry id name store.items))
    where
      choose : (b : Bool) → (if b then store else tagged_store id name date store).ids.page ≡ store.ids.page
      choose true = refl
      choose false = refl

  pub tag_taken : (old new : Tally) (tags : Tags) (live item : ℕ) (entering : Entering) → IsTallyOf old store
      → IsTagName name → IsDate date → IsTrue (has_page_at store id)
      → IsEntering id (folded name) (tag_rows store.items) entering
      → KnowsTags tags (entered id name old.next_item (tag_rows store.items))
      → new ≡ record old { tags = tags; live = live; next_item = item } → live ≡ old.live + tag_slots name entering
      → item ≡ old.next_item + tag_items entering → IsTallyOf new (with_tag id date name store)
  tag_taken old new tags live item entering t fits dated there enters known is live_is item_is =
      let more : HasCounted name entering store (with_tag id date name store) = counted entering enters in
      let rows : entered id name old.next_item (tag_rows store.items) ≡ tag_rows (with_tag id date name store).items =
      ap (λ (n : ℕ). entered id name n (tag_rows store.items)) t.item ∙ sym (tags_tag store id date name t.ready) in
      let now : IsTallyOf (record old { tags = tags; live = live; next_item = item }) (with_tag id date name store) =
      record {
        pages = subst (KnowsPages old.pages) (sym (pages_tag store id date name)) t.pages;
        tags = subst (KnowsTags tags) rows known;
        live = live_is ∙ ap (λ (n : ℕ). n + tag_slots name entering) t.live ∙ sym more.live;
        page = t.page ∙ sym same_page;
        item = item_is ∙ ap (λ (n : ℕ). n + tag_items entering) t.item ∙ sym more.item;
        ready = ready_tag store id date name t.ready fits dated there;
      } in
      subst (λ (tally : Tally). IsTallyOf tally (with_tag id date name store)) (sym is) now

-- ---- tags

with_tags-push : (id : PageId) (date : Micros) (names : List (List ℕ)) (name : List ℕ) (store : Store)
    → with_tags id date (names ++ name ∷ []) store ≡ with_tag id date name (with_tags id date names store)
with_tags-push id date [] name store = refl
with_tags-push id date (n ∷ names) name store = with_tags-push id date names name (with_tag id date n store)

-- the page is there behind tags
pub there_tags : (id : PageId) (date : Micros) (names : List (List ℕ)) (store : Store) → IsTrue (has_page_at store id)
    → IsTrue (has_page_at (with_tags id date names store) id)
there_tags id date names store there =
    ap (list_any (λ (p : Page). p.id.0 == id.0)) (pages_tags id date names store) ∙ there

pub tags_more : (id : PageId) (date : Micros) (names : List (List ℕ)) (i : ℕ) (name : List ℕ) (store : Store)
    → i < length names → name ≡ get_or names i name
    → with_tag id date name (with_tags id date (take i names) store) ≡ with_tags id date (take (i + 1) names) store
tags_more id date names i name store within is =
    sym (with_tags-push id date (take i names) name store)
    ∙ ap (λ (n : List ℕ). with_tags id date (take i names ++ n ∷ []) store) is
    ∙ ap (λ (ns : List (List ℕ)). with_tags id date ns store) (sym (take_more names i name within))

-- ---- a node

item_taken : (old new : Tally) (store : Store) (parent : ItemId) (row : ItemRow) (title : List ℕ) (slots : ℕ)
    → IsTallyOf old store → Takes store parent → IsReady (with_row parent row title store) → slots ≡ chunks title
    → new ≡ record old { live = old.live + (1 + slots); next_item = old.next_item + 1 }
    → IsTallyOf new (with_row parent row title store)
item_taken old new store parent row title slots t takes ready is made =
    let next : Store = with_row parent row title store in
    let now : IsTallyOf (record old { live = old.live + (1 + slots); next_item = old.next_item + 1 }) next =
    record {
      pages = t.pages;
      tags = subst (KnowsTags old.tags) (sym (tags_row store parent row title t.ready takes)) t.tags;
      live =
          ap (λ (n : ℕ). old.live + (1 + n)) is ∙ ap (λ (n : ℕ). n + (1 + chunks title)) t.live
          ∙ sym (add_assoc (live_slots store) 1 (chunks title)) ∙ sym (live_row store parent row title);
      page = t.page;
      item = ap (λ (n : ℕ). n + 1) t.item;
      ready = ready;
    } in
    subst (λ (tally : Tally). IsTallyOf tally next) (sym made) now

pub item_of_taken : (paged new : Tally) (store : Store) (parent : ItemId) (node : Node) (slots : ℕ)
    → IsFormed node → IsTitle (cut_title node.title) → IsTallyOf paged (with_page_of node.url store)
    → Takes store parent → slots ≡ chunks (cut_title node.title)
    → new ≡ record paged { live = paged.live + (1 + slots); next_item = paged.next_item + 1 }
    → IsTallyOf new (with_item_of parent node store)
item_of_taken paged new store parent node slots f title t takes is made =
    let takes_it : Takes (with_page_of node.url store) parent = takes_page_of node.url store parent takes in
    item_taken paged new (with_page_of node.url store) parent (node_row parent (page_of node.url store) node)
    (cut_title node.title) slots t takes_it
    (ready_row (with_page_of node.url store) parent (node_row parent (page_of node.url store) node)
    (cut_title node.title) t.ready takes_it title f.added f.modified (kind_fits node.kind node.url store f.bookmark)
    (page_there node.url store))
    is made

-- ---- a node with and without an address

module _ (store : Store) (parent : ItemId) (node : Node) where
  pub without_url : node.url ≡ None → with_item_of parent node store ≡ with_node parent node store
  without_url none =
      ap (λ (url : Option (List ℕ)). with_tags_of (page_of url store) node (with_item_of parent node store)) (sym none)

  pub with_url : (url : List ℕ) → node.url ≡ Some url
      → with_tags (page_for store url).id node.added node.tags (with_item_of parent node store)
      ≡ with_node parent node store
  with_url url some =
      ap (λ (u : Option (List ℕ)). with_tags_of (page_of u store) node (with_item_of parent node store)) (sym some)

  -- its page is there behind its item
  pub there_item : (url : List ℕ) → node.url ≡ Some url
      → IsTrue (has_page_at (with_item_of parent node store) (page_for store url).id)
  there_item url some =
      ap (λ (u : Option (List ℕ)). has_page_at (with_page_of u store) (page_for store url).id) some
      ∙ has_page_for store url
