-- What an import keeps where a page gets a tag.
use mir.Val.{bool_byte}
use Rattle.std.proofs.Common.{◌≡◌, ◌≢◌, ◌∙◌, ◌<◌, ◌≤◌, ◌+◌, ◌==◌, ℕ, Bool, true, false, List, ap, arith, drop}
use Rattle.std.proofs.Common.{get_or, if◌then◌else◌, length, not, refl, subst, sym}
use Rattle.std.specs.List.{AllPairs, list_any, sum_by}
use Rattle.std.specs.Option.{is_none, is_some}
use Rattle.std.proofs.lemmas.List.{drop_all, drop_more}
use Rattle.pl_base.specs.declared.date.Micros.{Micros}
use Rattle.pl_base.specs.declared.id.PageId.{PageId}
use Rattle.pl_base.specs.Fold.{folded}
use Rattle.pl_base.specs.Good.{HasGoodItems, has_page_at}
use Rattle.pl_base.specs.Rows.{Kept, KeptPage, has_page, store_of}
use Rattle.pl_base.specs.Store.{Page, Store}
use Rattle.pl_base.specs.Tree.{children_of}
use Rattle.pl_base.proofs.ListLaws.{list_any-map}
use Rattle.pl_tree.specs.Tagged.{tag_entry, tag_named}
use Rattle.pl_keyed.specs.KnownTags.{KnowsTags}
use Rattle.pl_keyed.specs.TagRows.{TagRow, entered, holds_in, row_with, tag_rows}
use Rattle.pl_graft.specs.declared.grafting.Grafting.{Grafting}
use Rattle.pl_graft.specs.Gained.{Grows, has_new_item}
use Rattle.pl_graft.specs.Import.{entry_count, tagged_store, with_tag, with_tags}
use Rattle.pl_graft.specs.Ready.{Takes}
use Rattle.pl_graft.specs.Standing.{GoesOn, HasRoom, IsStanding, KeepsFolders, is_gained}
use Rattle.pl_graft.proofs.GoingOn.{gained_as}
use Rattle.pl_graft.proofs.NodeLaws.{pages_tag}
use Rattle.pl_graft.proofs.NewItems.{tag_items}
use Rattle.pl_graft.proofs.Ready.{IsReady, children_tag, count_entered, counted, held, tags_tag, takes_tag}
use Rattle.pl_graft.proofs.Rooms.{room_before}
use Rattle.pl_graft.proofs.Slots.{IsAtMost, at_most_tag, at_most_tags}

-- one tag is made, unless the page has it
abbrev pub made_by : Bool → ℕ
made_by has = if has then 0 else 1

pub made_one : (before : ℕ) (has new : Bool) (one : ℕ) → new ≡ not has → one ≡ bool_byte new
    → before + one ≡ before + made_by has
made_one before true new one is count = omega (arith, count ∙ ap bool_byte is)
made_one before false new one is count = omega (arith, count ∙ ap bool_byte is)

-- ---- what stays

pub tag_folders : (old new : Kept) (page : PageId) (date : Micros) (name : List ℕ) → IsReady (store_of old)
    → store_of new ≡ with_tag page date name (store_of old) → KeepsFolders (store_of old) (store_of new)
tag_folders old new page date name is made =
    record {
      takes =
          λ folder takes. subst (λ (s : Store). Takes s folder) (sym made)
          (takes_tag (store_of old) page date name is folder takes);
      children =
          λ folder takes. ap (λ (s : Store). children_of s.items folder) made
          ∙ children_tag (store_of old) page date name is folder takes;
    }

-- ---- what is counted

tag_count : (store : Store) (page : PageId) (date : Micros) (name : List ℕ) → IsReady store
    → IsReady (with_tag page date name store)
    → AllPairs (λ (a b : TagRow). a.id ≢ b.id) (tag_rows store.items)
    → entry_count (with_tag page date name store).items
    ≡ entry_count store.items + made_by (is_some (tag_entry page name store.items))
tag_count store page date name is after once =
    counted (with_tag page date name store) after
    ∙ ap (sum_by (λ (r : TagRow). length r.entries)) (tags_tag store page date name is)
    ∙ count_entered (tag_rows store.items) page name store.ids.item once
    ∙ ap (λ n. n + made_by (holds_in page (row_with (folded name) (tag_rows store.items)))) (sym (counted store is))
    ∙ ap (λ (b : Bool). entry_count store.items + made_by b) (sym (held store.items page name))

pub tag_goes_on : (old new : Kept) (page : PageId) (date : Micros) (name : List ℕ) (before after : Grafting)
    → IsReady (store_of old) → IsReady (store_of new) → IsStanding (store_of old) before → Grows old new
    → store_of new ≡ with_tag page date name (store_of old)
    → after.made ≡ before.made + made_by (is_some (tag_entry page name old.items)) → after.gained ≡ before.gained
    → is_gained before page ≡ true → GoesOn old new before after
tag_goes_on old new page date name before after is ready standing grows made count gained has =
    let store : Store = store_of old in
    let tags : entry_count new.items ≡ entry_count old.items + made_by (is_some (tag_entry page name old.items)) =
    ap (λ (s : Store). entry_count s.items) made
    ∙ tag_count store page date name is (subst IsReady made ready) standing.tags.ids in
    record {
      grows = grows;
      later = omega (arith, (at_most_tag store page date name).item, ap (λ (s : Store). s.ids.item) made);
      tags = omega (arith, tags, count);
      pages =
          λ first least had. gained_as first old.items new.items before after gained
          (λ other. ap (λ (s : Store). has_new_item first s.items other) made
          ∙ tag_items first store page date name other least (sym (had page) ∙ has)) had;
    }

-- ---- the look-ups

some_new : (b : Bool) → ◌≤◌ 1 (if b then 2 else 1)
some_new true = omega arith
some_new false = omega arith

few_made : (store : Store) (page : PageId) (date : Micros) (name : List ℕ) (before after : ℕ)
    → before < store.ids.item → after ≡ before + made_by (is_some (tag_entry page name store.items))
    → after < (with_tag page date name store).ids.item
few_made store page date name before after less count =
    choose (is_some (tag_entry page name store.items)) count
  where
    choose : (b : Bool) → after ≡ before + made_by b
        → after < (if b then store else tagged_store page name date store).ids.item
    choose true is = omega (arith, is)
    choose false is = omega (arith, is, some_new (is_none (tag_named name store.items)))

pub tag_standing : (old new : Kept) (page : PageId) (date : Micros) (name : List ℕ) (before after : Grafting)
    → IsReady (store_of old) → IsStanding (store_of old) before → HasGoodItems (store_of new)
    → store_of new ≡ with_tag page date name (store_of old)
    → KnowsTags after.tags (entered page name old.ids.item (tag_rows old.items)) → after.pages ≡ before.pages
    → after.made ≡ before.made + made_by (is_some (tag_entry page name old.items)) → IsStanding (store_of new) after
tag_standing old new page date name before after is standing good made knows pages count =
    let store : Store = store_of old in
    record {
      good = good;
      pages =
          rw (ap (λ (s : Store). s.pages) made ∙ pages_tag store page date name, pages) standing.pages;
      tags =
          rw (ap (λ (s : Store). tag_rows s.items) made ∙ tags_tag store page date name is) knows;
      made =
          subst (λ (s : Store). after.made < s.ids.item) (sym made)
          (few_made store page date name before.made after.made standing.made count);
    }

-- ---- some tags

pub folders_same : (store : Store) → KeepsFolders store store
folders_same store = record { takes = λ folder takes. takes; children = λ folder takes. refl }

pub folders_then : (a b c : Store) → KeepsFolders a b → KeepsFolders b c → KeepsFolders a c
folders_then a b c first next =
    record {
      takes = λ folder takes. next.takes folder (first.takes folder takes);
      children =
          λ folder takes. next.children folder (first.takes folder takes) ∙ first.children folder takes;
    }

-- one of some tags, and what is left
tags_one : (store : Store) (page : PageId) (date : Micros) (names : List (List ℕ)) (i : ℕ) (name : List ℕ)
    → i < length names → name ≡ get_or names i name
    → with_tags page date (drop i names) store
    ≡ with_tags page date (drop (i + 1) names) (with_tag page date name store)
tags_one store page date names i name within is =
    ap (λ (ns : List (List ℕ)). with_tags page date ns store) (drop_more names i name within)
    ∙ ap (λ (n : List ℕ). with_tags page date (drop (i + 1) names) (with_tag page date n store)) (sym is)

pub tags_left : (store new whole : Store) (page : PageId) (date : Micros) (names : List (List ℕ)) (i : ℕ)
    (name : List ℕ) → i < length names → name ≡ get_or names i name → with_tags page date (drop i names) store ≡ whole
    → new ≡ with_tag page date name store → with_tags page date (drop (i + 1) names) new ≡ whole
tags_left store new whole page date names i name within is left made =
    ap (with_tags page date (drop (i + 1) names)) made ∙ sym (tags_one store page date names i name within is) ∙ left

pub tags_end : (store : Store) (page : PageId) (date : Micros) (names : List (List ℕ)) (i : ℕ) → length names ≤ i
    → store ≡ with_tags page date (drop i names) store
tags_end store page date names i past =
    sym (ap (λ (ns : List (List ℕ)). with_tags page date ns store) (drop_all i names past))

pub tags_room : (store whole : Store) (page : PageId) (date : Micros) (names : List (List ℕ)) (i : ℕ) (name : List ℕ)
    → i < length names → name ≡ get_or names i name → with_tags page date (drop i names) store ≡ whole
    → HasRoom whole → HasRoom (with_tag page date name store)
tags_room store whole page date names i name within is left room =
    room_before (with_tag page date name store) whole
    (subst (IsAtMost (with_tag page date name store))
    (sym (tags_one store page date names i name within is) ∙ left)
    (at_most_tags (with_tag page date name store) page date (drop (i + 1) names)))
    room

pub has_by_store : (kept : Kept) (page : PageId) → has_page_at (store_of kept) page ≡ has_page kept page
has_by_store kept page =
    list_any-map (λ (p : Page). p.id.0 == page.0) (λ (p : KeptPage). p.page) kept.pages

pub tag_has_page : (old new : Kept) (page : PageId) (date : Micros) (name : List ℕ) (other : PageId)
    → store_of new ≡ with_tag page date name (store_of old) → has_page old other ≡ true → has_page new other ≡ true
tag_has_page old new page date name other made has =
    sym (has_by_store new other)
    ∙ ap (λ (pages : List Page). list_any (λ (p : Page). p.id.0 == other.0) pages)
    (ap (λ (s : Store). s.pages) made ∙ pages_tag (store_of old) page date name)
    ∙ has_by_store old other ∙ has

pub gained_still : (before after : Grafting) (page : PageId) → after.gained ≡ before.gained
    → is_gained before page ≡ true → is_gained after page ≡ true
gained_still before after page same has =
    ap (λ gained. list_any (λ (p : PageId). p.0 == page.0) gained.keys) same ∙ has
