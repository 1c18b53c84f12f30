-- The freshest of a page's bookmarks, by a walk over its items.
use Rattle.std.proofs.Common.{◌≡◌, ◌≢◌, ◌∙◌, ◌<◌, ◌++◌, ◌&&◌, ◌||◌, ◌==◌, ℕ, Bool, true, false, not, List, [], ◌∷◌}
use Rattle.std.proofs.Common.{Option, Some, None, IfSome, ap, arith, eqb, filter, if◌then◌else◌, ltb, map, nat_lt}
use Rattle.std.proofs.Common.{is_some, refl, subst, suc, sym, unwrap_or}
use Rattle.std.specs.List.{AllByRecursion, AllPairs}
use Rattle.std.specs.Option.{is_none, option_map}
use Rattle.std.proofs.lemmas.Bool.Decides.{nat_tests}
use Rattle.std.proofs.lemmas.List.{append-nil}
use Rattle.std.proofs.lemmas.List.Elements.{filter-append, recursion_from_All}
use Rattle.std.proofs.lemmas.List.Kept.{AllPairs-filter, AllPairs-from_increasing}
use Rattle.pl_base.specs.declared.id.ItemId.{ItemId}
use Rattle.pl_base.specs.declared.id.PageId.{PageId}
use Rattle.pl_base.specs.declared.item.ItemRow.{ItemRow}
use Rattle.pl_base.specs.Rows.{IsWellKept, Kept, store_of}
use Rattle.pl_base.specs.Store.{Item, Store}
use Rattle.pl_base.specs.Tags.{is_tag_entry}
use Rattle.pl_base.specs.Tree.{has_item, is_page, item_at, item_row, item_title, reference_behind}
use Rattle.pl_base.specs.View.{bookmarks_of, fresher_of, freshest, is_fresher, mark_title}
use Rattle.pl_base.proofs.ListLaws.{AllPairs-from_map, all-filter}
use Rattle.pl_base.proofs.LookUps.{found_passes, found_some, part}
use Rattle.pl_base.proofs.ItemLookUps.{same_item}
use Rattle.pl_base.proofs.ReferencesRun.{having, item_here, item_names, items_found, references_run}
use Rattle.pl_base.proofs.Walk.{StandsAt, Walk, ends, goes_on, stands}
use Rattle.pl_marks.specs.declared.bookmarks.Dated.{Dated}
use Rattle.pl_marks.specs.Freshest.{dated, dated_bookmark, later}
use Rattle.pl_marks.specs.TagFolders.{tag_folder}
use Rattle.pl_marks.proofs.PageTags.{is_outside, outside_is}

-- ---- one item more

-- the freshest, with an item of a greater id
abbrev newer : Option Item → Item → Item
newer None new = new
newer (Some old) new = if nat_lt new.modified.0 old.modified.0 then old else new

-- by dates and ids

by_dates : (date other id than : ℕ) → id < than → (ltb other date || (eqb date other && ltb than id)) ≡ ltb other date
by_dates date other id than less = grind (arith, nat_tests)

stays_older : (date other new id than : ℕ) → ltb new other ≡ true
    → (ltb other date || (eqb date other && ltb than id)) ≡ true → ltb new date ≡ true
stays_older date other new id than older fresher = grind (arith, nat_tests)

stays_newer : (date other new id than : ℕ) → ltb new other ≡ false
    → (ltb other date || (eqb date other && ltb than id)) ≡ false → ltb new date ≡ false
stays_newer date other new id than newest not_fresher = grind (arith, nat_tests)

with_newer : (w x : Item) (o : Option Item) → w.id.0 < x.id.0
    → fresher_of w (Some (newer o x)) ≡ newer (Some (fresher_of w o)) x
with_newer w x None less =
    ap (λ (b : Bool). if b then w else x) (by_dates w.modified.0 x.modified.0 w.id.0 x.id.0 less)
with_newer w x (Some y) less = choose (ltb x.modified.0 y.modified.0) refl (is_fresher w y) refl
  where
    last : (is_fresher w x) ≡ ltb x.modified.0 w.modified.0
    last = by_dates w.modified.0 x.modified.0 w.id.0 x.id.0 less

    choose : (a : Bool) → ltb x.modified.0 y.modified.0 ≡ a → (b : Bool) → is_fresher w y ≡ b
        → fresher_of w (Some (if a then y else x)) ≡ newer (Some (if b then w else y)) x
    choose true older true fresher =
        rw (fresher, stays_older w.modified.0 y.modified.0 x.modified.0 w.id.0 y.id.0 older fresher) refl
    choose true older false other = rw (other, older) refl
    choose false newest true fresher = ap (λ (b : Bool). if b then w else x) last
    choose false newest false other =
        rw (last, stays_newer w.modified.0 y.modified.0 x.modified.0 w.id.0 y.id.0 newest other, newest) refl

freshest_more : (xs : List Item) (x : Item) → AllByRecursion (λ (w : Item). w.id.0 < x.id.0) xs
    → freshest (xs ++ x ∷ []) ≡ Some (newer (freshest xs) x)
freshest_more [] x low = refl
freshest_more (w ∷ ws) x low =
    ap (λ (o : Option Item). Some (fresher_of w o)) (freshest_more ws x low.1)
    ∙ ap (λ (i : Item). Some i) (with_newer w x (freshest ws) low.0)

-- ---- the bookmarks among the items of the page

bookmarks_are : (store : Store) (page : PageId) (items : List Item)
    → filter (λ (i : Item). is_page page i.page && not (is_tag_entry store i.id)) items
    ≡ filter (is_outside store.items) (having items page)
bookmarks_are store page [] = refl
bookmarks_are store page (i ∷ items) = choose (is_page page i.page) (bookmarks_are store page items)
  where
    outside : List Item → List Item
    outside is = filter (is_outside store.items) is

    choose : (b : Bool)
        → filter (λ (j : Item). is_page page j.page && not (is_tag_entry store j.id)) items
        ≡ outside (having items page)
        → (if b && not (is_tag_entry store i.id)
        then i ∷ filter (λ (j : Item). is_page page j.page && not (is_tag_entry store j.id)) items
        else filter (λ (j : Item). is_page page j.page && not (is_tag_entry store j.id)) items)
        ≡ outside (if b then i ∷ having items page else having items page)
    choose true rest =
        ap (λ (is : List Item). if not (is_tag_entry store i.id) then i ∷ is else is) rest
        ∙ ap (λ (b : Bool). if b then i ∷ outside (having items page) else outside (having items page))
        (sym (outside_is store i.id))
    choose false rest = rest

-- ---- the walk

-- the freshest bookmark of these items
abbrev pub HasFreshest : List Item → Option Dated → List Item → Type 0
HasFreshest items found front = found ≡ option_map dated (freshest (filter (is_outside items) front))

below : (front : List Item) (i : Item) (rest : List Item)
    → AllPairs (λ (a b : Item). a.id.0 < b.id.0) (front ++ i ∷ rest)
    → AllByRecursion (λ (w : Item). w.id.0 < i.id.0) front
below [] i rest pairs = tt
below (w ∷ front) i rest pairs = (
  part (λ (x : Item). w.id.0 < x.id.0) front i rest
      (recursion_from_All (λ (x : Item). w.id.0 < x.id.0) (front ++ i ∷ rest)
      (λ k d within. pairs 0 (suc k) d (omega arith) (omega arith))),
  below front i rest (λ a b d before within. pairs (suc a) (suc b) d (omega arith) (omega arith)),
)

below_here : (kept : Kept) (page : PageId) (P : List Item → Type 0) (id : ItemId) → IsWellKept kept
    → (w : StandsAt item_names (having kept.items page) P id) → AllByRecursion (λ (i : Item). i.id.0 < w.element.id.0)
    w.front
below_here kept page P id h w =
    below w.front w.element w.rest
    (subst (AllPairs (λ (a b : Item). a.id.0 < b.id.0)) w.whole
    (AllPairs-filter (λ (a b : Item). a.id.0 < b.id.0) (λ (i : Item). is_page page i.page) kept.items
    (AllPairs-from_map (λ m n. m < n) (λ (i : Item). i.id.0) kept.items
    (AllPairs-from_increasing (map (λ (i : Item). i.id.0) kept.items) h.item_ids.ascending))))

dated_newer : (o : Option Item) (x : Item)
    → later (option_map dated o) (Some (dated x)) ≡ Some (dated (newer o x))
dated_newer None x = refl
dated_newer (Some y) x = choose (ltb x.modified.0 y.modified.0)
  where
    choose : (b : Bool)
        → (if b then Some (dated y) else Some (dated x)) ≡ Some (dated (if b then y else x))
    choose true = refl
    choose false = refl

freshest_here : (kept : Kept) (page : PageId) (id : ItemId) (found : Option Dated) → IsWellKept kept
    → (w : StandsAt item_names (having kept.items page) (HasFreshest kept.items found) id)
    → HasFreshest kept.items (later found (dated_bookmark kept.items w.element)) (w.front ++ w.element ∷ [])
freshest_here kept page id found h w =
    ap (λ (o : Option Dated). later o (dated_bookmark kept.items w.element)) w.so_far
    ∙ choose (is_outside kept.items w.element)
    ∙ ap (λ (is : List Item). option_map dated (freshest is)) (sym (filter-append outside w.front (w.element ∷ [])))
  where
    outside : Item → Bool
    outside i = is_outside kept.items i

    so_far : List Item
    so_far = filter outside w.front

    choose : (b : Bool)
        → later (option_map dated (freshest so_far)) (if b then Some (dated w.element) else None)
        ≡ option_map dated (freshest (so_far ++ (if b then w.element ∷ [] else [])))
    choose true =
        dated_newer (freshest so_far) w.element
        ∙ ap (option_map dated) (sym (freshest_more so_far w.element
        (all-filter (λ (i : Item). i.id.0 < w.element.id.0) outside w.front
        (below_here kept page (HasFreshest kept.items found) id h w))))
    choose false = ap (λ (is : List Item). option_map dated (freshest is)) (sym (append-nil so_far))

pub freshest_goes_on : (kept : Kept) (page : PageId) (now next : Option ItemId) (id : ItemId)
    (found here new : Option Dated) → IsWellKept kept → Walk item_names (having kept.items page)
    (HasFreshest kept.items found) now
    → now ≡ Some id → next ≡ reference_behind kept.items id
    → ((i : Item) → item_at kept.items id ≡ Some i → here ≡ dated_bookmark kept.items i) → new ≡ later found here
    → Walk item_names (having kept.items page) (HasFreshest kept.items new) next
freshest_goes_on kept page now next id found here new h walk at is told new_is =
    let w : StandsAt item_names (having kept.items page) (HasFreshest kept.items found) id =
    stands item_names (having kept.items page) (HasFreshest kept.items found) now id walk at in
    goes_on item_names (reference_behind kept.items) (having kept.items page) (HasFreshest kept.items found)
    (HasFreshest kept.items new) id next (references_run kept page h) w is (new_is
    ∙ ap (later found) (told w.element (item_here kept page (HasFreshest kept.items found) id h w))
    ∙ freshest_here kept page id found h w)

-- what is known of an item, by its row and by whether it is in a tag folder
pub bookmark_is : (items : List Item) (id : ItemId) (i : Item) (inside : Bool) → item_at items id ≡ Some i
    → is_some (tag_folder items id) ≡ inside
    → dated_bookmark items i ≡ (if inside then None else Some (dated i))
bookmark_is items id i inside at is =
    ap (λ (b : Bool). if b then Some (dated i) else None) (none_if here) ∙ turned inside
  where
    here : is_some (tag_folder items i.id) ≡ inside
    here =
        ap (λ (j : ItemId). is_some (tag_folder items j))
        (same_item i.id id (found_passes (λ (j : Item). j.id.0 == id.0) items i at))
        ∙ is

    opposite : (o : Option ItemId) → is_none o ≡ not (is_some o)
    opposite None = refl
    opposite (Some f) = refl

    none_if : is_some (tag_folder items i.id) ≡ inside → is_none (tag_folder items i.id) ≡ not inside
    none_if some = opposite (tag_folder items i.id) ∙ ap not some

    turned : (b : Bool) → (if not b then Some (dated i) else None) ≡ (if b then None else Some (dated i))
    turned true = refl
    turned false = refl

-- the item's row tells its date
pub dated_by_row : (items : List Item) (id : ItemId) (i : Item) (row : ItemRow) → item_at items id ≡ Some i
    → Some row ≡ option_map (item_row items) (item_at items id)
    → ◌≡◌ {A = Dated} (record { item = id; modified = row.modified }) (dated i)
dated_by_row items id i row at is =
    let same_row : Some row ≡ Some (item_row items i) = is ∙ ap (option_map (item_row items)) at in
    let row_is : row ≡ item_row items i = cc in
    rw (row_is, same_item i.id id (found_passes (λ (j : Item). j.id.0 == id.0) items i at)) refl

-- at its end the walk has the freshest of the page's bookmarks
pub freshest_at_end : (kept : Kept) (page : PageId) (next : Option ItemId) (found : Option Dated)
    → Walk item_names (having kept.items page) (HasFreshest kept.items found) next → ((id : ItemId) → next ≢ Some id)
    → found ≡ option_map dated (freshest (bookmarks_of (store_of kept) page))
freshest_at_end kept page next found w none =
    ends item_names (having kept.items page) (HasFreshest kept.items found) next w none
    ∙ ap (λ (is : List Item). option_map dated (freshest is))
    (sym (bookmarks_are (store_of kept) page kept.items))

pub id_at_end : (o : Option Item) (found : Option Dated) → found ≡ option_map dated o
    → option_map (λ (d : Dated). d.item) found ≡ option_map (λ (i : Item). i.id) o
id_at_end None found is = ap (option_map (λ (d : Dated). d.item)) is
id_at_end (Some i) found is = ap (option_map (λ (d : Dated). d.item)) is

-- ---- its title

holds_freshest : (P : Item → Type 0) (items : List Item) (i : Item) → AllByRecursion P items
    → freshest items ≡ Some i → P i
holds_freshest P [] i all is = absurd (cc)
holds_freshest P (w ∷ ws) i all is = choose (freshest ws) refl (holds_freshest P ws)
  where
    pick : (y : Item) → P y → (b : Bool) → P (if b then w else y)
    pick y held true = all.0
    pick y held false = held

    fresher : (o : Option Item) → IfSome o P → P (fresher_of w o)
    fresher None held = all.0
    fresher (Some y) held = pick y held (is_fresher w y)

    held : (o : Option Item) → freshest ws ≡ o → ((j : Item) → AllByRecursion P ws → freshest ws ≡ Some j → P j)
        → IfSome o P
    held None at rest = tt
    held (Some y) at rest = rest y all.1 at

    choose : (o : Option Item) → freshest ws ≡ o
        → ((j : Item) → AllByRecursion P ws → freshest ws ≡ Some j → P j) → P i
    choose o at rest =
        let same : fresher_of w (freshest ws) ≡ i = cc in
        subst P (ap (fresher_of w) (sym at) ∙ same) (fresher o (held o at rest))

-- the freshest bookmark is an item
freshest_found : (kept : Kept) (page : PageId) (i : Item) → IsWellKept kept
    → freshest (bookmarks_of (store_of kept) page) ≡ Some i → item_at kept.items i.id ≡ Some i
freshest_found kept page i h is =
    holds_freshest (λ (j : Item). item_at kept.items j.id ≡ Some j) (bookmarks_of (store_of kept) page) i
    (all-filter (λ (j : Item). item_at kept.items j.id ≡ Some j)
    (λ (j : Item). is_page page j.page && not (is_tag_entry (store_of kept) j.id)) kept.items (items_found kept h))
    is

pub record IsFreshest (kept : Kept) (page : PageId) (id : ItemId) : Type 0 where
  pub there : has_item kept.items id ≡ true
  pub title : item_title kept.items id ≡ Some (mark_title (store_of kept) page)

pub freshest_is : (kept : Kept) (page : PageId) (id : ItemId) → IsWellKept kept
    → Some id ≡ option_map (λ (i : Item). i.id) (freshest (bookmarks_of (store_of kept) page))
    → IsFreshest kept page id
freshest_is kept page id h is = choose (freshest (bookmarks_of (store_of kept) page)) refl is
  where
    choose : (o : Option Item) → freshest (bookmarks_of (store_of kept) page) ≡ o
        → Some id ≡ option_map (λ (i : Item). i.id) o → IsFreshest kept page id
    choose None none is = absurd (cc)
    choose (Some i) one is =
        let same : i.id ≡ id = cc in
        let at : item_at kept.items id ≡ Some i =
        ap (item_at kept.items) (sym same) ∙ freshest_found kept page i h one in
        record {
          there = found_some (λ (j : Item). j.id.0 == id.0) kept.items i at;
          title =
              ap (option_map (λ (j : Item). j.title)) at
              ∙ ap (λ (o : Option Item). Some (unwrap_or (option_map (λ (j : Item). j.title) o) [])) (sym one);
        }

-- without a bookmark the title is empty
pub no_title : (store : Store) (page : PageId)
    → None ≡ option_map (λ (i : Item). i.id) (freshest (bookmarks_of store page)) → [] ≡ mark_title store page
no_title store page is = choose (freshest (bookmarks_of store page)) is
  where
    choose : (o : Option Item) → None ≡ option_map (λ (i : Item). i.id) o
        → [] ≡ unwrap_or (option_map (λ (i : Item). i.title) o) []
    choose None none = refl
    choose (Some i) some = absurd (cc)
