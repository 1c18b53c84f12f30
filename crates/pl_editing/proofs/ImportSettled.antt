-- What holds of the rows behind an import: each page stands there, and what was computed of a page
-- that has no new item stays right.
use Rattle.std.proofs.Common.{◌≡◌, ◌≢◌, ◌∙◌, ◌<◌, ◌≤◌, ◌==◌, ◌&&◌, ◌||◌, ◌++◌, ℕ, All, Bool, true, false, IsTrue}
use Rattle.std.proofs.Common.{List, [], ◌∷◌, ap, arith, count_by, eq-eqb, filter, get_or}
use Rattle.std.proofs.Common.{map, refl, subst, sym}
use Rattle.std.specs.Prelude.{nat_le}
use Rattle.std.specs.List.{AllByRecursion, AllPairs, list_any}
use Rattle.std.proofs.Math.Bool.{or-false}
use Rattle.std.proofs.lemmas.Bool.{and_from, eqb-true, false_from_ne_true, false≢true, le-leb, ne_eqb}
use Rattle.std.proofs.lemmas.Bool.{or_left, or_parts, or_right}
use Rattle.std.proofs.lemmas.List.{append_cancel_left, map-append}
use Rattle.std.proofs.lemmas.List.Elements.{All-append, All-filter, All-from_recursion, All-map, All-nil, recursion_from_All}
use Rattle.std.proofs.lemmas.List.Folds.{list_any-append, list_any_at}
use Rattle.std.proofs.lemmas.List.Kept.{AllPairs-filter, AllPairs-from_increasing}
use Rattle.pl_base.specs.declared.date.Day.{Day}
use Rattle.pl_base.specs.declared.id.Ids.{Ids}
use Rattle.pl_base.specs.declared.id.PageId.{PageId}
use Rattle.pl_base.specs.Good.{HasGoodItems, is_visited}
use Rattle.pl_base.specs.Marks.{is_counted, visit_count}
use Rattle.pl_base.specs.Removal.{is_standing, without_idle_pages}
use Rattle.pl_base.specs.Rows.{HaveSums, IsSound, IsWellKept, Kept, KeptOrigin, KeptPage, has_page, store_of}
use Rattle.pl_base.specs.Store.{Item, Page, Store, Visit}
use Rattle.pl_base.specs.Tree.{is_page}
use Rattle.pl_base.proofs.ItemLaws.{bare}
use Rattle.pl_base.proofs.ListLaws.{All-from_map, AllPairs-from_map, AllPairs-map, all_stay, list_any-map, weaker}
use Rattle.pl_base.proofs.LookUps.{none_pass, rest_of}
use Rattle.pl_base.proofs.PagesRun.{Ascend, ascend}
use Rattle.pl_marks.specs.Refreshed.{IsRightPage}
use Rattle.pl_history.specs.Settled.{AreSettledBut}
use Rattle.pl_history.specs.Sound.{IsTypedRight}
use Rattle.pl_history.proofs.ItemMarks.{has_reference, right_alike}
use Rattle.pl_history.proofs.TakenVisits.{any-filter}
use Rattle.pl_nbread.specs.declared.tree.Tree.{Tree}
use Rattle.pl_graft.specs.Gained.{Grows, IsBlank, gained, has_new_item}
use Rattle.pl_graft.specs.Import.{imported}
use Rattle.pl_bearing.proofs.AddedItems.{AddsItems}
use Rattle.pl_bearing.proofs.ImportedReferences.{AddsPages, imported_items, imported_pages}
use Rattle.pl_editing.proofs.ItemsGone.{settled_with}
use Rattle.pl_editing.proofs.ListParts.{left, none_counted, right}

-- ---- the items of a page

module _ (first : ℕ) (old items : List Item) (page : PageId) (a : AddsItems first old items) where
  old_reference : has_reference a.front page ≡ has_reference old page
  old_reference =
      let test : Item → Bool = λ (i : Item). is_page page i.page in
      sym (list_any-map test bare a.front) ∙ ap (list_any test) a.same ∙ list_any-map test bare old

  references : has_reference items page ≡ (has_reference old page || has_reference a.added page)
  references =
      ap (λ (is : List Item). has_reference is page) a.is
      ∙ list_any-append (λ (i : Item). is_page page i.page) a.front a.added
      ∙ ap (λ (b : Bool). b || has_reference a.added page) old_reference

  -- an item has it that had it
  still_has : has_reference old page ≡ true → has_reference items page ≡ true
  still_has has = references ∙ or_left (has_reference old page) (has_reference a.added page) has

  -- without a new item an item has it or not as before
  pub has_as_before : has_new_item first items page ≡ false → has_reference items page ≡ has_reference old page
  has_as_before none =
      let new : Item → Bool = λ (i : Item). nat_le first i.id.0 && is_page page i.page in
      let apart : (list_any new a.front ≡ false) × (list_any new a.added ≡ false) =
      or_parts (list_any new a.front) (list_any new a.added)
      (sym (list_any-append new a.front a.added) ∙ ap (list_any new) (sym a.is) ∙ none) in
      references
      ∙ ap (λ (b : Bool). has_reference old page || b)
      (sym (all_new a.added (recursion_from_All (λ (i : Item). first ≤ i.id.0) a.added a.ids)) ∙ apart.1)
      ∙ or-false (has_reference old page)
    where
      all_new : (is : List Item) → AllByRecursion (λ (i : Item). first ≤ i.id.0) is
          → has_new_item first is page ≡ has_reference is page
      all_new [] above = refl
      all_new (i ∷ is) above = rw (le-leb first i.id.0 above.0, all_new is above.1) refl

-- a new item is one
pub has_new : (first : ℕ) (items : List Item) (page : PageId) → has_new_item first items page ≡ true
    → has_reference items page ≡ true
has_new first [] page some = absurd (cc)
has_new first (i ∷ items) page some = choose (nat_le first i.id.0) (is_page page i.page) some (has_new first items page)
  where
    choose : (above is : Bool) → (above && is || has_new_item first items page) ≡ true
        → (has_new_item first items page ≡ true → has_reference items page ≡ true)
        → (is || has_reference items page) ≡ true
    choose true true here rest = refl
    choose true false here rest = rest here
    choose false true here rest = refl
    choose false false here rest = rest here

-- ---- the pages with a new item

-- a page that is not among those that pass does not pass
not_among : (test : PageId → Bool) (pages : List Page)
    → All (λ (p : Page). list_any (λ (id : PageId). p.id.0 == id.0)
    (map (λ (q : Page). q.id) (filter (λ (q : Page). test q.id) pages)) ≡ false → test p.id ≡ false) pages
not_among test pages k d within none =
    let page : Page = get_or pages k d in
    let passing : List Page = filter (λ (q : Page). test q.id) pages in
    let same : Page → Bool = λ (q : Page). test q.id && (page.id.0 == q.id.0) in
    let apart : AllByRecursion (λ (q : Page). same q ≡ false) pages =
    none_pass same pages
    (sym (any-filter (λ (q : Page). page.id.0 == q.id.0) (λ (q : Page). test q.id) pages)
    ∙ sym (list_any-map (λ (id : PageId). page.id.0 == id.0) (λ (q : Page). q.id) passing) ∙ none) in
    false_from_ne_true (test page.id)
    (λ passes.
    false≢true (sym (All-from_recursion (λ (q : Page). same q ≡ false) pages apart k d within)
    ∙ and_from (test page.id) (page.id.0 == page.id.0) passes (eq-eqb page.id.0 page.id.0 refl)))

each_there : (pages : List Page) → All (λ (p : Page). IsTrue (list_any (λ (q : Page). q.id.0 == p.id.0) pages)) pages
each_there pages k d within =
    let page : Page = get_or pages k d in
    list_any_at (λ (q : Page). q.id.0 == page.id.0) pages k d within (eq-eqb page.id.0 page.id.0 refl)

pub gained_there : (old : Store) (new : Kept)
    → All (λ (id : PageId). IsTrue (has_page new id)) (gained old (store_of new))
gained_there old new =
    let page_of : KeptPage → Page = λ (p : KeptPage). p.page in
    let pages : List Page = map page_of new.pages in
    let test : Page → Bool = λ (p : Page). has_new_item old.ids.item new.items p.id in
    All-map (λ (id : PageId). IsTrue (has_page new id)) (λ (p : Page). p.id) (filter test pages)
    (All-filter test (λ (p : Page). IsTrue (has_page new p.id)) pages
    (λ k d within.
    sym (list_any-map (λ (q : Page). q.id.0 == (get_or pages k d).id.0) page_of new.pages)
    ∙ each_there pages k d within))

pub gained_ascend : (old : Store) (new : Kept) → IsWellKept new
    → AllPairs (λ (a b : PageId). a.0 < b.0) (gained old (store_of new))
gained_ascend old new well =
    let page_of : KeptPage → Page = λ (p : KeptPage). p.page in
    let pages : List Page = map page_of new.pages in
    let test : Page → Bool = λ (p : Page). has_new_item old.ids.item new.items p.id in
    let ids : List ℕ = map (λ (p : KeptPage). p.page.id.0) new.pages in
    AllPairs-map (λ (a b : PageId). a.0 < b.0) (λ (p : Page). p.id) (filter test pages)
    (AllPairs-filter (λ (p q : Page). p.id.0 < q.id.0) test pages
    (AllPairs-map (λ (p q : Page). p.id.0 < q.id.0) page_of new.pages
    (AllPairs-from_map (λ (m n : ℕ). m < n) (λ (p : KeptPage). p.page.id.0) new.pages
    (AllPairs-from_increasing ids well.page_ids.ascending))))

gained_apart : (old : Store) (new : Kept) → IsWellKept new
    → AllPairs (λ (a b : PageId). a.0 ≢ b.0) (gained old (store_of new))
gained_apart old new well i j d before within same =
    omega (arith, gained_ascend old new well i j d before within, same)

-- ---- new pages

-- a page behind those that are there has a greater id
page_below : (old added : List KeptPage) (n : ℕ) → Ascend (old ++ added)
    → list_any (λ (p : KeptPage). p.page.id.0 == n) old ≡ true
    → AllByRecursion (λ (p : KeptPage). n < p.page.id.0) added
page_below [] added n ordered there = absurd (cc)
page_below (q ∷ old) added n ordered there =
    choose (q.page.id.0 == n) refl there (page_below old added n ordered.1)
  where
    choose : (b : Bool) → (q.page.id.0 == n) ≡ b → (b || list_any (λ (p : KeptPage). p.page.id.0 == n) old) ≡ true
        → (list_any (λ (p : KeptPage). p.page.id.0 == n) old ≡ true
        → AllByRecursion (λ (p : KeptPage). n < p.page.id.0) added)
        → AllByRecursion (λ (p : KeptPage). n < p.page.id.0) added
    choose true is here rest =
        weaker (λ (p : KeptPage). q.page.id.0 < p.page.id.0) (λ (p : KeptPage). n < p.page.id.0) added
        (λ p above. omega (arith, eqb-true q.page.id.0 n is))
        (rest_of (λ (p : KeptPage). q.page.id.0 < p.page.id.0) old added ordered.0)
    choose false is here rest = rest here

-- no visit has a new page
visits_below : (old : Kept) (added : List KeptPage) → IsWellKept old → Ascend (old.pages ++ added)
    → All (λ (p : KeptPage). All (λ (v : Visit). v.page.0 < p.page.id.0) old.visits) added
visits_below old added h ordered k d within j e inside =
    let v : Visit = get_or old.visits j e in
    All-from_recursion (λ (p : KeptPage). v.page.0 < p.page.id.0) added
    (page_below old.pages added v.page.0 ordered (h.visits j e inside).1) k d within

not_visited : (visits : List Visit) (page : PageId) → All (λ (v : Visit). v.page.0 < page.0) visits
    → count_by (λ (v : Visit). (v.page.0 == page.0) && is_counted v.transition) visits ≡ 0
not_visited visits page below =
    let test : Visit → Bool = λ (v : Visit). (v.page.0 == page.0) && is_counted v.transition in
    none_counted test visits
    (recursion_from_All (λ (v : Visit). test v ≡ false) visits
    (λ k d within.
    let v : Visit = get_or visits k d in
    ap (λ (b : Bool). b && is_counted v.transition)
    (ne_eqb v.page.0 page.0 (λ same. omega (arith, below k d within)))))

-- ---- the rows

-- the rows with other next ids, with pages more and with other origins and items
abbrev grown : Ids → List KeptPage → List KeptOrigin → List Item → Kept → Kept
grown ids added origins items kept =
    record kept { ids = ids; pages = kept.pages ++ added; origins = origins; items = items }

-- of the pages that were not settled before each has a new item
abbrev pub HaveNewItems : List PageId → Kept → List Item → Type 0
HaveNewItems but old items =
    All (λ (p : KeptPage). list_any (λ (id : PageId). p.page.id.0 == id.0) but ≡ true
    → IsTrue (has_new_item old.ids.item items p.page.id)) old.pages

module _ (old : Kept) (ids : Ids) (added : List KeptPage) (origins : List KeptOrigin) (items : List Item)
    (but : List PageId) (before : AreSettledBut but old) (come : HaveNewItems but old items)
    (a : AddsItems old.ids.item old.items items)
    (held : All (λ (p : KeptPage). IsTrue (has_new_item old.ids.item items p.page.id)) added) where
  -- each page stands there
  all_stand : All (λ (p : KeptPage). IsTrue (is_standing (store_of (grown ids added origins items old)) p.page.id))
      (old.pages ++ added)
  all_stand =
      let Stands : KeptPage → Type 0 =
      λ (p : KeptPage). IsTrue (is_visited (store_of old) p.page.id || has_reference items p.page.id) in
      All-append Stands old.pages added
      (λ k d within.
      let id : PageId = (get_or old.pages k d).page.id in
      by_cases (list_any (λ (other : PageId). id.0 == other.0) but)
      (λ among.
      or_right (is_visited (store_of old) id) (has_reference items id)
      (has_new old.ids.item items id (come k d within among)))
      (λ other.
      stands (is_visited (store_of old) id) (has_reference old.items id) (has_reference items id)
      (still_has old.ids.item old.items items id a) (before.by_row k d within other)))
      (λ k d within.
      let id : PageId = (get_or added k d).page.id in
      or_right (is_visited (store_of old) id) (has_reference items id)
      (has_new old.ids.item items id (held k d within)))
    where
      by_cases : {P : Type 0} (b : Bool) → (b ≡ true → P) → (b ≡ false → P) → P
      by_cases true one other = one refl
      by_cases false one other = other refl

      stands : (visited was now : Bool) → (was ≡ true → now ≡ true) → (visited || was) ≡ true → (visited || now) ≡ true
      stands true was now still some = refl
      stands false was now still some = still some

  settled : IsWellKept old → IsWellKept (grown ids added origins items old)
      → HaveSums (grown ids added origins items old) → All IsBlank added
      → HasGoodItems (store_of (grown ids added origins items old))
      → AreSettledBut (gained (store_of old) (store_of (grown ids added origins items old)))
      (grown ids added origins items old)
  settled h well sums blank good =
      let new : Kept = grown ids added origins items old in
      let left_out : List PageId = gained (store_of old) (store_of new) in
      let new_item : PageId → Bool = has_new_item old.ids.item items in
      let below : All (λ (p : KeptPage). All (λ (v : Visit). v.page.0 < p.page.id.0) old.visits) added =
      visits_below old added h (ascend new well) in
      let Apart : KeptPage → Type 0 =
      λ (p : KeptPage). list_any (λ (id : PageId). p.page.id.0 == id.0) left_out ≡ false → new_item p.page.id ≡ false in
      let apart : All Apart (old.pages ++ added) =
      All-from_map (λ (p : Page). list_any (λ (id : PageId). p.id.0 == id.0) left_out ≡ false → new_item p.id ≡ false)
      (λ (p : KeptPage). p.page) (old.pages ++ added)
      (not_among new_item (map (λ (p : KeptPage). p.page) (old.pages ++ added))) in
      record {
        there = gained_there (store_of old) new;
        apart = gained_apart (store_of old) new well;
        items = good;
        counts =
            All-append (λ (p : KeptPage). p.count ≡ visit_count (store_of new) p.page.id) old.pages added
            before.counts
            (λ k d within.
            (blank k d within).count ∙ sym (not_visited old.visits (get_or added k d).page.id (below k d within)));
        right =
            All-append (λ (p : KeptPage). list_any (λ (id : PageId). p.page.id.0 == id.0) left_out ≡ false
            → IsRightPage (store_of new) p) old.pages added
            (right_alike old ids items left_out
            (λ k d within other.
            has_as_before old.ids.item old.items items (get_or old.pages k d).page.id a
            (left Apart old.pages added apart k d within other))
            (λ k d within other.
            before.right k d within
            (false_from_ne_true (list_any (λ (id : PageId). (get_or old.pages k d).page.id.0 == id.0) but)
            (λ among.
            false≢true (sym (left Apart old.pages added apart k d within other) ∙ come k d within among)))))
            (λ k d within other.
            absurd (false≢true (sym (right Apart old.pages added apart k d within other) ∙ held k d within)));
        by_row = λ k d within _. all_stand k d within;
        typed =
            All-append (IsTypedRight new) old.pages added before.typed
            (λ k d within j e inside of _.
            absurd (omega (arith, ap (λ (i : PageId). i.0) of, below k d within j e inside)));
        sums = sums;
      }

-- ---- an import

grows_is : (old new : Kept) → (g : Grows old new) → new ≡ grown new.ids g.added new.origins new.items old
grows_is old new g =
    ap (λ (pages : List KeptPage). record new { pages = pages }) g.pages
    ∙ ap (λ (visits : List Visit). record new { pages = old.pages ++ g.added; visits = visits }) g.visits
    ∙ ap (λ (day : Day). record new { pages = old.pages ++ g.added; visits = old.visits; day = day }) g.day

-- the new pages have new items
new_held : (tree : Tree) (old new : Kept) → store_of new ≡ imported tree (store_of old) → (g : Grows old new)
    → All (λ (p : KeptPage). IsTrue (has_new_item old.ids.item new.items p.page.id)) g.added
new_held tree old new is g =
    let page_of : KeptPage → Page = λ (p : KeptPage). p.page in
    let Held : Page → Type 0 = λ (p : Page). IsTrue (has_new_item old.ids.item new.items p.id) in
    let a : AddsPages (store_of old) (store_of new) =
    subst (AddsPages (store_of old)) (sym is) (imported_pages tree (store_of old)) in
    let same : map page_of g.added ≡ a.added =
    append_cancel_left (map page_of old.pages) (map page_of g.added) a.added
    (sym (map-append page_of old.pages g.added) ∙ sym (ap (map page_of) g.pages) ∙ a.is) in
    All-from_map Held page_of g.added (subst (All Held) (sym same) a.held)

pub new_items : (tree : Tree) (old new : Kept) → store_of new ≡ imported tree (store_of old)
    → AddsItems old.ids.item old.items new.items
new_items tree old new is =
    subst (λ (s : Store). AddsItems old.ids.item old.items s.items) (sym is) (imported_items tree (store_of old))

-- all is settled but the pages with a new item, where all was but some that got one
pub grafted_settled : (tree : Tree) (old new : Kept) (but : List PageId) → IsWellKept old → IsWellKept new
    → AreSettledBut but old → HaveNewItems but old new.items → store_of new ≡ imported tree (store_of old)
    → Grows old new → HasGoodItems (store_of new) → AreSettledBut (gained (store_of old) (store_of new)) new
grafted_settled tree old new but h well before come is g good =
    let same : new ≡ grown new.ids g.added new.origins new.items old = grows_is old new g in
    subst (λ (k : Kept). AreSettledBut (gained (store_of old) (store_of k)) k) (sym same)
    (settled old new.ids g.added new.origins new.items but before come (new_items tree old new is)
    (new_held tree old new is g) h (subst IsWellKept same well) (subst HaveSums same (g.sums before.sums)) g.blank
    (subst (λ (k : Kept). HasGoodItems (store_of k)) same good))

-- nothing is left to be settled of sound rows
none_but : (old : Kept) → IsWellKept old → IsSound old → AreSettledBut [] old
none_but old h sound =
    let good = sound.good in
    settled_with old old.items [] h sound (All-nil (λ (id : PageId). IsTrue (has_page old id)))
    (λ i j d before within. absurd (omega arith)) (λ page _. refl)
    (record { items = good.items; roots = good.roots; tree = good.tree; tags = good.tags })

none_come : (old : Kept) (items : List Item) → HaveNewItems [] old items
none_come old items k d within among = absurd (cc)

pub imported_settled : (tree : Tree) (old new : Kept) → IsWellKept old → IsWellKept new → IsSound old
    → store_of new ≡ imported tree (store_of old) → Grows old new → HasGoodItems (store_of new)
    → AreSettledBut (gained (store_of old) (store_of new)) new
imported_settled tree old new h well sound is g good =
    grafted_settled tree old new [] h well (none_but old h sound) (none_come old new.items) is g good

-- no page goes
pub imported_stands : (tree : Tree) (old new : Kept) → IsWellKept old → IsSound old
    → store_of new ≡ imported tree (store_of old) → Grows old new → without_idle_pages (store_of new) ≡ store_of new
imported_stands tree old new h sound is g =
    let mid : Kept = grown new.ids g.added new.origins new.items old in
    let stands : Page → Bool = λ (p : Page). is_standing (store_of mid) p.id in
    subst (λ (k : Kept). without_idle_pages (store_of k) ≡ store_of k) (sym (grows_is old new g))
    (ap (λ (pages : List Page). record (store_of mid) { pages = pages })
    (all_stay stands (store_of mid).pages
    (recursion_from_All (λ (p : Page). stands p ≡ true) (store_of mid).pages
    (All-map (λ (p : Page). stands p ≡ true) (λ (p : KeptPage). p.page) mid.pages
    (all_stand old new.ids g.added new.origins new.items [] (none_but old h sound) (none_come old new.items)
    (new_items tree old new is) (new_held tree old new is g))))))
