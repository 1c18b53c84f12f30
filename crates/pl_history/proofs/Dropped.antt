-- What holds of the rows once a page is dropped that has neither a visit nor an item.
use Rattle.std.proofs.Common.{◌≡◌, ◌≢◌, ◌∙◌, ◌==◌, ◌&&◌, ◌||◌, All, Bool, true, false, IfSome, IsTrue, List, []}
use Rattle.std.proofs.Common.{◌∷◌, Option, Some, None, ap, arith, filter, get_or, if◌then◌else◌, map, refl}
use Rattle.std.proofs.Common.{◌+◌, ℕ, find, length, pos, subst, suc, sym}
use Rattle.std.specs.Prelude.{not}
use Rattle.std.specs.List.{AllByRecursion, list_any}
use Rattle.std.specs.Option.{option_map}
use Rattle.std.proofs.lemmas.Bool.{eqb-false, eqb-true, false_from_ne_true, false≢true, ne_eqb, not-true, or_from}
use Rattle.std.proofs.lemmas.Bool.{or_parts}
use Rattle.std.proofs.lemmas.List.{length-map}
use Rattle.std.proofs.lemmas.List.Elements.{All-from_recursion, All-map, recursion_from_All}
use Rattle.pl_base.specs.declared.date.Day.{Day}
use Rattle.pl_base.specs.declared.id.Ids.{Ids}
use Rattle.pl_base.specs.declared.id.PageId.{PageId}
use Rattle.pl_base.specs.declared.row.Mark.{Mark}
use Rattle.pl_base.specs.Good.{HasGoodItems, IsGoodItem, has_page_at, is_visited}
use Rattle.pl_base.specs.Marks.{is_referenced, visit_count}
use Rattle.pl_base.specs.Rows.{HaveSums, IsWellKept, Kept, KeptOrigin, KeptPage, WithoutPage, has_page, mark_of}
use Rattle.pl_base.specs.Rows.{marked, other_pages, page_at, store_of, unnamed, with_mark, with_origins}
use Rattle.pl_base.specs.Store.{Item, Page, Store, Visit}
use Rattle.pl_base.specs.Tree.{is_page}
use Rattle.pl_base.proofs.IdsLaws.{same_page}
use Rattle.pl_base.proofs.ListLaws.{All-from_map, list_any-map, map-map, weaker}
use Rattle.pl_marks.specs.Refreshed.{IsRightPage}
use Rattle.pl_history.specs.Sound.{IsTypedRight}
use Rattle.pl_base.specs.Removal.{is_standing}
use Rattle.pl_history.specs.Settled.{AreSettledBut, Drops}
use Rattle.pl_base.specs.Removal.{without_idle_pages}
use Rattle.pl_base.proofs.LookUps.{Apart, apart_increasing, both, none_pass, where_passes}
use Rattle.pl_history.proofs.GoodRows.{items_with}

-- ---- lists

-- what passes a test is left where none of those that go passes it
pub any_left : {X : Type 0} (gone test : X → Bool) (xs : List X)
    → AllByRecursion (λ x. (gone x && test x) ≡ false) xs
    → list_any test (filter (λ x. not (gone x)) xs) ≡ list_any test xs
any_left gone test [] none = refl
any_left gone test (x ∷ xs) none = choose (gone x) none.0 (any_left gone test xs none.1)
  where
    choose : (b : Bool) → (b && test x) ≡ false
        → list_any test (filter (λ y. not (gone y)) xs) ≡ list_any test xs
        → list_any test
        (if not b then x ∷ filter (λ y. not (gone y)) xs else filter (λ y. not (gone y)) xs)
        ≡ (test x || list_any test xs)
    choose true fails rest = rest ∙ ap (λ (b : Bool). b || list_any test xs) (sym fails)
    choose false fails rest = ap (λ (b : Bool). test x || b) rest

-- ---- the pages

-- what holds of the other pages, whatever their origins' names, holds of the pages
pub along : (P : KeptPage → Type 0) (page : PageId) (old new : List KeptPage)
    → map unnamed new ≡ map unnamed (other_pages page old)
    → All (λ (p : KeptPage). (p.page.id.0 == page.0) ≡ false → P (unnamed p)) old
    → All (λ (p : KeptPage). P (unnamed p)) new
along P page old new same all =
    let Q : KeptPage → Type 0 = λ (p : KeptPage). P (unnamed p) in
    All-from_map P unnamed new
    (subst (All P) (sym same)
    (All-map P unnamed (other_pages page old)
    (All-from_recursion Q (other_pages page old)
    (where_passes Q (λ (p : KeptPage). not (p.page.id.0 == page.0)) old
    (weaker (λ (p : KeptPage). (p.page.id.0 == page.0) ≡ false → Q p)
    (λ (p : KeptPage). not (p.page.id.0 == page.0) ≡ true → Q p) old
    (λ p holds other. holds (not-true (p.page.id.0 == page.0) other))
    (recursion_from_All (λ (p : KeptPage). (p.page.id.0 == page.0) ≡ false → Q p) old all))))))

pub not_both : (a b : Bool) → (a ≡ true → b ≡ false) → (a && b) ≡ false
not_both true b apart = apart refl
not_both false b apart = refl

-- each other page is still there
pub page_left : (page id : PageId) (old new : List KeptPage) → map unnamed new ≡ map unnamed (other_pages page old)
    → page.0 ≢ id.0
    → list_any (λ (p : KeptPage). p.page.id.0 == id.0) new ≡ list_any (λ (p : KeptPage). p.page.id.0 == id.0) old
page_left page id old new same other =
    let test : KeptPage → Bool = λ (p : KeptPage). p.page.id.0 == id.0 in
    sym (list_any-map test unnamed new) ∙ ap (list_any test) same
    ∙ list_any-map test unnamed (other_pages page old)
    ∙ any_left (λ (p : KeptPage). p.page.id.0 == page.0) test old
    (each old)
  where
    each : (ps : List KeptPage)
        → AllByRecursion (λ (p : KeptPage). ((p.page.id.0 == page.0) && (p.page.id.0 == id.0)) ≡ false) ps
    each [] = tt
    each (p ∷ ps) = (
      not_both (p.page.id.0 == page.0) (p.page.id.0 == id.0)
          (λ same. false_from_ne_true (p.page.id.0 == id.0)
          (λ is. other (sym (eqb-true p.page.id.0 page.0 same) ∙ eqb-true p.page.id.0 id.0 is))),
      each ps,
    )

-- ---- the mark of a page that is to go

-- a mark with nothing that counts
abbrev pub no_mark : Mark
no_mark = record { frecency = pos 0; count = 0; typed = false; hidden = false }

-- the other pages are the same whatever its mark
others_unmarked : (page : PageId) (mark : Mark) (ps : List KeptPage)
    → other_pages page (map (λ (p : KeptPage). if p.page.id.0 == page.0 then marked mark p else p) ps)
    ≡ other_pages page ps
others_unmarked page mark [] = refl
others_unmarked page mark (p ∷ ps) = choose (p.page.id.0 == page.0) refl (others_unmarked page mark ps)
  where
    left : List KeptPage
    left = other_pages page (map (λ (q : KeptPage). if q.page.id.0 == page.0 then marked mark q else q) ps)

    choose : (b : Bool) → (p.page.id.0 == page.0) ≡ b → left ≡ other_pages page ps
        → (if not ((if b then marked mark p else p).page.id.0 == page.0) then (if b then marked mark p else p) ∷ left
        else left) ≡ (if not b then p ∷ other_pages page ps else other_pages page ps)
    choose true same rest = ap (λ (b : Bool). if not b then marked mark p ∷ left else left) same ∙ rest
    choose false other rest =
        ap (λ (b : Bool). if not b then p ∷ left else left) other ∙ ap (λ (qs : List KeptPage). p ∷ qs) rest

pub drops : (page : PageId) (mark : Mark) (old mid new : Kept)
    → mid ≡ with_origins mid.origins (with_mark page mark old) → WithoutPage page mid new → Drops page old new
drops page mark old mid new is w =
    record {
      day = w.day ∙ ap (λ (k : Kept). k.day) is;
      ids = w.ids ∙ ap (λ (k : Kept). k.ids) is;
      pages =
          w.pages ∙ ap (λ (k : Kept). map unnamed (other_pages page k.pages)) is
          ∙ ap (map unnamed) (others_unmarked page mark old.pages);
      visits = w.visits ∙ ap (λ (k : Kept). k.visits) is;
      items = w.items ∙ ap (λ (k : Kept). k.items) is;
    }

-- the page has still neither a visit nor an item
pub idle_still : (page : PageId) (mark : Mark) (old mid : Kept)
    → mid ≡ with_origins mid.origins (with_mark page mark old) → is_standing (store_of old) page ≡ false
    → (is_visited (store_of mid) page ≡ false) × (is_referenced (store_of mid) page ≡ false)
idle_still page mark old mid is idle =
    let none : (is_visited (store_of old) page ≡ false) × (is_referenced (store_of old) page ≡ false) =
    or_parts (is_visited (store_of old) page) (is_referenced (store_of old) page) idle in (
      ap (λ (k : Kept). is_visited (store_of k) page) is ∙ none.0,
      ap (λ (k : Kept). is_referenced (store_of k) page) is ∙ none.1,
    )

given_at : (page : PageId) (mark : Mark) (ps : List KeptPage)
    → list_any (λ (p : KeptPage). p.page.id.0 == page.0) ps ≡ true
    → Some mark ≡ option_map mark_of (find (λ (p : KeptPage). p.page.id.0 == page.0)
    (map (λ (p : KeptPage). if p.page.id.0 == page.0 then marked mark p else p) ps))
given_at page mark [] there = absurd (false≢true there)
given_at page mark (p ∷ ps) there = choose (p.page.id.0 == page.0) refl there (given_at page mark ps)
  where
    found : Option KeptPage
    found =
        find (λ (q : KeptPage). q.page.id.0 == page.0)
        (map (λ (q : KeptPage). if q.page.id.0 == page.0 then marked mark q else q) ps)

    choose : (b : Bool) → (p.page.id.0 == page.0) ≡ b
        → (b || list_any (λ (q : KeptPage). q.page.id.0 == page.0) ps) ≡ true
        → (list_any (λ (q : KeptPage). q.page.id.0 == page.0) ps ≡ true → Some mark ≡ option_map mark_of found)
        → Some mark ≡ option_map mark_of (if (if b then marked mark p else p).page.id.0 == page.0
        then Some (if b then marked mark p else p) else found)
    choose true same there rest =
        ap (λ (b : Bool). option_map mark_of (if b then Some (marked mark p) else found)) (sym same)
    choose false other there rest =
        rest there ∙ ap (λ (b : Bool). option_map mark_of (if b then Some p else found)) (sym other)

-- the mark that the page was given is told of it
pub mark_given : (page : PageId) (mark : Mark) (old mid : Kept) → has_page old page ≡ true
    → mid ≡ with_origins mid.origins (with_mark page mark old) → Some mark ≡ option_map mark_of (page_at mid page)
mark_given page mark old mid there is =
    given_at page mark old.pages there ∙ ap (λ (k : Kept). option_map mark_of (page_at k page)) (sym is)

-- ---- the rows

-- the rows with these pages and origins
abbrev with_pages : List KeptPage → List KeptOrigin → Kept → Kept
with_pages pages origins kept = record kept { pages = pages; origins = origins }

rebuilt : (page : PageId) (old new : Kept) → Drops page old new → new ≡ with_pages new.pages new.origins old
rebuilt page old new w =
    ap (λ (d : Day). record new { day = d }) w.day
    ∙ ap (λ (i : Ids). record new { day = old.day; ids = i }) w.ids
    ∙ ap (λ (v : List Visit). record new { day = old.day; ids = old.ids; visits = v }) w.visits
    ∙ ap (λ (i : List Item). record new { day = old.day; ids = old.ids; visits = old.visits; items = i }) w.items

-- the page of an item is not the one that goes
pub item_page_left : (page : PageId) (old new : Store) (of : Option PageId) → is_page page of ≡ false
    → ((id : PageId) → page.0 ≢ id.0 → IsTrue (has_page_at old id) → IsTrue (has_page_at new id))
    → IfSome of (λ id. IsTrue (has_page_at old id)) → IfSome of (λ id. IsTrue (has_page_at new id))
item_page_left page old new None other stays there = tt
item_page_left page old new (Some id) other stays there =
    stays id (λ same. eqb-false id.0 page.0 other (sym same)) there

module _ (page : PageId) (old : Kept) (pages : List KeptPage) (origins : List KeptOrigin)
    (same : map unnamed pages ≡ map unnamed (other_pages page old.pages))
    (idle : is_standing (store_of old) page ≡ false) where
  items_left : HasGoodItems (store_of old) → HasGoodItems (store_of (with_pages pages origins old))
  items_left good =
      let new : Kept = with_pages pages origins old in
      let test : PageId → Page → Bool = λ (id : PageId) (p : Page). p.id.0 == id.0 in
      let stays : (id : PageId) → page.0 ≢ id.0 → IsTrue (has_page_at (store_of old) id)
      → IsTrue (has_page_at (store_of new) id) =
      λ id other there. list_any-map (test id) (λ (p : KeptPage). p.page) pages
      ∙ page_left page id old.pages pages same other
      ∙ sym (list_any-map (test id) (λ (p : KeptPage). p.page) old.pages) ∙ there in
      items_with (store_of old) (store_of new) refl
      (All-from_recursion (λ (i : Item). IfSome i.page (λ id. IsTrue (has_page_at (store_of new) id))) old.items
      (both (IsGoodItem (store_of old)) (λ (i : Item). is_page page i.page ≡ false)
      (λ (i : Item). IfSome i.page (λ id. IsTrue (has_page_at (store_of new) id))) old.items
      (λ i fine other. item_page_left page (store_of old) (store_of new) i.page other stays fine.page)
      (recursion_from_All (IsGoodItem (store_of old)) old.items good.items)
      (none_pass (λ (i : Item). is_page page i.page) old.items
      (or_parts (is_visited (store_of old) page) (is_referenced (store_of old) page) idle).1)))
      good

  settled_left : (rest : List PageId) → HaveSums (with_pages pages origins old) → AreSettledBut (page ∷ rest) old
      → AreSettledBut rest (with_pages pages origins old)
  settled_left rest sums s =
      let store : Store = store_of old in
      let among : PageId → Bool = λ (id : PageId). list_any (λ (i : PageId). id.0 == i.0) rest in
      record {
        there =
            λ k d within.
            page_left page (get_or rest k d) old.pages pages same (s.apart 0 (suc k) d (omega arith) (omega arith))
            ∙ s.there (suc k) d (omega arith);
        apart = λ i j d before within. s.apart (suc i) (suc j) d (omega arith) (omega arith);
        items = items_left s.items;
        counts =
            along (λ (p : KeptPage). p.count ≡ visit_count store p.page.id) page old.pages pages same
            (λ k d within _. s.counts k d within);
        right =
            along (λ (p : KeptPage). among p.page.id ≡ false → IsRightPage store p) page old.pages pages same
            (λ k d within other apart.
            let id : PageId = (get_or old.pages k d).page.id in
            s.right k d within (or_from (id.0 == page.0) (among id) other apart));
        by_row =
            along (λ (p : KeptPage). among p.page.id ≡ false → IsTrue (is_standing store p.page.id)) page old.pages
            pages same
            (λ k d within other apart.
            let id : PageId = (get_or old.pages k d).page.id in
            s.by_row k d within (or_from (id.0 == page.0) (among id) other apart));
        typed = along (IsTypedRight old) page old.pages pages same (λ k d within _. s.typed k d within);
        sums = sums;
      }

standing_left : (stands : PageId → Bool) (page : PageId) (ps : List KeptPage) → stands page ≡ false
    → filter (λ (p : Page). stands p.id) (map (λ (p : KeptPage). p.page) (other_pages page ps))
    ≡ filter (λ (p : Page). stands p.id) (map (λ (p : KeptPage). p.page) ps)
standing_left stands page [] idle = refl
standing_left stands page (p ∷ ps) idle = choose (p.page.id.0 == page.0) refl (standing_left stands page ps idle)
  where
    choose : (b : Bool) → (p.page.id.0 == page.0) ≡ b
        → filter (λ (q : Page). stands q.id) (map (λ (q : KeptPage). q.page) (other_pages page ps))
        ≡ filter (λ (q : Page). stands q.id) (map (λ (q : KeptPage). q.page) ps)
        → filter (λ (q : Page). stands q.id) (map (λ (q : KeptPage). q.page)
        (if not b then p ∷ other_pages page ps else other_pages page ps))
        ≡ filter (λ (q : Page). stands q.id) (map (λ (q : KeptPage). q.page) (p ∷ ps))
    choose true same rest =
        rest ∙ sym (ap (λ (b : Bool).
        if b then p.page ∷ filter (λ (q : Page). stands q.id) (map (λ (q : KeptPage). q.page) ps)
        else filter (λ (q : Page). stands q.id) (map (λ (q : KeptPage). q.page) ps))
        (ap stands (same_page p.page.id page same) ∙ idle))
    choose false other rest =
        ap (λ (qs : List Page). if stands p.page.id then p.page ∷ qs else qs) rest

pub dropped_store : (page : PageId) (old new : Kept) → Drops page old new
    → is_standing (store_of old) page ≡ false
    → without_idle_pages (store_of new) ≡ without_idle_pages (store_of old)
dropped_store page old new w idle =
    let paged : KeptPage → Page = λ (p : KeptPage). p.page in
    let stands : Page → Bool = λ (p : Page). is_standing (store_of old) p.id in
    ap (λ (k : Kept). without_idle_pages (store_of k)) (rebuilt page old new w)
    ∙ ap (λ (ps : List Page). record (store_of old) { pages = filter stands ps })
    (sym (map-map paged unnamed new.pages) ∙ ap (map paged) w.pages
    ∙ map-map paged unnamed (other_pages page old.pages))
    ∙ ap (λ (ps : List Page). record (store_of old) { pages = ps })
    (standing_left (is_standing (store_of old)) page old.pages idle)

pub dropped_settled : (page : PageId) (old new : Kept) (rest : List PageId) → Drops page old new → HaveSums new
    → is_standing (store_of old) page ≡ false → AreSettledBut (page ∷ rest) old → AreSettledBut rest new
dropped_settled page old new rest w sums idle s =
    let is : new ≡ with_pages new.pages new.origins old = rebuilt page old new w in
    subst (AreSettledBut rest) (sym is)
    (settled_left page old new.pages new.origins w.pages idle rest (subst HaveSums is sums) s)

-- ---- how many pages are left

other_stay : (page : PageId) (ps : List KeptPage) → AllByRecursion (λ (p : KeptPage). p.page.id.0 ≢ page.0) ps
    → length (other_pages page ps) ≡ length ps
other_stay page [] others = refl
other_stay page (p ∷ ps) others =
    ap (λ (b : Bool). length (if not b then p ∷ other_pages page ps else other_pages page ps))
    (ne_eqb p.page.id.0 page.0 others.0)
    ∙ ap (λ (n : ℕ). suc n) (other_stay page ps others.1)

one_fewer : (page : PageId) (ps : List KeptPage) → Apart (λ (p : KeptPage). p.page.id.0) ps
    → list_any (λ (p : KeptPage). p.page.id.0 == page.0) ps ≡ true → length ps ≡ length (other_pages page ps) + 1
one_fewer page [] apart there = absurd (false≢true there)
one_fewer page (p ∷ ps) apart there = choose (p.page.id.0 == page.0) refl there (one_fewer page ps apart.1)
  where
    choose : (b : Bool) → (p.page.id.0 == page.0) ≡ b
        → (b || list_any (λ (q : KeptPage). q.page.id.0 == page.0) ps) ≡ true
        → (list_any (λ (q : KeptPage). q.page.id.0 == page.0) ps ≡ true → length ps ≡ length (other_pages page ps) + 1)
        → suc (length ps) ≡ length (if not b then p ∷ other_pages page ps else other_pages page ps) + 1
    choose true same here rest =
        omega (
          arith,
          other_stay page ps
              (weaker (λ (q : KeptPage). q.page.id.0 ≢ p.page.id.0) (λ (q : KeptPage). q.page.id.0 ≢ page.0) ps
              (λ q other is. other (is ∙ sym (eqb-true p.page.id.0 page.0 same))) apart.0),
        )
    choose false other there rest = omega (arith, rest there)

pub dropped_fewer : (page : PageId) (old new : Kept) → IsWellKept old → has_page old page ≡ true
    → Drops page old new → length old.pages ≡ length new.pages + 1
dropped_fewer page old new h there w =
    omega (
      arith,
      one_fewer page old.pages
          (apart_increasing (λ (p : KeptPage). p.page.id.0) old.pages h.page_ids.ascending)
          there,
      sym (length-map new.pages unnamed) ∙ ap length w.pages ∙ length-map (other_pages page old.pages) unnamed,
    )
