-- A store whose items changed differs on those pages alone of which they tell something else, or
-- that came.
use Rattle.std.proofs.Common.{◌≡◌, ◌∙◌, ◌+◌, ◌<◌, ◌≤◌, ◌++◌, ◌==◌, ◌||◌, ◌⊎◌, inl, inr, Bool, true, false, List, ℕ}
use Rattle.std.proofs.Common.{Some, ap, arith, eq-eqb, find, get_or, length, map, refl, subst, sym}
use Rattle.std.specs.List.{All, AllPairs, Contains}
use Rattle.std.proofs.lemmas.Bool.{false≢true}
use Rattle.std.proofs.lemmas.List.{get_or-append-add, get_or_append_left, length-append}
use Rattle.std.proofs.lemmas.List.Elements.{All-contains, All-from_recursion, Contains-append_cases}
use Rattle.std.proofs.lemmas.List.Elements.{Contains-append_left, at_from_Contains, recursion_from_All}
use Rattle.std.proofs.lemmas.List.Kept.{AllPairs-from_increasing}
use Rattle.std.proofs.lemmas.Option.{same_Some}
use Rattle.pl_base.specs.declared.id.Ids.{Ids}
use Rattle.pl_base.specs.declared.id.PageId.{PageId}
use Rattle.pl_base.specs.Good.{IsGood, IsGoodPage, is_visited}
use Rattle.pl_base.specs.Removal.{is_standing, without_idle_pages}
use Rattle.pl_base.specs.Store.{Item, Page, Store}
use Rattle.pl_base.proofs.ListLaws.{All-from_map, AllPairs-from_map, all_stay, weaker}
use Rattle.pl_base.proofs.LookUps.{apart_increasing, found_self, none_at}
use Rattle.pl_marks.specs.Alike.{ComeBehind, DifferOnlyOn, HaveSamePages, is_one_of}
use Rattle.pl_history.proofs.OthersAlike.{contains_filter, contains_unfiltered}
use Rattle.pl_bearing.specs.References.{AreReferencesAlike}
use Rattle.pl_bearing.proofs.ItemViews.{referenced_alike, view_alike, with_rows}

-- two pages of a good store with the same id are one
same_id : (store : Store) → IsGood store → (p q : Page) → Contains store.pages p → Contains store.pages q → q.id ≡ p.id
    → q ≡ p
same_id store good p q here there same =
    let Own : Page → Type 0 =
    λ (r : Page). find (λ (s : Page). s.id.0 == r.id.0) store.pages ≡ Some r in
    let own : All Own store.pages =
    All-from_recursion Own store.pages
    (found_self (λ (r : Page). r.id.0) store.pages
    (apart_increasing (λ (r : Page). r.id.0) store.pages good.page_ids.ascending)) in
    same_Some q p
    (sym (All-contains Own store.pages q own there)
    ∙ ap (λ (i : PageId). find (λ (s : Page). s.id.0 == i.0) store.pages) same
    ∙ All-contains Own store.pages p own here)

-- each of these pages has a smaller id than each of those
abbrev AreBelow : List Page → List Page → Type 0
AreBelow ps qs = (p q : Page) → Contains ps p → Contains qs q → p.id.0 < q.id.0

-- where ids ascend
below_behind : (ps qs : List Page) → AllPairs (λ (a b : Page). a.id.0 < b.id.0) (ps ++ qs) → AreBelow ps qs
below_behind ps qs pairs p q here there =
    let at = at_from_Contains ps p here in
    let less : (get_or (ps ++ qs) at.0 q).id.0 < (get_or (ps ++ qs) (length ps + there.0) q).id.0 =
    pairs at.0 (length ps + there.0) q (omega (arith, at.1)) (omega (arith, length-append ps qs, there.1)) in
    let first : get_or (ps ++ qs) at.0 q ≡ p = get_or_append_left ps qs q at.0 at.1 ∙ at.2 q in
    let second : get_or (ps ++ qs) (length ps + there.0) q ≡ q = get_or-append-add ps qs there.0 q ∙ there.2 in
    omega (arith, less, ap (λ (r : Page). r.id.0) first, ap (λ (r : Page). r.id.0) second)

-- a page with the id of an old page is that page
same_pages_of : (old : Store) (next : Ids) (items : List Item) (added : List Page) → IsGood old
    → AreBelow old.pages added → HaveSamePages old (without_idle_pages (with_rows next items (old.pages ++ added) old))
same_pages_of old next items added good below p q here there same =
    let mid : Store = with_rows next items (old.pages ++ added) old in
    elim
    (Contains-append_cases old.pages added q
    (contains_unfiltered (λ (r : Page). is_standing mid r.id) mid.pages q there))
    as (λ _. (q.url ≡ p.url) × (q.title ≡ p.title)) [
      | inl before ↦
          let one : q ≡ p = same_id old good p q here before same in
          (ap (λ (r : Page). r.url) one, ap (λ (r : Page). r.title) one)
      | inr come ↦ absurd (omega (arith, below p q here come, ap (λ (id : PageId). id.0) same))
    ]

module _ (ids : List PageId) (old : Store) (next : Ids) (items : List Item) (added : List Page) (good : IsGood old)
    (own : All (λ (p : Page). is_one_of ids p.id ≡ true) added) (below : AreBelow old.pages added)
    (alike : AreReferencesAlike ids old.items items) where
  -- the store with all pages
  abbrev mid : Store
  mid = with_rows next items (old.pages ++ added) old

  abbrev stands : Page → Bool
  stands p = is_standing mid p.id

  abbrev left : Store
  left = without_idle_pages mid

  -- a page that nothing bears on stands as before
  standing : (p : Page) → Contains old.pages p → is_one_of ids p.id ≡ false → stands p ≡ true
  standing p there other =
      ap (λ (b : Bool). is_visited old p.id || b) (referenced_alike old mid p.id (alike p.id other))
      ∙ (All-contains (IsGoodPage old) old.pages p good.pages there).kept

  stay : (p : Page) → Contains old.pages p → is_one_of ids p.id ≡ false → Contains left.pages p
  stay p there other =
      contains_filter stands mid.pages p (Contains-append_left old.pages added p there) (standing p there other)

  -- a page is an old one or was added
  either : (p : Page) → Contains left.pages p → Contains old.pages p ⊎ Contains added p
  either p there = Contains-append_cases old.pages added p (contains_unfiltered stands mid.pages p there)

  stood : (p : Page) → Contains left.pages p → is_one_of ids p.id ≡ false → Contains old.pages p
  stood p there other =
      elim (either p there) as (λ _. Contains old.pages p) [
        | inl before ↦ before
        | inr come ↦
            absurd (false≢true (sym other
            ∙ All-contains (λ (q : Page). is_one_of ids q.id ≡ true) added p own come))
      ]

  behind : ComeBehind old left
  behind p q there absent here =
      elim (either p there) as (λ _. q.id.0 < p.id.0) [
        | inl before ↦
            absurd (false≢true (sym (All-contains (λ (r : Page). (r.id.0 == p.id.0) ≡ false) old.pages p
            (none_at (λ (r : Page). r.id.0 == p.id.0) old.pages absent) before)
            ∙ eq-eqb p.id.0 p.id.0 refl))
        | inr come ↦ below q p here come
      ]

  differs : IsGood left → DifferOnlyOn ids old left
  differs still =
      record {
        others =
            record {
              stay = stay;
              stood = stood;
              views = λ p there other view of.
                  view_alike old next items left.pages p view good still (alike p.id other) of;
            };
        pages = same_pages_of old next items added good below;
        behind = behind;
      }

-- the ids of old pages are below the next one
below_next : (old : Store) (added : List Page) → IsGood old → All (λ (p : Page). old.ids.page ≤ p.id.0) added
    → AreBelow old.pages added
below_next old added good above p q here there =
    let low = All-contains (λ (r : Page). (0 < r.id.0) × (r.id.0 < old.ids.page)) old.pages p
    (All-from_map (λ (id : ℕ). (0 < id) × (id < old.ids.page)) (λ (r : Page). r.id.0) old.pages good.page_ids.given)
    here in
    let high = All-contains (λ (r : Page). old.ids.page ≤ r.id.0) added q above there in
    omega (arith, low.1, high)

-- old and new are good stores. New is old with other items and next ids, with pages more behind,
-- whose ids are the next ones or later, and then without the pages that nothing keeps
pub differ_by_items : (ids : List PageId) (old new : Store) (next : Ids) (items : List Item) (added : List Page)
    → IsGood old → IsGood new
    → new ≡ without_idle_pages (record old { ids = next; items = items; pages = old.pages ++ added })
    → All (λ (p : Page). is_one_of ids p.id ≡ true) added → All (λ (p : Page). old.ids.page ≤ p.id.0) added
    → AreReferencesAlike ids old.items items → DifferOnlyOn ids old new
differ_by_items ids old new next items added good still is own above alike =
    subst (DifferOnlyOn ids old) (sym is)
    (differs ids old next items added good own (below_next old added good above) alike (subst IsGood is still))

-- each page with an id of old is the one of old, whether or not new is known to be good
pub same_pages_by_items : (old new : Store) (next : Ids) (items : List Item) (added : List Page) → IsGood old
    → new ≡ without_idle_pages (record old { ids = next; items = items; pages = old.pages ++ added })
    → All (λ (p : Page). old.ids.page ≤ p.id.0) added → HaveSamePages old new
same_pages_by_items old new next items added good is above =
    subst (HaveSamePages old) (sym is)
    (same_pages_of old next items added good (below_next old added good above))

-- the same where each page is kept, so that the ids of the new store tell that pages came behind
pub differ_by_items_kept : (ids : List PageId) (old new : Store) (next : Ids) (items : List Item) (added : List Page)
    → IsGood old → IsGood new → new ≡ record old { ids = next; items = items; pages = old.pages ++ added }
    → All (λ (p : Page). is_one_of ids p.id ≡ true) added → AreReferencesAlike ids old.items items
    → DifferOnlyOn ids old new
differ_by_items_kept ids old new next items added good still is own alike =
    let whole : without_idle_pages all ≡ all = none_idle (subst IsGood is still) in
    subst (DifferOnlyOn ids old) (whole ∙ sym is)
    (differs ids old next items added good own
    (below_behind old.pages added
    (AllPairs-from_map (λ m n. m < n) (λ (p : Page). p.id.0) all.pages
    (AllPairs-from_increasing (map (λ (p : Page). p.id.0) all.pages) (subst IsGood is still).page_ids.ascending)))
    alike (subst IsGood (is ∙ sym whole) still))
  where
    all : Store
    all = with_rows next items (old.pages ++ added) old

    none_idle : IsGood all → without_idle_pages all ≡ all
    none_idle g =
        ap (λ (pages : List Page). record all { pages = pages })
        (all_stay (λ (p : Page). is_standing all p.id) all.pages
        (weaker (IsGoodPage all) (λ (p : Page). is_standing all p.id ≡ true) all.pages (λ p of. of.kept)
        (recursion_from_All (IsGoodPage all) all.pages g.pages)))
