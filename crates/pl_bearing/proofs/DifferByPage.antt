-- What a change of items differs on, where the rows got a page before it, or none.
use Rattle.std.proofs.Common.{◌≡◌, ◌∙◌, ◌≤◌, ◌++◌, ℕ, true, List, [], ◌∷◌, Option, Some, None, ap}
use Rattle.std.proofs.Common.{eq-eqb, refl, subst, sym}
use Rattle.std.specs.List.{All}
use Rattle.std.proofs.lemmas.List.{append-nil, map-append}
use Rattle.std.proofs.lemmas.List.Elements.{All-nil, All-from_recursion}
use Rattle.pl_base.specs.declared.id.Ids.{Ids}
use Rattle.pl_base.specs.declared.id.PageId.{PageId}
use Rattle.pl_base.specs.declared.id.Slot.{Slot}
use Rattle.pl_base.specs.Good.{IsGood}
use Rattle.pl_base.specs.Removal.{without_idle_pages}
use Rattle.pl_base.specs.Rows.{Kept, KeptPage, WithPageIn, next_page, store_of, with_new_page}
use Rattle.pl_base.specs.Store.{Item, Page, Store}
use Rattle.pl_marks.specs.Alike.{DifferOnlyOn, is_one_of}
use Rattle.pl_history.specs.declared.find.Target.{Target}
use Rattle.pl_history.specs.declared.find.Target.TheVariants.{Known, New}
use Rattle.pl_history.specs.Target.{WithTarget}
use Rattle.pl_bearing.specs.References.{AreReferencesAlike}
use Rattle.pl_bearing.proofs.DifferByItems.{differ_by_items, differ_by_items_kept}

-- ---- the same pages

pub differ_in_items : (ids : List PageId) (old new : Store) (next : Ids) (items : List Item) → IsGood old → IsGood new
    → new ≡ record old { ids = next; items = items } → AreReferencesAlike ids old.items items
    → DifferOnlyOn ids old new
differ_in_items ids old new next items good still is alike =
    differ_by_items_kept ids old new next items [] good still
    (is ∙ ap (λ (pages : List Page). record old { ids = next; items = items; pages = pages })
    (sym (append-nil old.pages)))
    (All-nil (λ (p : Page). is_one_of ids p.id ≡ true)) alike

-- the same without the pages that nothing keeps any longer
pub differ_once_settled : (ids : List PageId) (old made new : Store) (items : List Item) → IsGood old → IsGood new
    → made ≡ record old { items = items } → new ≡ without_idle_pages made → AreReferencesAlike ids old.items items
    → DifferOnlyOn ids old new
differ_once_settled ids old made new items good still made_is new_is alike =
    differ_by_items ids old new old.ids items [] good still
    (new_is
    ∙ ap without_idle_pages
    (made_is
    ∙ ap (λ (pages : List Page). record old { items = items; pages = pages }) (sym (append-nil old.pages))))
    (All-nil (λ (p : Page). is_one_of ids p.id ≡ true)) (All-nil (λ (p : Page). old.ids.page ≤ p.id.0)) alike

-- ---- a page more, or none

-- the pages that came, which have this id
record HasMore (old mid : Store) (page : PageId) : Type 0 where
  added : List Page
  store : mid ≡ record old { ids = mid.ids; pages = old.pages ++ added }
  own : All (λ (p : Page). is_one_of (page ∷ []) p.id ≡ true) added

is_own : (page id : PageId) → id.0 ≡ page.0 → is_one_of (page ∷ []) id ≡ true
is_own page id same = rw (eq-eqb id.0 page.0 same) refl

page_more : (url : List ℕ) (origin : Slot) (old mid : Kept) (page : PageId) → page.0 ≡ old.ids.page
    → store_of mid ≡ store_of (with_new_page url origin old) → HasMore (store_of old) (store_of mid) page
page_more url origin old mid page named is =
    let new : KeptPage = next_page url origin old in
    record {
      added = new.page ∷ [];
      store =
          is
          ∙ ap
          (λ (pages : List Page). record (store_of old) { ids = (with_new_page url origin old).ids; pages = pages })
          (map-append (λ (p : KeptPage). p.page) old.pages (new ∷ []))
          ∙ ap (λ (ids : Ids). record (store_of old) { ids = ids; pages = (store_of old).pages ++ new.page ∷ [] })
          (sym (ap (λ (s : Store). s.ids) is));
      own =
          All-from_recursion (λ (p : Page). is_one_of (page ∷ []) p.id ≡ true) (new.page ∷ [])
          (is_own page new.page.id (sym named), tt);
    }

more : (url : List ℕ) (target : Target) (old mid : Kept) (page : PageId) → WithTarget url target old mid page
    → HasMore (store_of old) (store_of mid) page
more url (Known known) old mid page w =
    record {
      added = [];
      store =
          ap store_of w.1
          ∙ ap (λ (pages : List Page). record (store_of old) { pages = pages }) (sym (append-nil (store_of old).pages))
          ∙ ap (λ (ids : Ids). record (store_of old) { ids = ids; pages = (store_of old).pages ++ [] })
          (sym (ap (λ (k : Kept). k.ids) w.1));
      own = All-nil (λ (p : Page). is_one_of (page ∷ []) p.id ≡ true);
    }
more url (New origin) old mid page w = choose origin w.1
  where
    choose : (o : Option Slot) → WithPageIn url o old mid → HasMore (store_of old) (store_of mid) page
    choose (Some slot) is = page_more url slot old mid page w.0 (ap store_of is)
    choose None is = page_more url is.0 old mid page w.0 (ap store_of is.1)

pub differ_with_page : (url : List ℕ) (target : Target) (old mid : Kept) (new : Store) (page : PageId) (next : Ids)
    (items : List Item) → WithTarget url target old mid page → IsGood (store_of old) → IsGood new
    → new ≡ record (store_of mid) { ids = next; items = items } → AreReferencesAlike (page ∷ []) mid.items items
    → DifferOnlyOn (page ∷ []) (store_of old) new
differ_with_page url target old mid new page next items w good still is alike =
    let m = more url target old mid page w in
    differ_by_items_kept (page ∷ []) (store_of old) new next items m.added good still
    (is ∙ ap (λ (s : Store). record s { ids = next; items = items }) m.store) m.own
    (subst (λ (before : List Item). AreReferencesAlike (page ∷ []) before items) (ap (λ (s : Store). s.items) m.store)
    alike)
