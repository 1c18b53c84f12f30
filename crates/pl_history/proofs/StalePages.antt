-- The pages that no item has, as they are collected and sorted.
use Rattle.std.proofs.Common.{◌≡◌, ◌∙◌, ◌++◌, Bool, true, false, List, [], ◌∷◌, Option, ap, filter, if◌then◌else◌}
use Rattle.std.proofs.Common.{map, not, sym}
use Rattle.std.proofs.lemmas.List.{map-append}
use Rattle.std.proofs.lemmas.List.Elements.{filter-append}
use Rattle.pl_base.specs.declared.date.Micros.{Micros}
use Rattle.pl_base.specs.declared.id.PageId.{PageId}
use Rattle.pl_base.specs.Marks.{is_referenced, last_date_of}
use Rattle.pl_base.specs.Rows.{KeptPage}
use Rattle.pl_base.specs.Store.{Page, Store}
use Rattle.pl_history.specs.declared.trimming.StalePage.{StalePage}
use Rattle.pl_history.specs.Stale.{stale, stale_page}

abbrev pub stale_ids : List StalePage → List PageId
stale_ids pages = map (λ (p : StalePage). p.page) pages

-- those of the pages in front
abbrev pub AreStale : Store → List StalePage → List KeptPage → Type 0
AreStale store found front = found ≡ stale store (map (λ (p : KeptPage). p.page) front)

pub stale-append : (store : Store) (pages others : List Page)
    → stale store (pages ++ others) ≡ stale store pages ++ stale store others
stale-append store pages others =
    ap (map (stale_page store)) (filter-append (λ (p : Page). not (is_referenced store p.id)) pages others)
    ∙ map-append (stale_page store) (filter (λ (p : Page). not (is_referenced store p.id)) pages)
    (filter (λ (p : Page). not (is_referenced store p.id)) others)

pub stale_more : (store : Store) (front : List KeptPage) (page : KeptPage) (now more : List StalePage)
    → AreStale store now front → more ≡ now ++ stale store (page.page ∷ []) → AreStale store more (front ++ page ∷ [])
stale_more store front page now more are pushed =
    pushed ∙ ap (λ (found : List StalePage). found ++ stale store (page.page ∷ [])) are
    ∙ sym (ap (stale store) (map-append (λ (p : KeptPage). p.page) front (page ∷ []))
    ∙ stale-append store (map (λ (p : KeptPage). p.page) front) (page.page ∷ []))

-- one page that no item has, or that one has
abbrev made : Option Micros → PageId → StalePage
made last page = record { last = last; page = page }

pub one_stale : (store : Store) (p : Page) (id : PageId) (last : Option Micros) → p.id ≡ id
    → is_referenced store id ≡ false → last ≡ last_date_of store id
    → stale store (p ∷ []) ≡ record { last = last; page = id } ∷ []
one_stale store p id last same free date =
    ap (λ (b : Bool). map (stale_page store) (if not b then p ∷ [] else [])) (ap (is_referenced store) same ∙ free)
    ∙ ap (λ (i : PageId). made (last_date_of store i) i ∷ []) same
    ∙ ap (λ (l : Option Micros). made l id ∷ []) (sym date)

pub none_stale : (store : Store) (p : Page) (id : PageId) → p.id ≡ id → is_referenced store id ≡ true
    → stale store (p ∷ []) ≡ []
none_stale store p id same held =
    ap (λ (b : Bool). map (stale_page store) (if not b then p ∷ [] else [])) (ap (is_referenced store) same ∙ held)
