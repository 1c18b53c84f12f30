-- What is computed of a page depends on the items by whether one has the page, and by nothing else.
use Rattle.std.proofs.Common.{◌≡◌, ◌==◌, ◌∙◌, All, Bool, true, false, List, [], ℕ, ap, get_or}
use Rattle.std.proofs.Common.{if◌then◌else◌, length, map, refl, subst, sym}
use Rattle.std.specs.List.{list_any, sum_by}
use Rattle.std.proofs.lemmas.List.Elements.{All-from_recursion, All-take, recursion_from_All}
use Rattle.pl_base.specs.declared.date.Micros.{Micros}
use Rattle.pl_base.specs.declared.id.Ids.{Ids}
use Rattle.pl_base.specs.declared.id.ItemId.{ItemId}
use Rattle.pl_base.specs.declared.id.PageId.{PageId}
use Rattle.pl_base.specs.Address.{is_place_url}
use Rattle.pl_base.specs.Frecency.{frecency_from, frecency_of, points, visit_bonus}
use Rattle.pl_base.specs.Good.{HasGoodItems}
use Rattle.pl_base.specs.Marks.{is_referenced, visit_count}
use Rattle.pl_base.specs.Redirects.{is_redirect_source, source_transition}
use Rattle.pl_base.specs.Rows.{IsRight, IsSound, IsWellKept, Kept, KeptPage, store_of}
use Rattle.pl_base.specs.Store.{Item, Page, Store, Visit}
use Rattle.pl_base.specs.Tables.{bonus_of}
use Rattle.pl_base.specs.Tree.{is_page, leaving, with_changed}
use Rattle.pl_base.specs.Visits.{latest_first, sample_of, visits_of}
use Rattle.pl_tree.specs.declared.place.Place.{Place}
use Rattle.pl_tree.specs.Changes.{put, taken_out, with_child, with_moved}
use Rattle.pl_history.specs.Sound.{AreStanding}
use Rattle.pl_marks.specs.Refreshed.{AreRightBut}
use Rattle.pl_base.proofs.IdsLaws.{same_page}
use Rattle.pl_base.proofs.ListLaws.{list_any-alike, list_any-map, sum_by-agree}
use Rattle.pl_base.proofs.VisitsLaws.{all-latest_first}
use Rattle.pl_base.proofs.LookUps.{where_passes}
use Rattle.pl_base.proofs.OriginSums.{sums_of_sound, sums_still, totals_of_sums}
use Rattle.pl_history.proofs.GoodRows.{good_of, standing_of}

-- an item among these has the page
abbrev pub has_reference : List Item → PageId → Bool
has_reference items page = list_any (λ (i : Item). is_page page i.page) items

-- the rows with other items, and other next ids
abbrev pub with_tree : Ids → List Item → Kept → Kept
with_tree ids items kept = record kept { ids = ids; items = items }

-- ---- a page

abbrev with_items : Ids → List Item → Store → Store
with_items ids items store = record store { ids = ids; items = items }

points_alike : (store : Store) (ids : Ids) (items : List Item) (page : PageId) (w : Visit)
    → has_reference items page ≡ is_referenced store page → (w.page.0 == page.0) ≡ true
    → points store.day w.date (visit_bonus (with_items ids items store) w)
    ≡ points store.day w.date (visit_bonus store w)
points_alike store ids items page w same of =
    let is : w.page ≡ page = same_page w.page page of in
    ap (points store.day w.date)
    (ap (bonus_of w.transition (source_transition store w) (is_redirect_source store w))
    (ap (has_reference items) is ∙ same ∙ ap (is_referenced store) (sym is)))

sample_alike : (store : Store) (ids : Ids) (items : List Item) (page : PageId)
    → has_reference items page ≡ is_referenced store page
    → sum_by (λ (w : Visit). points store.day w.date (visit_bonus (with_items ids items store) w))
    (sample_of store page)
    ≡ sum_by (λ (w : Visit). points store.day w.date (visit_bonus store w)) (sample_of store page)
sample_alike store ids items page same =
    let Alike : Visit → Type 0 =
    λ (w : Visit). points store.day w.date (visit_bonus (with_items ids items store) w)
    ≡ points store.day w.date (visit_bonus store w) in
    sum_by-agree (λ (w : Visit). points store.day w.date (visit_bonus (with_items ids items store) w))
    (λ (w : Visit). points store.day w.date (visit_bonus store w)) (sample_of store page)
    (All-take Alike 10 (latest_first (visits_of store page))
    (All-from_recursion Alike (latest_first (visits_of store page))
    (all-latest_first Alike (visits_of store page)
    (where_passes Alike (λ (w : Visit). w.page.0 == page.0) store.visits
    (recursion_from_All (λ (w : Visit). (w.page.0 == page.0) ≡ true → Alike w) store.visits
    (λ k d within of. points_alike store ids items page (get_or store.visits k d) same of))))))

frecency_alike : (store : Store) (ids : Ids) (items : List Item) (p : Page)
    → has_reference items p.id ≡ is_referenced store p.id
    → frecency_of (with_items ids items store) p ≡ frecency_of store p
frecency_alike store ids items p same =
    ap (λ (total : ℕ). frecency_from total (length (sample_of store p.id)) (visit_count store p.id)
    (has_reference items p.id) p.typed (is_place_url p.url))
    (sample_alike store ids items p.id same)
    ∙ ap (λ (b : Bool). frecency_from (sum_by (λ (w : Visit). points store.day w.date (visit_bonus store w))
    (sample_of store p.id)) (length (sample_of store p.id)) (visit_count store p.id) b p.typed (is_place_url p.url))
    same

-- ---- the rows

-- pages that an item has or not as before stay right
pub right_alike : (kept : Kept) (ids : Ids) (items : List Item) (but : List PageId)
    → All (λ (p : KeptPage). list_any (λ (id : PageId). p.page.id.0 == id.0) but ≡ false
    → has_reference items p.page.id ≡ has_reference kept.items p.page.id) kept.pages
    → AreRightBut but kept → AreRightBut but (with_tree ids items kept)
right_alike kept ids items but same right k d within other =
    let was = right k d within other in (
      was.0 ∙ sym (frecency_alike (store_of kept) ids items (get_or kept.pages k d).page (same k d within other)),
      was.1,
      was.2,
    )

-- where each page has an item or not as before, the rows stay sound
pub sound_alike : (kept new : Kept) (ids : Ids) (items : List Item) → new ≡ with_tree ids items kept → IsWellKept kept
    → IsWellKept new → HasGoodItems (store_of new)
    → ((page : PageId) → has_reference items page ≡ has_reference kept.items page) → IsSound kept → IsSound new
sound_alike kept new ids items is well h good same s =
    let standing : AreStanding kept = standing_of kept s.good in
    let right : AreRightBut [] (with_tree ids items kept) =
    right_alike kept ids items [] (λ k d within _. same (get_or kept.pages k d).page.id)
    (λ k d within _. (s.right.frecencies k d within, s.right.counts k d within, s.right.hidden k d within)) in
    let all : IsRight (with_tree ids items kept) =
    record {
      frecencies = λ k d within. (right k d within refl).0;
      counts = s.right.counts;
      hidden = s.right.hidden;
    } in
    subst IsSound (sym is)
    (record {
      good =
          good_of (with_tree ids items kept) (subst IsWellKept is h)
          (subst (λ (k : Kept). HasGoodItems (store_of k)) is good)
          (record {
            by_row = λ k d within. rw (same (get_or kept.pages k d).page.id) (standing.by_row k d within);
            typed = standing.typed;
          });
      right = all;
      totals =
          totals_of_sums (with_tree ids items kept) all
          (sums_still kept (with_tree ids items kept) refl refl (sums_of_sound kept well s));
    })

-- ---- items that change

-- a change that keeps the page of each
pub reference_mapped : (f : Item → Item) (items : List Item) (page : PageId) → ((i : Item) → (f i).page ≡ i.page)
    → has_reference (map f items) page ≡ has_reference items page
reference_mapped f items page keeps =
    list_any-map (λ (i : Item). is_page page i.page) f items
    ∙ list_any-alike (λ (i : Item). is_page page (f i).page) (λ (i : Item). is_page page i.page) items
    (λ i. ap (is_page page) (keeps i))

pub reference_changed : (id : ItemId) (change : Item → Item) (items : List Item) (page : PageId)
    → ((i : Item) → (change i).page ≡ i.page)
    → has_reference (with_changed id change items) page ≡ has_reference items page
reference_changed id change items page keeps =
    reference_mapped (λ (i : Item). if i.id.0 == id.0 then change i else i) items page
    (λ i. choose (i.id.0 == id.0) i)
  where
    choose : (b : Bool) (i : Item) → (if b then change i else i).page ≡ i.page
    choose true i = keeps i
    choose false i = refl

pub reference_moved : (id parent : ItemId) (place : Place) (date : Micros) (items : List Item) (page : PageId)
    → has_reference (with_moved id parent place date items) page ≡ has_reference items page
reference_moved id parent place date items page =
    reference_changed id (λ (i : Item). record i { modified = date }) (with_child parent place id (taken_out id items))
    page (λ i. refl)
    ∙ reference_changed parent (λ (i : Item). record i { children = put place id i.children }) (taken_out id items) page
    (λ i. refl)
    ∙ reference_mapped (leaving id) items page (λ i. refl)
