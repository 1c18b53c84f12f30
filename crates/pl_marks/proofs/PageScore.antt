-- The frecency of a page, and whether an item has it.
use Rattle.std.proofs.Common.{◌≡◌, ◌∙◌, ◌<◌, ◌≤◌, ◌==◌, ◌||◌, if◌then◌else◌, ℕ, Bool, true, false, List, [], ◌∷◌}
use Rattle.std.proofs.Common.{Option, ap, arith, filter, is_some, length, map, refl, subst, sym, take, ℤ}
use Rattle.std.specs.List.{list_any}
use Rattle.std.proofs.lemmas.List.{length-map, length-take}
use Rattle.std.proofs.lemmas.List.Sums.{length-filter}
use Rattle.pl_base.specs.declared.date.Day.{Day}
use Rattle.pl_base.specs.declared.id.PageId.{PageId}
use Rattle.pl_base.specs.declared.row.VisitRow.{VisitRow}
use Rattle.pl_base.specs.declared.transition.Transition.{Transition}
use Rattle.pl_base.specs.Address.{is_place_url}
use Rattle.pl_base.specs.Frecency.{frecency_from, frecency_of, unvisited_frecency, visited_frecency}
use Rattle.pl_base.specs.Marks.{is_counted, is_referenced, visit_count}
use Rattle.pl_base.specs.Redirects.{is_redirect_source, source_transition}
use Rattle.pl_base.specs.Rows.{IsWellKept, Kept, page_visits, row_of, store_of}
use Rattle.pl_base.specs.Store.{Item, Page, Store, Visit}
use Rattle.pl_base.specs.Tables.{bonus_of}
use Rattle.pl_base.specs.Totals.{most_share, share}
use Rattle.pl_base.specs.Tree.{first_item, is_page, references}
use Rattle.pl_base.specs.Visits.{sample_of, visits_of, sample_size}
use Rattle.pl_score.specs.declared.sample.Sampled.{Sampled}
use Rattle.pl_score.specs.Sample.{points_of, sampled_of}
use Rattle.pl_score.proofs.StoreSamples.{frecency-sampled}
use Rattle.pl_base.proofs.ListLaws.{count_by-and-le}
use Rattle.pl_base.proofs.SmallFrecencies.{small_in}
use Rattle.pl_base.proofs.VisitsLaws.{length-latest_first}

-- a first item with the page is there where an item has it
pub referenced_by_first : (items : List Item) (page : PageId)
    → is_some (first_item (references items page)) ≡ list_any (λ (i : Item). is_page page i.page) items
referenced_by_first [] page = refl
referenced_by_first (i ∷ items) page = choose (is_page page i.page) (referenced_by_first items page)
  where
    choose : (b : Bool)
        → is_some (first_item (references items page)) ≡ list_any (λ (j : Item). is_page page j.page) items
        → is_some (first_item (map (λ (j : Item). j.id)
        (if b then i ∷ filter (λ (j : Item). is_page page j.page) items
        else filter (λ (j : Item). is_page page j.page) items)))
        ≡ (b || list_any (λ (j : Item). is_page page j.page) items)
    choose true rest = refl
    choose false rest = rest

-- what is sampled of a visit
pub sampled_is : (store : Store) (v : Visit) (row : VisitRow) (source : Option Transition) (led referenced : Bool)
    (bonus : ℕ) → row ≡ row_of v → source ≡ source_transition store v → led ≡ is_redirect_source store v
    → referenced ≡ is_referenced store v.page → bonus ≡ bonus_of row.transition source led referenced
    → ◌≡◌ {A = Sampled} (record { date = row.date; bonus = bonus }) (sampled_of store v)
sampled_is store v row source led referenced bonus rows came leads refers is =
    ap (λ (r : VisitRow). record { date = r.date; bonus = bonus }) rows
    ∙ ap (λ (n : ℕ). record { date = v.date; bonus = n })
    (is ∙ ap (λ (r : VisitRow). bonus_of r.transition source led referenced) rows
    ∙ ap (λ (o : Option Transition). bonus_of v.transition o led referenced) came
    ∙ ap (λ (b : Bool). bonus_of v.transition (source_transition store v) b referenced) leads
    ∙ ap (bonus_of v.transition (source_transition store v) (is_redirect_source store v)) refers)

-- a page with visits that count has a sample
pub sample_filled : (kept : Kept) (page : PageId) (sample : List Sampled) (count : ℕ)
    → sample ≡ map (sampled_of (store_of kept)) (take sample_size (page_visits kept page))
    → count ≡ visit_count (store_of kept) page → 0 < count → 0 < length sample
sample_filled kept page sample count is counted some =
    omega (
      arith,
      ap length is,
      length-map (take sample_size (page_visits kept page)) (sampled_of (store_of kept)),
      length-take sample_size (page_visits kept page),
      length-latest_first (visits_of (store_of kept) page),
      length-filter (λ (v : Visit). v.page.0 == page.0) kept.visits,
      count_by-and-le (λ (v : Visit). v.page.0 == page.0) (λ (v : Visit). is_counted v.transition) kept.visits,
    )

pub score_is : (kept : Kept) (page : PageId) (p : Page) (sample : List Sampled) (day : Day) (count : ℕ)
    (referenced typed place : Bool)
    → sample ≡ map (sampled_of (store_of kept)) (take sample_size (page_visits kept page)) → day ≡ kept.day
    → count ≡ visit_count (store_of kept) page → referenced ≡ is_referenced (store_of kept) page → p.id ≡ page
    → typed ≡ p.typed → place ≡ is_place_url p.url
    → frecency_from (points_of day sample) (length sample) count referenced typed place
    ≡ frecency_of (store_of kept) p
score_is kept page p sample day count referenced typed place is today counted refers same types places =
    let store : Store = store_of kept in
    let sampled : sample ≡ map (sampled_of store) (sample_of store p.id) =
    is ∙ ap (λ (id : PageId). map (sampled_of store) (sample_of store id)) (sym same) in
    let counts : count ≡ visit_count store p.id = counted ∙ ap (visit_count store) (sym same) in
    let refers_to : referenced ≡ is_referenced store p.id = refers ∙ ap (is_referenced store) (sym same) in
    rw (sampled, today, counts, refers_to, types, places) (frecency-sampled store p)

-- ---- that it is small

unvisited-small : (referenced typed place : Bool) → share (unvisited_frecency referenced typed place) ≤ most_share
unvisited-small true true true = omega arith
unvisited-small true true false = omega arith
unvisited-small true false true = omega arith
unvisited-small true false false = omega arith
unvisited-small false typed place = omega arith

-- whether the address holds a query bears on unvisited pages alone
other_place : (total sampled count : ℕ) (referenced typed a b : Bool)
    → share (frecency_from total sampled count referenced typed a) ≤ most_share
    → share (frecency_from total sampled count referenced typed b) ≤ most_share
other_place total sampled count referenced typed a b small = choose (count == 0) small
  where
    choose : (none : Bool)
        → share (if none then unvisited_frecency referenced typed a else visited_frecency total sampled count)
        ≤ most_share
        → share (if none then unvisited_frecency referenced typed b else visited_frecency total sampled count)
        ≤ most_share
    choose true low = unvisited-small referenced typed b
    choose false low = low

pub score_small : (kept : Kept) (page : PageId) (sample : List Sampled) (day : Day) (count : ℕ)
    (referenced typed place : Bool) → IsWellKept kept
    → sample ≡ map (sampled_of (store_of kept)) (take sample_size (page_visits kept page)) → day ≡ kept.day
    → count ≡ visit_count (store_of kept) page → referenced ≡ is_referenced (store_of kept) page
    → share (frecency_from (points_of day sample) (length sample) count referenced typed place) ≤ most_share
score_small kept page sample day count referenced typed place well is today counted refers =
    let p : Page = record { id = page; url = []; title = []; typed = typed } in
    let apart : Bool = is_place_url p.url in
    other_place (points_of day sample) (length sample) count referenced typed apart place
    (subst (λ (z : ℤ). share z ≤ most_share)
    (sym (score_is kept page p sample day count referenced typed apart is today counted refers refl refl refl))
    (small_in kept p well))
