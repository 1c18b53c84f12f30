-- The rows that answer a query, told by the views of pages.
use Rattle.std.proofs.Common.{◌≡◌, ◌∙◌, ◌&&◌, ℕ, Bool, true, false, List, [], ◌∷◌, Ordering, ap, arith, filter}
use Rattle.std.proofs.Common.{if◌then◌else◌, is_lt, map, nat_cmp, pos, refl, sym}
use Rattle.std.specs.List.{AllByRecursion, Contains}
use Rattle.std.specs.Ordering.{int_cmp, ordering_reverse, ordering_then}
use Rattle.std.proofs.lemmas.Bool.Decides.{nat_tests}
use Rattle.pl_base.specs.declared.view.View.{View}
use Rattle.pl_base.specs.Marks.{last_date_of, visit_count}
use Rattle.pl_base.specs.Sorting.{sorted_by}
use Rattle.pl_base.specs.Store.{Page, Store}
use Rattle.pl_base.specs.View.{AreViews, IsViewOf}
use Rattle.pl_base.proofs.SortLaws.{members}
use Rattle.pl_conditions.specs.Conditions.{history_holds}
use Rattle.pl_place.specs.declared.query.Query.{Query}
use Rattle.pl_place.specs.declared.sort.Direction.TheVariants.{Ascending, Descending}
use Rattle.pl_place.specs.declared.sort.Sort.{Sort}
use Rattle.pl_place.specs.declared.sort.Sort.TheVariants.{Unsorted, By}
use Rattle.pl_place.specs.declared.sort.SortKey.{SortKey}
use Rattle.pl_place.specs.declared.sort.SortKey.TheVariants.{Title, Date, Url, VisitCount}
use Rattle.pl_place.specs.declared.sort.SortKey.TheVariants.{Added, Modified, Tags, Frecency}
use Rattle.pl_query.specs.Decides.{is_by_mark_date, is_mark_date}
use Rattle.pl_query.specs.Order as rows
use Rattle.pl_query.specs.Order.{Row, comes_before, row_cmp}
use Rattle.pl_query.specs.QueryAnswer.{has_visit_in_times, history_row, limited, page_rows, told_row}
use Rattle.pl_indexed.specs.Answer.{first_asked, row_of_view}
use Rattle.pl_indexed.specs.Found.{key_cmp, key_value, place_cmp, place_of, view_before}
use Rattle.pl_indexed.proofs.AlikeLists.{AreAlike, alike_limited, alike_map, alike_sorted}
use Rattle.pl_indexed.proofs.KeyOrder.{keys_total}

counts_alike : (m n : ℕ) → nat_cmp m n ≡ int_cmp (pos m) (pos n)
counts_alike m n = grind (arith, nat_tests)

module _ (store : Store) where
  -- a row is that of a page, and the view is that of the same page
  record Tells (row : Row) (view : View) : Type 0 where
    pub page : Page
    pub of : IsViewOf store page view
    pub is : row ≡ history_row store page.id.0 page (last_date_of store page.id)

  told_alike : (row : Row) (view : View) → Tells row view → told_row store row ≡ row_of_view view
  told_alike row view t = ap (told_row store) t.is ∙ sym same
    where
      same : row_of_view view ≡ told_row store (history_row store t.page.id.0 t.page (last_date_of store t.page.id))
      same = rw (t.of.id, t.of.url, t.of.title, t.of.last, t.of.count, t.of.frecency, t.of.tags) refl

  -- ---- their order

  keys_alike : (key : SortKey) → is_mark_date key ≡ false → (p o : Page) (v w : View) → IsViewOf store p v
      → IsViewOf store o w
      → rows.key_cmp store key (history_row store p.id.0 p (last_date_of store p.id))
      (history_row store o.id.0 o (last_date_of store o.id))
      ≡ key_cmp (key_value key v) (key_value key w)
  keys_alike Title undated p o v w one two = rw (one.title, two.title) refl
  keys_alike Date undated p o v w one two = rw (one.last, two.last) refl
  keys_alike Url undated p o v w one two = rw (one.url, two.url) refl
  keys_alike VisitCount undated p o v w one two =
      rw (one.count, two.count) (counts_alike (visit_count store p.id) (visit_count store o.id))
  keys_alike Added undated p o v w one two = absurd (cc)
  keys_alike Modified undated p o v w one two = absurd (cc)
  keys_alike Tags undated p o v w one two = rw (one.tags, two.tags) refl
  keys_alike Frecency undated p o v w one two = rw (one.frecency, two.frecency) refl

  ids_alike : (p o : Page) (v w : View) → IsViewOf store p v → IsViewOf store o w
      → nat_cmp p.id.0 o.id.0 ≡ nat_cmp v.id.0 w.id.0
  ids_alike p o v w one two = rw (one.id, two.id) refl

  places_alike : (sort : Sort) → is_by_mark_date sort ≡ false → (p o : Page) (v w : View) → IsViewOf store p v
      → IsViewOf store o w
      → row_cmp store sort (history_row store p.id.0 p (last_date_of store p.id))
      (history_row store o.id.0 o (last_date_of store o.id))
      ≡ place_cmp sort (place_of sort v) (place_of sort w)
  places_alike Unsorted undated p o v w one two = ids_alike p o v w one two
  places_alike (By key Ascending) undated p o v w one two =
      ap (λ (r : Ordering). ordering_then r (nat_cmp p.id.0 o.id.0)) (keys_alike key undated p o v w one two)
      ∙ ap (ordering_then (key_cmp (key_value key v) (key_value key w))) (ids_alike p o v w one two)
  places_alike (By key Descending) undated p o v w one two =
      ap (λ (r : Ordering). ordering_then (ordering_reverse r) (nat_cmp p.id.0 o.id.0))
      (keys_alike key undated p o v w one two)
      ∙ ap (λ (r : Ordering). ordering_then r (nat_cmp p.id.0 o.id.0))
      (sym (keys_total.antisymm (key_value key w) (key_value key v)))
      ∙ ap (ordering_then (key_cmp (key_value key w) (key_value key v))) (ids_alike p o v w one two)

  stand_alike : (sort : Sort) → is_by_mark_date sort ≡ false → (r s : Row) (v w : View) → Tells r v → Tells s w
      → comes_before store sort r s ≡ view_before sort v w
  stand_alike sort undated r s v w one two =
      ap (λ (x : Row). comes_before store sort x s) one.is
      ∙ ap (comes_before store sort (history_row store one.page.id.0 one.page (last_date_of store one.page.id))) two.is
      ∙ ap is_lt (places_alike sort undated one.page two.page v w one.of two.of)

  -- ---- the rows of a query of which a test of views tells what it takes

  module _ (q : Query) (takes : View → Bool)
      (told : (p : Page) (v : View) → Contains store.pages p → IsViewOf store p v
      → takes v ≡ (has_visit_in_times store q p.id && history_holds store q p)) where
    rows_told : (pages : List Page) (views : List View) → AllByRecursion (Contains store.pages) pages
        → AreViews store pages views
        → AreAlike Tells
        (map (λ (p : Page). history_row store p.id.0 p (last_date_of store p.id))
        (filter (λ (p : Page). has_visit_in_times store q p.id && history_holds store q p) pages))
        (filter takes views)
    rows_told [] [] among of = tt
    rows_told [] (v ∷ vs) among of = absurd of
    rows_told (p ∷ ps) [] among of = absurd of
    rows_told (p ∷ ps) (v ∷ vs) among of =
        choose (has_visit_in_times store q p.id && history_holds store q p) (takes v) (told p v among.0 of.0)
        (rows_told ps vs among.1 of.1)
      where
        row : Page → Row
        row p = history_row store p.id.0 p (last_date_of store p.id)

        rest : List Page
        rest = filter (λ (p : Page). has_visit_in_times store q p.id && history_holds store q p) ps

        choose : (a b : Bool) → b ≡ a → AreAlike Tells (map row rest) (filter takes vs)
            → AreAlike Tells (map row (if a then p ∷ rest else rest)) (if b then v ∷ filter takes vs else filter takes vs)
        choose true true is more = (record { page = p; of = of.0; is = refl }, more)
        choose true false is more = absurd (cc)
        choose false true is more = absurd (cc)
        choose false false is more = more

    pub rows_are : (views : List View) → AreViews store store.pages views → is_by_mark_date q.sort ≡ false
        → map row_of_view (first_asked q (filter takes views))
        ≡ map (told_row store)
        (limited q.max_results (sorted_by (comes_before store q.sort) (page_rows store q)))
    rows_are views of undated =
        sym (alike_map Tells (told_row store) row_of_view told_alike
        (limited q.max_results (sorted_by (comes_before store q.sort) (page_rows store q)))
        (first_asked q (filter takes views))
        (alike_limited Tells q.max_results (sorted_by (comes_before store q.sort) (page_rows store q))
        (sorted_by (view_before q.sort) (filter takes views))
        (alike_sorted Tells (comes_before store q.sort) (view_before q.sort)
        (λ r s v w one two. stand_alike q.sort undated r s v w one two) (page_rows store q) (filter takes views)
        (rows_told store.pages views (members store.pages) of))))
