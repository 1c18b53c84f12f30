-- The latest dates of a page's bookmarks, by a walk over its items.
use Rattle.std.proofs.Common.{◌≡◌, ◌∙◌, ◌++◌, ◌==◌, ◌&&◌, ℕ, Bool, true, false, not, List, [], ◌∷◌, Option}
use Rattle.std.proofs.Common.{Some}
use Rattle.std.proofs.Common.{None, ap, arith, filter, if◌then◌else◌, is_some, map, max, refl, sym}
use Rattle.std.specs.Option.{is_none}
use Rattle.std.proofs.lemmas.List.{append-nil, map-append}
use Rattle.std.proofs.lemmas.List.Elements.{filter-append}
use Rattle.pl_base.specs.declared.date.Micros.{Micros}
use Rattle.pl_base.specs.declared.id.ItemId.{ItemId}
use Rattle.pl_base.specs.declared.id.PageId.{PageId}
use Rattle.pl_base.specs.declared.item.ItemRow.{ItemRow}
use Rattle.pl_base.specs.Store.{Item, Store}
use Rattle.pl_base.specs.Tags.{is_tag_entry}
use Rattle.pl_base.specs.Tree.{is_page, item_at}
use Rattle.pl_base.proofs.LookUps.{found_passes}
use Rattle.pl_base.proofs.ItemLookUps.{same_item}
use Rattle.pl_base.proofs.ReferencesRun.{having}
use Rattle.pl_marks.specs.TagFolders.{tag_folder}
use Rattle.pl_marks.proofs.PageTags.{outside_is}
use Rattle.pl_query.specs.declared.mark_dates.MarkDates.{MarkDates}
use Rattle.pl_query.specs.MarkDates.{later_of, with_item}
use Rattle.pl_query.specs.QueryAnswer.{greatest, last_added, last_modified}

-- ---- one item

-- an item is in a tag folder where one is found
pub entry_is : (store : Store) (item : ItemId) (i : Item) (inside : Bool) → item_at store.items item ≡ Some i
    → is_some (tag_folder store.items item) ≡ inside → is_tag_entry store i.id ≡ inside
entry_is store item i inside at is =
    ap (is_tag_entry store) (same_item i.id item (found_passes (λ (j : Item). j.id.0 == item.0) store.items i at))
    ∙ turned (is_tag_entry store item) (tag_folder store.items item) (outside_is store item) ∙ is
  where
    turned : (b : Bool) (o : Option ItemId) → is_none o ≡ not b → b ≡ is_some o
    turned true None is = absurd (cc)
    turned false None is = refl
    turned true (Some f) is = refl
    turned false (Some f) is = absurd (cc)

pub outside : (store : Store) (dates : MarkDates) (i : Item) → is_tag_entry store i.id ≡ false
    → with_item store dates i ≡ later_of dates i
outside store dates i is = ap (λ (b : Bool). if b then dates else later_of dates i) is

pub inside : (store : Store) (dates : MarkDates) (i : Item) → is_tag_entry store i.id ≡ true
    → with_item store dates i ≡ dates
inside store dates i is = ap (λ (b : Bool). if b then dates else later_of dates i) is

-- ---- one number more

greatest_more : (ns : List ℕ) (n : ℕ) → greatest (ns ++ n ∷ []) ≡ max (greatest ns) n
greatest_more [] n = omega arith
greatest_more (m ∷ ns) n = omega (arith, greatest_more ns n)

-- ---- the walk

-- the dates are the latest of the bookmarks among these items
abbrev marks_among : Store → List Item → List Item
marks_among store items = filter (λ (i : Item). not (is_tag_entry store i.id)) items

pub record AreLatest (store : Store) (dates : MarkDates) (front : List Item) : Type 0 where
  pub added : dates.added.0 ≡ greatest (map (λ (i : Item). i.added.0) (marks_among store front))
  pub modified : dates.modified.0 ≡ greatest (map (λ (i : Item). i.modified.0) (marks_among store front))

one_more : (store : Store) (date : Item → ℕ) (old new : ℕ) (front : List Item) (i : Item)
    → old ≡ greatest (map date (marks_among store front))
    → new ≡ (if is_tag_entry store i.id then old else max old (date i))
    → new ≡ greatest (map date (marks_among store (front ++ i ∷ [])))
one_more store date old new front i so_far is =
    is ∙ choose (is_tag_entry store i.id)
    ∙ ap (λ (items : List Item). greatest (map date items)) (sym (filter-append mark front (i ∷ [])))
  where
    mark : Item → Bool
    mark j = not (is_tag_entry store j.id)

    choose : (b : Bool) → (if b then old else max old (date i))
        ≡ greatest (map date (marks_among store front ++ (if not b then i ∷ [] else [])))
    choose true =
        so_far ∙ ap (λ (items : List Item). greatest (map date items)) (sym (append-nil (marks_among store front)))
    choose false =
        ap (λ (n : ℕ). max n (date i)) so_far
        ∙ sym (ap greatest (map-append date (marks_among store front) (i ∷ []))
        ∙ greatest_more (map date (marks_among store front)) (date i))

added_of : (store : Store) (dates : MarkDates) (i : Item)
    → (with_item store dates i).added.0
    ≡ (if is_tag_entry store i.id then dates.added.0 else max dates.added.0 i.added.0)
added_of store dates i = choose (is_tag_entry store i.id)
  where
    choose : (b : Bool) → (if b then dates else later_of dates i).added.0
        ≡ (if b then dates.added.0 else max dates.added.0 i.added.0)
    choose true = refl
    choose false = refl

modified_of : (store : Store) (dates : MarkDates) (i : Item) → (with_item store dates i).modified.0
    ≡ (if is_tag_entry store i.id then dates.modified.0 else max dates.modified.0 i.modified.0)
modified_of store dates i = choose (is_tag_entry store i.id)
  where
    choose : (b : Bool) → (if b then dates else later_of dates i).modified.0
        ≡ (if b then dates.modified.0 else max dates.modified.0 i.modified.0)
    choose true = refl
    choose false = refl

pub latest_more : (store : Store) (old new : MarkDates) (front : List Item) (i : Item) → AreLatest store old front
    → new ≡ with_item store old i → AreLatest store new (front ++ i ∷ [])
latest_more store old new front i so_far is =
    record {
      added =
          one_more store (λ (j : Item). j.added.0) old.added.0 new.added.0 front i so_far.added
          (ap (λ (d : MarkDates). d.added.0) is ∙ added_of store old i);
      modified =
          one_more store (λ (j : Item). j.modified.0) old.modified.0 new.modified.0 front i so_far.modified
          (ap (λ (d : MarkDates). d.modified.0) is ∙ modified_of store old i);
    }

-- ---- all of the page

pub marks_are : (store : Store) (page : PageId) (items : List Item)
    → filter (λ (i : Item). is_page page i.page && not (is_tag_entry store i.id)) items
    ≡ marks_among store (having items page)
marks_are store page [] = refl
marks_are store page (i ∷ items) = choose (is_page page i.page) (marks_are store page items)
  where
    choose : (b : Bool)
        → filter (λ (j : Item). is_page page j.page && not (is_tag_entry store j.id)) items
        ≡ marks_among store (having items page)
        → (if b && not (is_tag_entry store i.id)
        then i ∷ filter (λ (j : Item). is_page page j.page && not (is_tag_entry store j.id)) items
        else filter (λ (j : Item). is_page page j.page && not (is_tag_entry store j.id)) items)
        ≡ marks_among store (if b then i ∷ having items page else having items page)
    choose true rest =
        ap (λ (is : List Item). if not (is_tag_entry store i.id) then i ∷ is else is) rest
    choose false rest = rest

pub last_added_is : (store : Store) (page : PageId) (dates : MarkDates)
    → AreLatest store dates (having store.items page) → dates.added.0 ≡ last_added store page
last_added_is store page dates are =
    are.added ∙ ap (λ (is : List Item). greatest (map (λ (i : Item). i.added.0) is))
    (sym (marks_are store page store.items))

pub last_modified_is : (store : Store) (page : PageId) (dates : MarkDates)
    → AreLatest store dates (having store.items page) → dates.modified.0 ≡ last_modified store page
last_modified_is store page dates are =
    are.modified ∙ ap (λ (is : List Item). greatest (map (λ (i : Item). i.modified.0) is))
    (sym (marks_are store page store.items))

pub dates_alike : (dates : MarkDates) (i : Item) (added modified : Micros) (row : ItemRow)
    → added.0 ≡ max dates.added.0 row.added.0 → modified.0 ≡ max dates.modified.0 row.modified.0
    → row.added.0 ≡ i.added.0 → row.modified.0 ≡ i.modified.0
    → ◌≡◌ {A = MarkDates} (record { added = added; modified = modified }) (later_of dates i)
dates_alike dates i added modified row added_is modified_is first second =
    ap (λ (n : ℕ). made n modified.0) (added_is ∙ ap (max dates.added.0) first)
    ∙ ap (λ (n : ℕ). made (max dates.added.0 i.added.0) n) (modified_is ∙ ap (max dates.modified.0) second)
  where
    made : ℕ → ℕ → MarkDates
    made m n = record { added = record { 0 = m }; modified = record { 0 = n } }
